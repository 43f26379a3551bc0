-- The answers to the messages of a feedback datagram, each on what was noted before it.
use Rattle.std.specs.Prelude.{ℕ, ◌%◌, Bool, true, ◌&&◌, ◌==◌, not, nat_le, nat_lt, if◌then◌else◌, List, [], ◌∷◌, length, find, Option, Some, None, Result, Ok, Err}
use Rattle.rams_model.specs.declared.{fault.TlvFault.TlvFault, held.Held.Held, message.Stop.Stop, note.Note.Note}
use Rattle.rams_model.specs.declared.note.Cause.TheVariants as cause
use Rattle.rams_model.specs.declared.note.Note.TheVariants as note
use Rattle.rams_model.specs.Service.ChannelSettings.{Settings}
use Rattle.rams_model.specs.Formats.{Framed, bye_names}
use Rattle.rams_model.specs.Service.Messages.{Message, bye, nack, asks, stops}
use Rattle.rams_model.specs.Service.Rates.{stop_of}
use Rattle.rams_model.specs.Service.ChannelHistory.{told, noted, History, hold}
use Rattle.rams_model.specs.Service.Clients.{known, is_among, ssrc}
use Rattle.rams_model.specs.Service.Bursts.{Burst, next, open_burst, has_open}
use Rattle.rams_model.specs.Service.Pending.{pending, pending_of, is_pending}
use Rattle.rams_model.specs.Service.Verdict.{is_full, verdict}

-- the number is below the stop, where one is set
abbrev pub is_before : Option ℕ → ℕ → Bool
is_before None n = true
is_before (Some stop) n = nat_lt n stop

-- the open burst will send the packet
abbrev pub is_early : Option Burst → ℕ → Bool
is_early None n = Bool.false
is_early (Some b) n = nat_le (next b) n && is_before b.stop n

-- How many repairs may be pending.
pub record Room : Type 0 where
  pub of_client : ℕ
  pub in_all : ℕ

-- 256 of a client, and 4,096 in all
abbrev pub room : Room
room = record { of_client = 256; in_all = 4096 }

-- the answer to a number that is held
abbrev pub repair_note : Room → Settings → ℕ → History → ℕ → Note
repair_note most s k history n =
    if is_early (open_burst s k history) n then note.Early k n
    else if is_pending k n history then note.Already k n
    else if is_full s k history then note.TableFull k n
    else if nat_le most.of_client (length (pending_of k history)) then note.ClientFull k n
    else if nat_le most.in_all (length (pending history)) then note.QueueFull k n
    else note.Queued k n

-- the answer to a number, with the held packet that has these low 16 bits
abbrev pub held_answer : Room → Settings → ℕ → History → ℕ → Option Held → Note
held_answer most s k history low None = note.Unheld k low
held_answer most s k history low (Some h) = repair_note most s k history h.n

-- The answer to a number that a NACK names, of 16 bits (RFC 4585, 6.2.1).
unfoldable pub number_answer : Room → Settings → List Held → ℕ → History → ℕ → Note
number_answer most s held k history low = held_answer most s k history low (find (λ h. h.n % 65536 == low) held)

-- each number is answered on the notes before it
unfoldable pub after_numbers : Settings → List Held → ℕ → List ℕ → History → History
after_numbers s held k [] history = history
after_numbers s held k (low ∷ lows) history = after_numbers s held k lows (noted (number_answer room s held k history low) None ∷ history)

-- A NACK about another media source is answered as a whole.
abbrev pub after_nack : Settings → ℕ → ℕ → List ℕ → History → History
after_nack s k media lows history =
    if media == s.channel.ssrc then after_numbers s (hold s history) k lows history else noted (note.ForeignNack k) None ∷ history

-- a burst whose next packet is the one before which it stops has ended
abbrev pub stop_set : ℕ → ℕ → ℕ → History → History
stop_set k next stop history =
    if stop == next then noted (note.End k cause.Stopped) None ∷ noted (note.StopAt k stop) None ∷ history else noted (note.StopAt k stop) None ∷ history

-- the first stop stays
abbrev pub on_stop : ℕ → Burst → Option ℕ → Option ℕ → History → History
on_stop k b named (Some stop) history = noted (note.StopKept k stop) None ∷ history
on_stop k b named None history = stop_set k (next b) (stop_of b.first (next b) named) history

-- a stop of the open burst, where there is one
abbrev pub stop_burst : ℕ → Option ℕ → Option Burst → History → History
stop_burst k named None history = noted (note.StopIdle k) None ∷ history
stop_burst k named (Some b) history = on_stop k b named b.stop history

-- The answer to a RAMS-T (RFC 6285, 7.4).
abbrev pub after_stop : Settings → ℕ → Result Stop TlvFault → History → History
after_stop s k (Err fault) history = noted (note.Refuse k 404) None ∷ history
after_stop s k (Ok stop) history = stop_burst k stop.first_multicast (open_burst s k history) history

-- the BYE names the source that the client is known by
abbrev pub is_bye_of : Framed → Option ℕ → Bool
is_bye_of p None = Bool.false
is_bye_of p (Some ssrc) = bye_names p ssrc

-- The answer to a BYE (RFC 3550, 6.6): a known client leaves, and its open burst ends.
abbrev pub after_bye : Settings → ℕ → Framed → History → History
after_bye s k p history =
    if not (is_among k (known history) && is_bye_of p (ssrc k history)) then noted (note.ByeIdle k) None ∷ history
    else if has_open s k history then noted (note.End k cause.Bye) None ∷ noted (note.Bye k) None ∷ history
    else noted (note.Bye k) None ∷ history

-- the answer to a message
abbrev pub after_message : Settings → ℕ → Message → History → History
after_message s k (bye p) history = after_bye s k p history
after_message s k (nack media sender lows) history = after_nack s k media lows history
after_message s k (asks sender request) history = noted (verdict s k history request) None ∷ history
after_message s k (stops stop) history = after_stop s k stop history

-- The messages of a datagram are answered in order.
unfoldable pub after_messages : Settings → ℕ → List Message → History → History
after_messages s k [] history = history
after_messages s k (m ∷ ms) history = after_messages s k ms (after_message s k m (told k m ∷ history))
