-- What each kind of note asks of the history in front of it. Each note of a channel's history does so: `Legality` proves it, and most laws of bursts, budgets and answers stand on it.
use Rattle.std.proofs.Common.{◌≡◌, ℕ, ◌≤◌, Bool, true, false, List, [], ◌∷◌, ◌++◌, Option, Some, None}
use Rattle.std.specs.Prelude.{◌==◌, ◌&&◌, if◌then◌else◌, Result, Ok, Err, ◌⊎◌, Contains, find}
use Rattle.rams_model.specs.declared.{fault.TlvFault.TlvFault, held.Held.Held, message.Stop.Stop, note.Cause.Cause, note.Note.Note}
use Rattle.rams_model.specs.declared.note.Cause.TheVariants as cause
use Rattle.rams_model.specs.declared.note.Note.TheVariants as note
use Rattle.rams_model.specs.Service.{Settings, stop_of, Message, bye, nack, asks, stops, Heard, tick, began, told, noted, History, hold, known, is_among, sequence, ssrc, Burst, next, open_burst, wanted, pending, idle, channel_left, may_take, verdict, is_before, is_bye_of, room, number_answer, is_lost}
use Rattle.rams_model.specs.Formats.{Framed, Request}

-- the message that is answered, with its client; none where the event isn't a datagram
abbrev pub newest_told : History → Option (ℕ × Message)
newest_told [] = None
newest_told (began heard ∷ history) = None
newest_told (told client message ∷ history) = Some (client, message)
newest_told (noted note packet ∷ history) = newest_told history

-- this message of the client is answered
abbrev pub Answers : History → ℕ → Message → Type 0
Answers history k message = newest_told history ≡ Some (k, message)

abbrev pub is_tick : Heard → Bool
is_tick tick = true
is_tick heard = false

-- the last event that began is a tick
abbrev pub in_tick : History → Bool
in_tick [] = false
in_tick (began heard ∷ history) = is_tick heard
in_tick (told client message ∷ history) = false
in_tick (noted note packet ∷ history) = in_tick history

-- a note of the runs of a tick
abbrev pub is_of_runs : Note → Bool
is_of_runs (note.Burst client n sequence) = true
is_of_runs (note.End client cause) = true
is_of_runs _ = false

-- a tick began, and only runs were noted since
abbrev pub in_runs : History → Bool
in_runs [] = false
in_runs (began heard ∷ history) = is_tick heard
in_runs (told client message ∷ history) = false
in_runs (noted note packet ∷ history) = if is_of_runs note then in_runs history else false

-- the client's open burst
pub record Open (s : Settings) (history : History) (k : ℕ) : Type 0 where
  pub burst : Burst
  pub is_open : open_burst s k history ≡ Some burst

-- a request is answered by its verdict
pub record IsVerdict (s : Settings) (history : History) (k : ℕ) (note : Note) : Type 0 where
  pub sender : ℕ
  pub request : Result Request TlvFault
  pub is_answer : Answers history k (asks sender request)
  pub is_verdict : verdict s k history request ≡ note

-- a RAMS-T that doesn't read is refused
pub record IsUnread (history : History) (k code : ℕ) : Type 0 where
  pub fault : TlvFault
  pub is_answer : Answers history k (stops (Err fault))
  pub code_is : code ≡ 404

-- a number that a NACK names is answered
pub record IsNumberAnswer (s : Settings) (history : History) (k : ℕ) (note : Note) : Type 0 where
  pub sender : ℕ
  pub numbers : List ℕ
  pub low : ℕ
  pub is_answer : Answers history k (nack s.channel.ssrc sender numbers)
  pub among : Contains numbers low
  pub is_number : number_answer room s (hold s history) k history low ≡ note

-- a NACK of another media source
pub record IsForeign (s : Settings) (history : History) (k : ℕ) : Type 0 where
  pub media : ℕ
  pub sender : ℕ
  pub numbers : List ℕ
  pub is_answer : Answers history k (nack media sender numbers)
  pub foreign : (media == s.channel.ssrc) ≡ false

-- the first stop of an open burst is set
pub record Stops (s : Settings) (history : History) (k n : ℕ) : Type 0 where
  pub opened : Open s history k
  pub unset : opened.burst.stop ≡ None
  pub stop : Stop
  pub is_answer : Answers history k (stops (Ok stop))
  pub n_is : n ≡ stop_of opened.burst.first (next opened.burst) stop.first_multicast

-- a stop stays as it is
pub record KeepsStop (s : Settings) (history : History) (k n : ℕ) : Type 0 where
  pub opened : Open s history k
  pub is_set : opened.burst.stop ≡ Some n
  pub stop : Stop
  pub is_answer : Answers history k (stops (Ok stop))

-- there is no burst to stop
pub record FindsNone (s : Settings) (history : History) (k : ℕ) : Type 0 where
  pub none : open_burst s k history ≡ None
  pub stop : Stop
  pub is_answer : Answers history k (stops (Ok stop))

-- a BYE names the source that the client is known by, or doesn't
pub record IsBye (s : Settings) (history : History) (k : ℕ) (known_by : Bool) : Type 0 where
  pub packet : Framed
  pub is_answer : Answers history k (bye packet)
  pub is_known : (is_among k (known history) && is_bye_of packet (ssrc k history)) ≡ known_by

-- the open burst is sent its next packet, which is held, stands before the stop, and fits
pub record Sends (s : Settings) (history : History) (k n number : ℕ) (packet : Option Held) : Type 0 where
  pub opened : Open s history k
  pub n_is : n ≡ next opened.burst
  pub number_is : number ≡ sequence s k history
  pub before : is_before opened.burst.stop n ≡ true
  pub h : Held
  pub packet_is : packet ≡ Some h
  pub h_is : h.n ≡ n
  pub held : Contains (hold s history) h
  pub fits : h.wire ≤ opened.burst.left
  pub running : in_runs history ≡ true

-- a pending repair is sent, which fits into what its client may take and what the channel has left
pub record Repairs (s : Settings) (history : History) (k n number : ℕ) (packet : Option Held) : Type 0 where
  pub waits : Contains (pending history) (wanted k n)
  pub number_is : number ≡ sequence s k history
  pub h : Held
  pub packet_is : packet ≡ Some h
  pub h_is : h.n ≡ n
  pub held : Contains (hold s history) h
  pub fits : h.wire ≤ may_take s (hold s history) k history
  pub fits_channel : h.wire ≤ channel_left s history
  pub ticking : in_tick history ≡ true

-- a pending repair isn't held
pub record IsGone (s : Settings) (history : History) (k n : ℕ) : Type 0 where
  pub waits : Contains (pending history) (wanted k n)
  pub unheld : find (λ h. h.n == n) (hold s history) ≡ None
  pub ticking : in_tick history ≡ true

-- a burst ends: as it has sent all up to its stop, in its run or as the stop is set; as its next packet is lost; after `limit` ticks; or as its client leaves
abbrev pub EndsFor : Settings → History → ℕ → Burst → Cause → Type 0
EndsFor s history k b cause.Stopped = b.stop ≡ Some (next b)
EndsFor s history k b cause.Lost = (is_lost (next b) (hold s history) ≡ true) × (in_runs history ≡ true)
EndsFor s history k b cause.Limit = (b.ticks ≡ s.channel.limit) × (in_runs history ≡ true)
EndsFor s history k b cause.Bye = (before : History) × (packet : Option Held) × (history ≡ noted (note.Bye k) packet ∷ before)

pub record Ends (s : Settings) (history : History) (k : ℕ) (why : Cause) : Type 0 where
  pub opened : Open s history k
  pub ends : EndsFor s history k opened.burst why

-- a known client that was idle for long enough
pub record IsForgotten (s : Settings) (history : History) (k : ℕ) : Type 0 where
  pub is_known : is_among k (known history) ≡ true
  pub is_idle : idle s k history ≡ s.channel.idle
  pub ticking : in_tick history ≡ true

-- What a note asks of the history in front of it.
abbrev pub Allows : Settings → History → Note → Option Held → Type 0
Allows s history (note.Accept k first rate join) packet = IsVerdict s history k (note.Accept k first rate join)
Allows s history (note.Update k rate join) packet = IsVerdict s history k (note.Update k rate join)
Allows s history (note.Again k) packet = IsVerdict s history k (note.Again k)
Allows s history (note.Refuse k code) packet = IsVerdict s history k (note.Refuse k code) ⊎ IsUnread history k code
Allows s history (note.StopAt k n) packet = Stops s history k n
Allows s history (note.StopKept k n) packet = KeepsStop s history k n
Allows s history (note.StopIdle k) packet = FindsNone s history k
Allows s history (note.Queued k n) packet = IsNumberAnswer s history k (note.Queued k n)
Allows s history (note.Already k n) packet = IsNumberAnswer s history k (note.Already k n)
Allows s history (note.Unheld k low) packet = IsNumberAnswer s history k (note.Unheld k low)
Allows s history (note.Early k n) packet = IsNumberAnswer s history k (note.Early k n)
Allows s history (note.TableFull k n) packet = IsNumberAnswer s history k (note.TableFull k n)
Allows s history (note.ClientFull k n) packet = IsNumberAnswer s history k (note.ClientFull k n)
Allows s history (note.QueueFull k n) packet = IsNumberAnswer s history k (note.QueueFull k n)
Allows s history (note.ForeignNack k) packet = IsForeign s history k
Allows s history (note.Bye k) packet = IsBye s history k true
Allows s history (note.ByeIdle k) packet = IsBye s history k false
Allows s history (note.Burst k n number) packet = Sends s history k n number packet
Allows s history (note.Repair k n number) packet = Repairs s history k n number packet
Allows s history (note.Gone k n) packet = IsGone s history k n
Allows s history (note.End k why) packet = Ends s history k why
Allows s history (note.Forgot k) packet = IsForgotten s history k
Allows s history _ packet = Unit {0}

-- Each note was allowed by what stands in front of it.
abbrev pub IsLegal : Settings → History → Type 0
IsLegal s [] = Unit {0}
IsLegal s (noted note packet ∷ history) = Allows s history note packet × IsLegal s history
IsLegal s (began heard ∷ history) = IsLegal s history
IsLegal s (told client message ∷ history) = IsLegal s history

-- an earlier part of a legal history is legal
pub legal_part : (s : Settings) (later history : History) → IsLegal s (later ++ history) → IsLegal s history
legal_part s [] history l = l
legal_part s (noted note packet ∷ later) history l = legal_part s later history l.1
legal_part s (began heard ∷ later) history l = legal_part s later history l
legal_part s (told client message ∷ later) history l = legal_part s later history l
