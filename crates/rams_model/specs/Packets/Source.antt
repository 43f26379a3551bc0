-- The packets of a channel that came in time, the number that is waited for, and the source list.
use Rattle.std.specs.Prelude.{◌≡◌, ℕ, zero, suc, ◌+◌, ◌-◌, Bool, ◌&&◌, ◌==◌, not, nat_le, nat_lt, if◌then◌else◌, List, [], ◌∷◌, ◌++◌, filter, Option, Some, None}
use Rattle.std.specs.List.{list_any}
use Rattle.rams_model.specs.declared.{held.Held.Held, note.LiveNote.LiveNote}
use Rattle.rams_model.specs.declared.note.LiveNote.TheVariants.{Took, Restart, Late, Twice, Jump}
use Rattle.rams_model.specs.Formats.{wire_size}
use Rattle.rams_model.specs.Packets.Hold.{lo, hi, last_of}
use Rattle.rams_model.specs.Packets.Numbering.{Numbered, first, forward, backward, jump, restart, numbered, following}

-- What a live packet of the channel brings.
pub record Arrival : Type 0 where
  pub sequence : ℕ
  -- in units of 1/90,000 s
  pub timestamp : ℕ
  -- a decoder may start with it
  pub access : Bool
  -- without its padding
  pub packet : List ℕ

-- a packet under its number
abbrev pub held_as : ℕ → Arrival → Held
held_as n a = record { n = n; ts = a.timestamp; wire = wire_size a.packet; access = a.access; packet = a.packet }

-- The packets that came in time. A start begins with the first packet of all, and with each restart.
pub record Stream : Type 0 where
  -- those of ended starts, by number
  pub ended : List Held
  -- those of the present start, by number
  pub present : List Held
  -- the sequence number that would begin a new start: the one after the last jump of this start
  pub kept : Option ℕ

-- nothing came
abbrev pub empty_stream : Stream
empty_stream = record { ended = []; present = []; kept = None }

-- one of the packets has this number
abbrev pub has_number : ℕ → List Held → Bool
has_number n hs = list_any (λ h. h.n == n) hs

-- the packets, by number, with one more
abbrev pub with_packet : Held → List Held → List Held
with_packet new [] = new ∷ []
with_packet new (h ∷ hs) = if nat_lt new.n h.n then new ∷ h ∷ hs else h ∷ with_packet new hs

-- the least of `count` numbers from n on that passes the test; the one after them where none does
abbrev pub least : (ℕ → Bool) → ℕ → ℕ → ℕ
least test n zero = n
least test n (suc count) = if test n then n else least test (n + 1) count

-- a number that may still come in time: it did not come, and isn't more than `window` below the greatest
abbrev pub is_missing : ℕ → List Held → ℕ → Bool
is_missing window present n = not (has_number n present) && nat_le (hi present - 1 - window) n

-- The awaited number: the least, from the first of the start on, that is missing. No packet below the first is in time, so the first is the least that came.
unfoldable pub awaited : ℕ → List Held → ℕ
awaited window present = least (is_missing window present) (lo present) (hi present - lo present)

-- the greatest number that came in time
abbrev pub greatest : List Held → Option ℕ
greatest [] = None
greatest (h ∷ hs) = Some (hi (h ∷ hs) - 1)

-- a packet of the present start is late below the awaited number, and is dropped where its number came in time before
abbrev pub in_time : ℕ → List Held → ℕ → LiveNote
in_time window present n = if nat_lt n (awaited window present) then Late else if has_number n present then Twice else Took n

-- the note of a packet, by what the numbering makes of it
abbrev pub note_of : ℕ → List Held → Numbered → LiveNote
note_of window present (first n) = Took n
note_of window present (forward n) = in_time window present n
note_of window present (backward n) = in_time window present n
note_of window present jump = Jump
note_of window present (restart n) = Restart n

-- The note of a packet that comes after the stream.
unfoldable pub live_note : ℕ → Stream → ℕ → LiveNote
live_note window s sequence = note_of window s.present (numbered (greatest s.present) s.kept sequence)

-- The stream after a packet with this note: only one in time is kept, and only a restart ends a start.
abbrev pub stream_after : Stream → Arrival → LiveNote → Stream
stream_after s a (Took n) = record s { present = with_packet (held_as n a) s.present }
stream_after s a (Restart n) = record { ended = s.ended ++ s.present; present = held_as n a ∷ []; kept = None }
stream_after s a Jump = record s { kept = Some (following a.sequence) }
stream_after s a _ = s

-- the stream of these arrivals, the newest first
unfoldable pub stream_of : ℕ → List Arrival → Stream
stream_of window [] = empty_stream
stream_of window (a ∷ arrivals) =
    let s = stream_of window arrivals in stream_after s a (live_note window s a.sequence)

-- The source list: the packets in time of ended starts, and those of the present start that are below the awaited number.
unfoldable pub source : ℕ → Stream → List Held
source window s = s.ended ++ filter (λ h. nat_lt h.n (awaited window s.present)) s.present

-- the numbers follow one another
abbrev pub is_consecutive : List Held → Bool
is_consecutive [] = Bool.true
is_consecutive (h ∷ []) = Bool.true
is_consecutive (h ∷ k ∷ hs) = (k.n == h.n + 1) && is_consecutive (k ∷ hs)

-- the numbers are n, n + 1 and so on
abbrev pub Follows : ℕ → List Held → Type 0
Follows n [] = Unit {0}
Follows n (h ∷ hs) = (h.n ≡ n) × Follows (n + 1) hs

-- the longest end of a list whose numbers follow one another
unfoldable pub consecutive_end : List Held → List Held
consecutive_end [] = []
consecutive_end (h ∷ hs) = if is_consecutive (h ∷ hs) then h ∷ hs else consecutive_end hs

-- What is held: the longest end of the source list whose numbers follow one another, cut to its last `ring` packets.
unfoldable pub hold : ℕ → ℕ → Stream → List Held
hold window ring s = last_of ring (consecutive_end (source window s))
