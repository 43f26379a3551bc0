-- A window whose items are the packets of a channel, each under its own number.
use Rattle.std.specs.Prelude.{◌≡◌, ℕ, ◌≤◌, true, false, nat_lt, List, ◌∷◌, map, filter}
use Rattle.rams_model.specs.declared.{Held.Held, LiveNote.LiveNote, LiveNote.TheVariants.Took}
use Rattle.rams_model.specs.declared.LiveNote.TheVariants as notes
use Rattle.rams_model.specs.Packets.{lo, with_packet, in_time}
use Rattle.rams_model.specs.Packets.Source as sources
use Rattle.channel_cache.specs.declared.reorder_window.window.Came.{Came}
use Rattle.channel_cache.specs.declared.reorder_window.window.Came.TheVariants.{Kept, Late, Twice}
use Rattle.channel_cache.specs.reorder_window.Starts.{Start, with_item, awaited, came, released}

-- the packets as items
abbrev pub items_of : List Held → List (ℕ × Held)
items_of present = map (λ h. (h.n, h)) present

-- the packets in time of the present start
abbrev pub start_of : List Held → Start Held
start_of present = record { first = lo present; items = items_of present }

-- the note of a packet
abbrev pub note_of : ℕ → Came → LiveNote
note_of n Kept = Took n
note_of n Late = notes.Late
note_of n Twice = notes.Twice

-- the number that is waited for is the channel's
abbrev pub AwaitedAreThose : Type 0
AwaitedAreThose = (window : ℕ) (present : List Held) → awaited window (start_of present) ≡ sources.awaited window present

-- the answer to an item is the note of the packet
abbrev pub NotesAreThose : Type 0
NotesAreThose = (window : ℕ) (present : List Held) (n : ℕ) → note_of n (came window (start_of present) n) ≡ in_time window present n

-- one more item is one more packet
abbrev pub StartsGrowAlike : Type 0
StartsGrowAlike = (h : Held) (hs : List Held) (new : Held) → h.n ≤ new.n
    → start_of (with_packet new (h ∷ hs)) ≡ record { first = h.n; items = with_item new.n new (items_of (h ∷ hs)) }

-- a packet in time is not below the first
abbrev pub NoneIsBelowTheFirst : Type 0
NoneIsBelowTheFirst = (window : ℕ) (present : List Held) (n : ℕ) → in_time window present n ≡ Took n → lo present ≤ n

-- what may be released is in the source while the start goes on
abbrev pub ReleasedAreThose : Type 0
ReleasedAreThose = (window : ℕ) (present : List Held)
    → released window false (start_of present) ≡ items_of (filter (λ h. nat_lt h.n (sources.awaited window present)) present)

-- and once it has ended
abbrev pub EndedAreThose : Type 0
EndedAreThose = (window : ℕ) (present : List Held) → released window true (start_of present) ≡ items_of present
