-- What a server hears at its ports, and the events of its turns.
use Rattle.std.specs.Prelude.{ℕ, zero, suc, ◌+◌, ◌^◌, ◌<◌, All, ◌==◌, nat_le, if◌then◌else◌, List, [], ◌∷◌, ◌++◌, drop, slice_index, Option, Some, None, option_to_list}
use Rattle.ram_io.specs.declared.{Incoming.Incoming, Incoming.TheVariants.Nothing, Incoming.TheVariants.Datagram}
use Rattle.ram_io.specs.{cut, next_answer, later}
use Rattle.server_hub.specs.declared.HubEvent.{HubEvent}
use Rattle.server_hub.specs.declared.HubEvent.TheVariants.{Live, Feedback, Tick}
use Rattle.server_hub.specs.Served.{Served}
use Rattle.server_hub.specs.{id_of}

-- The event of a datagram from this sender to this port, where the first of these channels has the live port `live`. Its feedback port is the next one, and each channel's ports are two above those of the channel in front of it.
abbrev pub heard_from : ℕ → List Served → ℕ → ℕ → List ℕ → Option HubEvent
heard_from live [] sender port bytes = None
heard_from live (c ∷ channels) sender port bytes =
    if port == live then Some (Live (id_of c) bytes)
    else if port == live + 1 then Some (Feedback (id_of c) sender bytes)
    else heard_from (live + 2) channels sender port bytes

-- the event of an arrival, which may be none
abbrev pub heard : ℕ → List Served → Incoming → Option HubEvent
heard live channels Nothing = None
heard live channels (Datagram sender port bytes) = heard_from live channels sender port bytes

-- What a wire can bring: bytes, from an IPv4 address times 65,536, plus a port.
abbrev pub CanArrive : Incoming → Type 0
CanArrive Nothing = Unit {0}
CanArrive (Datagram sender port bytes) = (sender < 2 ^ 48) × All (λ b. b < 256) bytes

-- A turn of a server: what the wire gave, and the moment after it, in ms.
pub record ServerTurn : Type 0 where
  pub arrival : Incoming
  pub moment : ℕ

-- the next moment of a clock, which is 0 where it has none
abbrev pub next_moment : List ℕ → ℕ
next_moment moments = slice_index moments 0

-- so many turns, by the answers that a wire has left and the moments that a clock has left
unfoldable pub turns_of : ℕ → List Incoming → List ℕ → List ServerTurn
turns_of zero arrivals moments = []
turns_of (suc turns) arrivals moments =
    record { arrival = cut (next_answer arrivals); moment = next_moment moments } ∷ turns_of turns (drop 1 arrivals) (later moments)

-- a tick, where the moment has reached the due one
abbrev pub tick_at : ℕ → ℕ → List HubEvent
tick_at due moment = if nat_le due moment then Tick ∷ [] else []

-- the due moment of the next tick, which is one tick after the moment of the last
abbrev pub due_after : ℕ → ℕ → ℕ → ℕ
due_after tick due moment = if nat_le due moment then moment + tick else due

-- The events of some turns, of a server whose next tick of so many ms is due at this moment: in each turn the datagram's, then a tick where it is due.
unfoldable pub events_of_turns : ℕ → ℕ → List Served → ℕ → List ServerTurn → List HubEvent
events_of_turns live tick channels due [] = []
events_of_turns live tick channels due (turn ∷ turns) =
    option_to_list (heard live channels turn.arrival) ++ tick_at due turn.moment ++ events_of_turns live tick channels (due_after tick due turn.moment) turns

-- The events of so many turns of a server that starts at the first moment: its first tick is due one tick later.
abbrev pub events_of : ℕ → ℕ → List Served → ℕ → List Incoming → List ℕ → List HubEvent
events_of live tick channels turns arrivals moments =
    events_of_turns live tick channels (next_moment moments + tick) (turns_of turns arrivals (later moments))
