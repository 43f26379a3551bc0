-- What the callers of one channel asked of it, and what it answered, oldest first.
use Rattle.std.specs.Prelude.{◌≡◌, ℕ, Bool, ◌==◌, List, [], ◌∷◌, map, filter, slice_index_or}
use Rattle.rams_model.specs.declared.Event.{Event}
use Rattle.rams_model.specs.Service.{Settings, Answered, answer}
use Rattle.channel_book.specs.declared.entry.Entry.{Entry}

abbrev pub entry : ℕ → Event → Answered → Entry
entry list event a = record { list = list; event = event; answer = a }

-- After these events, the newest first, each answer is the one that its event has after the events before it.
abbrev pub LegalFrom : Settings → List Event → List Entry → Type 0
LegalFrom s before [] = Unit {0}
LegalFrom s before (e ∷ later) = (e.answer ≡ answer s before e.event) × LegalFrom s (e.event ∷ before) later

-- The entries are a legal history: their answers are the lawful book of their events.
abbrev pub IsLegal : Settings → List Entry → Type 0
IsLegal s entries = LegalFrom s [] entries

-- the events of some entries behind these, the newest first
abbrev pub events_behind : List Event → List Entry → List Event
events_behind before [] = before
events_behind before (e ∷ later) = events_behind (e.event ∷ before) later

abbrev pub is_of : ℕ → Entry → Bool
is_of list e = e.list == list

-- The entries of one list, in their order.
abbrev pub calls_by : ℕ → List Entry → List Entry
calls_by list entries = filter (is_of list) entries

-- The entries of each number have exactly the events of that list, in their order; of the numbers behind the last list there are none.
abbrev pub IsInterleaving : List (List Event) → List Entry → Type 0
IsInterleaving lists entries = (list : ℕ) → map (λ (e : Entry). e.event) (calls_by list entries) ≡ slice_index_or lists list []

-- both are the lawful answer to the event
abbrev pub IsTwice : Settings → List Event → Event → Answered → Answered → Type 0
IsTwice s events event kept given = (given ≡ answer s events event) × (kept ≡ given)
