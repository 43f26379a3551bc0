-- In which order a tick serves.
use Rattle.std.specs.Prelude.{◌≡◌, ℕ, ◌≤◌, ◌⊎◌, List, [], ◌∷◌, ◌++◌}
use Rattle.rams_model.specs.declared.{Event.Event, Event.TheVariants.Tick}
use Rattle.rams_model.specs.declared.Note.TheVariants as note
use Rattle.rams_model.specs.Service.{Settings, began, told, noted, History, Wanted, wanted, pending, history_of}

-- the clients of the packets of bursts that the newest event sent, newest first
abbrev pub clients_served : History → List ℕ
clients_served [] = []
clients_served (began heard ∷ history) = []
clients_served (told client message ∷ history) = clients_served history
clients_served (noted (note.Burst client n sequence) packet ∷ history) = client ∷ clients_served history
clients_served (noted other packet ∷ history) = clients_served history

-- each is at least the next
abbrev pub Fall : List ℕ → Type 0
Fall [] = Unit {0}
Fall (k ∷ []) = Unit {0}
Fall (k ∷ j ∷ js) = (j ≤ k) × Fall (j ∷ js)

-- So they rise from the oldest on.
abbrev pub BurstsAreServedByRisingClient : Type 0
BurstsAreServedByRisingClient = (s : Settings) (events : List Event) → Fall (clients_served (history_of s (Tick ∷ events)))

-- the repairs that the newest event sent or gave up, oldest first
abbrev pub repairs_done : History → List Wanted
repairs_done [] = []
repairs_done (began heard ∷ history) = []
repairs_done (told client message ∷ history) = repairs_done history
repairs_done (noted (note.Repair client n sequence) packet ∷ history) = repairs_done history ++ (wanted client n ∷ [])
repairs_done (noted (note.Gone client n) packet ∷ history) = repairs_done history ++ (wanted client n ∷ [])
repairs_done (noted other packet ∷ history) = repairs_done history

-- these are some of those, in their order
abbrev pub AreSomeOf : List Wanted → List Wanted → Type 0
AreSomeOf [] ws = Unit {0}
AreSomeOf (v ∷ vs) [] = ⊥
AreSomeOf (v ∷ vs) (w ∷ ws) = ((v ≡ w) × AreSomeOf vs ws) ⊎ AreSomeOf (v ∷ vs) ws

-- They are some of those that waited, in the order in which they were asked for.
abbrev pub RepairsAreServedAsAsked : Type 0
RepairsAreServedAsAsked = (s : Settings) (events : List Event) → AreSomeOf (repairs_done (history_of s (Tick ∷ events))) (pending (history_of s events))
