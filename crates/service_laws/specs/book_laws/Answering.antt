-- Which message a note answers, what notes answer a message, and which line of a table is the first that applies.
use Rattle.std.specs.Prelude.{◌≡◌, ℕ, List, [], ◌∷◌, ◌++◌, None}
use Rattle.rams_model.specs.declared.Note.{Note}
use Rattle.rams_model.specs.Service.{Message, Item, told, noted, History}

-- these items are notes
abbrev pub AreNotes : History → Type 0
AreNotes [] = Unit {0}
AreNotes (noted note packet ∷ items) = AreNotes items
AreNotes (_ ∷ items) = ⊥

-- This message of the client is being answered: it was told last, and only notes were made since.
pub record IsAnswered (history : History) (client : ℕ) (message : Message) : Type 0 where
  pub since : History
  pub before : History
  pub splits : history ≡ since ++ (told client message ∷ before)
  pub notes : AreNotes since

-- the items of some notes that send nothing, the oldest first; a history has the newest first
abbrev pub items_of : List Note → History
items_of [] = []
items_of (note ∷ notes) = items_of notes ++ (noted note None ∷ [])

-- the item isn't a note: an event began, or a message was told
abbrev pub IsNoNote : Item → Type 0
IsNoNote (noted note packet) = ⊥
IsNoNote _ = Unit {0}

-- the oldest of these items, if there are any, isn't a note
abbrev pub BeginAnew : History → Type 0
BeginAnew [] = Unit {0}
BeginAnew (item ∷ []) = IsNoNote item
BeginAnew (item ∷ other ∷ items) = BeginAnew (other ∷ items)

-- Of what came after a message, these notes are its answer, in this order: they were made first, and no other before the next message or event.
pub record AnsweredBy (later : History) (notes : List Note) : Type 0 where
  pub after : History
  pub splits : later ≡ after ++ items_of notes
  pub anew : BeginAnew after

-- none of these lines applies
abbrev pub NoneApplies : {Line : Type 0} → (Line → Type 0) → List Line → Type 0
NoneApplies Applies [] = Unit {0}
NoneApplies Applies (line ∷ lines) = (¬ Applies line) × NoneApplies Applies lines

-- Of the lines of a table this is the first that applies.
pub record IsFirst {Line : Type 0} (Applies : Line → Type 0) (table : List Line) (line : Line) : Type 0 where
  pub earlier : List Line
  pub later : List Line
  pub splits : table ≡ earlier ++ (line ∷ later)
  pub none : NoneApplies Applies earlier
  pub applies : Applies line
