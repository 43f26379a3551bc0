-- What is noted of a message that gets one note, which may end the client's burst.
use Rattle.std.specs.Prelude.{◌≡◌, ℕ, List, [], ◌∷◌, ◌++◌, Option, Some, None, option_map, option_to_list}
use Rattle.rams_model.specs.declared.{Order.Order, Cause.Cause, Note.Note, Note.TheVariants.End}
use Rattle.rams_model.specs.Service.{Settings, History, info_order, newest_notes, newest_orders, Wanted}
use Rattle.feedback_core.specs.declared.{said.Said.Said, visitor.Visitor.Visitor}
use Rattle.feedback_core.specs.Visits.{IsVisit}

-- a note alone
abbrev pub only : Note → Said
only note = record { note = note; end = None; info = None }

-- the note of the end of a client's burst, where there is a cause
abbrev pub end_notes : ℕ → Option Cause → List Note → List Note
end_notes k None notes = notes
end_notes k (Some cause) notes = End k cause ∷ notes

-- the notes, oldest first, in front of others
abbrev pub said_notes : ℕ → Said → List Note → List Note
said_notes k said notes = said.note ∷ end_notes k said.end notes

-- the order of what the client is told
abbrev pub said_orders : ℕ → Said → List Order
said_orders k said = option_to_list (option_map (info_order k) said.info)

-- The message is answered so: the history with the notes is the lawful one, and the visitor and the pending repairs are what it says.
pub record IsSaid (s : Settings) (before history lawful : History) (queue : List Wanted) (v : Visitor) (said : Said) : Type 0 where
  pub notes : (later : List Note) → newest_notes lawful later ≡ newest_notes history (said_notes v.client said later)
  pub orders : (later : List Order) → newest_orders s lawful later ≡ newest_orders s history (said_orders v.client said ++ later)
  pub visit : IsVisit s before lawful v queue

-- Notes without orders were made: the history with them is the lawful one, and the visitor and the pending repairs are what it says.
pub record AreNoted (s : Settings) (before history lawful : History) (queue : List Wanted) (v : Visitor) (old new : List Note) : Type 0 where
  pub notes : newest_notes history [] ≡ old → newest_notes lawful [] ≡ new
  pub orders : newest_orders s lawful [] ≡ newest_orders s history []
  pub visit : IsVisit s before lawful v queue
