-- What a channel answers to an event, as its two lists.
use Rattle.std.specs.Prelude.{List, [], ◌∷◌}
use Rattle.rams_model.specs.declared.{note.Note.Note, answer.Order.Order, notes.Kept.Kept}
use Rattle.rams_model.specs.declared.notes.Kept.TheVariants.{One, Many}

pub record Answered : Type 0 where
  pub notes : List Note
  pub orders : List Order

abbrev pub answered : List Note → List Order → Answered
answered notes orders = record { notes = notes; orders = orders }

-- Some notes, as code keeps them.
abbrev pub notes_in : Kept → List Note
notes_in (One note) = note ∷ []
notes_in (Many notes) = notes.items
