-- Notes that are written one after another, as contracts see them.
use Rattle.std.specs.Prelude.{ℕ, List, [], ◌∷◌, vec_capacity}
use Rattle.rams_model.specs.declared.Note.{Note}
use Rattle.feedback_core.specs.declared.pad.Kept.{Kept}
use Rattle.feedback_core.specs.declared.pad.Kept.TheVariants.{Nothing, One, Many}

-- the notes so far, and for how many in all there is room
pub record Written : Type 0 where
  pub items : List Note
  pub room : ℕ

abbrev pub written : Kept → Written
written Nothing = record { items = []; room = 1 }
written (One note) = record { items = note ∷ []; room = 1 }
written (Many notes) = record { items = notes.items; room = vec_capacity notes }
