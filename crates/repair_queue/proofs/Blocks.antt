-- The marks of the blocks when one is written.
use Rattle.std.proofs.Common.{◌≡◌, ℕ, Bool, true, false, cond, refl}
use Rattle.std.specs.declared.option.Option.{Option}
use Rattle.repair_queue.specs.declared.block.Block.{Block}
use Rattle.repair_queue.specs.{mark_in}

-- a mark of a chosen block
pub mark_chosen : (b : Bool) (x y : Option Block) (place : ℕ) → mark_in (cond b x y) place ≡ cond b (mark_in x place) (mark_in y place)
mark_chosen true x y place = refl
mark_chosen false x y place = refl
