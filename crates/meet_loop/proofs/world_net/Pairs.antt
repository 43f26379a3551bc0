-- Maps under pairs of numbers.
use Rattle.std.proofs.Common.{◌≡◌, ℕ, Bool, ◌&&◌, cond, eqb, List, Some, ap, ◌∙◌}
use Rattle.std.specs.BTreeMap.{is_at}
use Rattle.rams_model.specs.Pairs.{pair_cmp}
use Rattle.rams_model.proofs.Pairs.{pair_test}
use Rattle.meet_loop.specs.world_net.{at_pair}

-- one more entry
pub entry_more : {A : Type 0} (old new : List ((ℕ × ℕ) × A)) (a b i m : ℕ) (x y : A) → at_pair new i m ≡ cond (is_at (pair_cmp (a, b)) (i, m)) (Some x) (at_pair old i m) → x ≡ y
    → at_pair new i m ≡ cond (eqb a i && eqb b m) (Some y) (at_pair old i m)
entry_more {A} old new a b i m x y e same =
    e ∙ ap (λ (z : A). cond (is_at (pair_cmp (a, b)) (i, m)) (Some z) (at_pair old i m)) same ∙ ap (λ (t : Bool). cond t (Some y) (at_pair old i m)) (pair_test a b i m)
