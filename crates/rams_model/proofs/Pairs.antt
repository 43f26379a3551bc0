-- Pairs of numbers in a map.
use Rattle.std.proofs.Common.{◌≡◌, ℕ, Bool, ◌&&◌, eqb, ap, ◌∙◌, arith, nat_cmp, is_eq, Less, Equal, Greater}
use Rattle.std.specs.BTreeMap.{is_at}
use Rattle.std.specs.Ordering.{ordering_then}
use Rattle.std.specs.declared.cmp.Ordering.{Ordering}
use Rattle.std.proofs.lemmas.Bool.Decides.{nat_tests}
use Rattle.rams_model.specs.Pairs.{pair_cmp}

same_test : (n k : ℕ) → is_eq (nat_cmp n k) ≡ eqb n k
same_test n k = grind (arith, nat_tests)

-- a pair is found by both of its numbers
pub pair_test : (a b i m : ℕ) → is_at (pair_cmp (a, b)) (i, m) ≡ (eqb a i && eqb b m)
pair_test a b i m = by (nat_cmp a i) (eqb a i) (same_test a i)
  where
    by : (o : Ordering) (t : Bool) → is_eq o ≡ t → is_eq (ordering_then o (nat_cmp b m)) ≡ (t && eqb b m)
    by Equal t e = same_test b m ∙ ap (λ (x : Bool). x && eqb b m) e
    by Less t e = ap (λ (x : Bool). x && eqb b m) e
    by Greater t e = ap (λ (x : Bool). x && eqb b m) e
