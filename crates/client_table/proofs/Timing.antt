-- What a change of the pairs of clients and ticks leaves.
use Rattle.std.proofs.Common.{◌≡◌, ℕ, ◌<◌, ◌≤◌, Bool, true, false, cond, List, [], ◌∷◌, length, filter, Result, Ok, Err, suc, OnOk, OnErr, is_gt, refl, ap, sym, ◌∙◌, arith, eqb, leb, Less, Equal, Greater, nat_cmp}
use Rattle.std.specs.BTreeMap.{is_at}
use Rattle.std.specs.BTreeSet.{BTreeSet, insert_key}
use Rattle.std.specs.Ordering.{ordering_then, match_ordering}
use Rattle.std.specs.declared.cmp.Ordering.{Ordering}
use Rattle.std.proofs.lemmas.Bool.{cond-false, and_parts, eqb-true, lt-leb}
use Rattle.std.proofs.lemmas.Bool.Decides.{nat_tests}
use Rattle.rams_model.specs.Pairs.{pair_cmp}
use Rattle.rams_model.proofs.Pairs.{pair_test}
use Rattle.client_table.specs.{waiting_in}

pub pair_is : (p q : ℕ × ℕ) → is_at (pair_cmp p) q ≡ true → p ≡ q
pair_is p q t =
    let parts = and_parts (eqb p.0 q.0) (eqb p.1 q.1) (sym (pair_test p.0 p.1 q.0 q.1) ∙ t) in
    ap (λ (n : ℕ). (n, p.1)) (eqb-true p.0 q.0 parts.0) ∙ ap (λ (n : ℕ). (q.0, n)) (eqb-true p.1 q.1 parts.1)

-- how many have come isn't changed by one that is still to come
module _ (now : ℕ) where
  abbrev Come : ℕ × ℕ → Bool
  Come p = leb p.0 now

  put_step : (o : Ordering) (p q : ℕ × ℕ) (qs : List (ℕ × ℕ)) → Come p ≡ false → length (filter Come (insert_key pair_cmp qs p)) ≡ length (filter Come qs)
      → length (filter Come (match_ordering o (p ∷ q ∷ qs) (q ∷ qs) (q ∷ insert_key pair_cmp qs p))) ≡ length (filter Come (q ∷ qs))
  put_step Less p q qs later rest = ap length (cond-false (Come p) (p ∷ filter Come (q ∷ qs)) (filter Come (q ∷ qs)) later)
  put_step Equal p q qs later rest = refl
  put_step Greater p q qs later rest = count (Come q)
    where
      count : (b : Bool) → length (cond b (q ∷ filter Come (insert_key pair_cmp qs p)) (filter Come (insert_key pair_cmp qs p))) ≡ length (cond b (q ∷ filter Come qs) (filter Come qs))
      count true = ap suc rest
      count false = rest

  pub put_waiting : (p : ℕ × ℕ) (qs : List (ℕ × ℕ)) → Come p ≡ false → length (filter Come (insert_key pair_cmp qs p)) ≡ length (filter Come qs)
  put_waiting p [] later = ap length (cond-false (Come p) (p ∷ []) [] later)
  put_waiting p (q ∷ qs) later = put_step (pair_cmp p q) p q qs later (put_waiting p qs later)

pub added_waiting : {T E : Type 0} (r : Result T E) (now : ℕ) (p : ℕ × ℕ) (old new : BTreeSet (ℕ × ℕ)) → OnOk r (new.keys ≡ insert_key pair_cmp old.keys p) → OnErr r (new.keys ≡ old.keys) → now < p.0
    → waiting_in now new ≡ waiting_in now old
added_waiting (Ok done) now p old new put same later = ap (λ (qs : List (ℕ × ℕ)). length (filter (λ q. leb q.0 now) qs)) put ∙ put_waiting now p old.keys (lt-leb p.0 now later)
added_waiting (Err was) now p old new put same later = ap (λ (qs : List (ℕ × ℕ)). length (filter (λ q. leb q.0 now) qs)) same

-- the first pair has the least tick
pub first_least : (p q : ℕ × ℕ) → is_gt (pair_cmp p q) ≡ false → p.0 ≤ q.0
first_least p q not_above = by (nat_cmp p.0 q.0) refl not_above
  where
    by : (o : Ordering) → nat_cmp p.0 q.0 ≡ o → is_gt (ordering_then o (nat_cmp p.1 q.1)) ≡ false → p.0 ≤ q.0
    by Less is below = grind (arith, nat_tests)
    by Equal is below = grind (arith, nat_tests)
    by Greater is below = absurd (cc)
