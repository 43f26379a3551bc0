-- The clients that stand at one tick.
use Rattle.std.proofs.Common.{◌≡◌, ℕ, ◌+◌, ◌<◌, ◌≤◌, Bool, true, false, not, ◌||◌, List, [], ◌∷◌, filter, refl, ap, sym, ◌∙◌, subst, arith, is_le, Less, Equal, Greater, nat_cmp}
use Rattle.std.specs.BTreeMap.{is_at}
use Rattle.std.specs.BTreeMap.Range.{range_contains}
use Rattle.std.specs.BTreeSet.{BTreeSet, contains}
use Rattle.std.specs.List.{list_any, AllByRecursion, Contains}
use Rattle.std.specs.List.Sorted.{IsStrictlySortedBy}
use Rattle.std.specs.Ordering.{ordering_then}
use Rattle.std.specs.declared.{cmp.Ordering.Ordering, ops.Bound.Bound, ops.Bound.TheVariants.Included, ops.Bound.TheVariants.Excluded}
use Rattle.std.proofs.lemmas.Bool.{cond_both, and_parts}
use Rattle.std.proofs.lemmas.Bool.Decides.{nat_tests}
use Rattle.std.proofs.lemmas.List.Elements.{Contains-append_right}
use Rattle.std.proofs.lemmas.List.Kept.{IsStrictlySortedBy-filter}
use Rattle.std.proofs.lemmas.Map.Views.{any-filter_same}
use Rattle.rams_model.specs.Pairs.{pair_cmp}
use Rattle.client_table.specs.{clients_in}
use Rattle.client_table.proofs.Timing.{pair_is}

-- where a test finds a pair of a client, the client is among those of the pairs
has_step : (b : Bool) (client : ℕ) (p : ℕ × ℕ) (ps : List (ℕ × ℕ)) (found : Bool) → (b ≡ true → p.1 ≡ client) → (b || found) ≡ true → (found ≡ true → Contains (clients_in ps) client) → Contains (clients_in (p ∷ ps)) client
has_step true client p ps found is any later = (0, omega arith, is refl)
has_step false client p ps found is any later = Contains-append_right (p.1 ∷ []) (clients_in ps) client (later any)

has_client : (client : ℕ) (test : ℕ × ℕ → Bool) → ((q : ℕ × ℕ) → test q ≡ true → q.1 ≡ client) → (ps : List (ℕ × ℕ)) → list_any test ps ≡ true → Contains (clients_in ps) client
has_client client test is [] any = cc
has_client client test is (p ∷ ps) any = has_step (test p) client p ps (list_any test ps) (is p) any (has_client client test is ps)

module _ (tick : ℕ) where
  abbrev from : Bound (ℕ × ℕ)
  from = Included (tick, 0)

  abbrev until : Bound (ℕ × ℕ)
  until = Excluded (tick + 1, 0)

  starts : (o : Ordering) (n m : ℕ) → nat_cmp tick n ≡ o → is_le (ordering_then o (nat_cmp 0 m)) ≡ true → tick ≤ n
  starts Less n m is le = grind (arith, nat_tests)
  starts Equal n m is le = grind (arith, nat_tests)
  starts Greater n m is le = cc

  ends : (o : Ordering) (n m : ℕ) → nat_cmp (tick + 1) n ≡ o → not (is_le (ordering_then o (nat_cmp 0 m))) ≡ true → n < tick + 1
  ends Less n m is past = cc
  ends Equal n m is past = let least : is_le (nat_cmp 0 m) ≡ true = grind (arith, nat_tests) in cc
  ends Greater n m is past = grind (arith, nat_tests)

  -- each of the range stands at the tick
  stands : (q : ℕ × ℕ) → range_contains pair_cmp from until q ≡ true → q.0 ≡ tick
  stands q within =
      let parts = and_parts (is_le (pair_cmp (tick, 0) q)) (not (is_le (pair_cmp (tick + 1, 0) q))) within in
      omega (arith, starts (nat_cmp tick q.0) q.0 q.1 refl parts.0, ends (nat_cmp (tick + 1) q.0) q.0 q.1 refl parts.1)

  -- and each that stands there is of it
  is_within : (client : ℕ) → range_contains pair_cmp from until (tick, client) ≡ true
  is_within client =
      let here : nat_cmp tick tick ≡ Equal = grind (arith, nat_tests) in
      let least : is_le (nat_cmp 0 client) ≡ true = grind (arith, nat_tests) in
      let above : nat_cmp (tick + 1) tick ≡ Greater = grind (arith, nat_tests) in
      rw (here, least, above) refl

  rise_step : (p : ℕ × ℕ) (ps : List (ℕ × ℕ)) → p.0 ≡ tick → AllByRecursion (λ q. pair_cmp p q ≡ Less) ps → AllByRecursion (λ q. q.0 ≡ tick) ps → AllByRecursion (λ k. nat_cmp p.1 k ≡ Less) (clients_in ps)
  rise_step p [] is below all = tt
  rise_step p (q ∷ qs) is below all =
      let same : nat_cmp p.0 q.0 ≡ Equal = grind (arith, nat_tests, is, all.0) in
      (sym (ap (λ (o : Ordering). ordering_then o (nat_cmp p.1 q.1)) same) ∙ below.0, rise_step p qs is below.1 all.1)

  rise_all : (ps : List (ℕ × ℕ)) → IsStrictlySortedBy pair_cmp ps → AllByRecursion (λ q. q.0 ≡ tick) ps → IsStrictlySortedBy nat_cmp (clients_in ps)
  unfolding IsStrictlySortedBy
  rise_all [] rise all = tt
  rise_all (p ∷ ps) rise all = (rise_step p ps all.0 rise.0 all.1, rise_all ps rise.1 all.1)

  all_stand : (ps : List (ℕ × ℕ)) → AllByRecursion (λ q. q.0 ≡ tick) (filter (range_contains pair_cmp from until) ps)
  all_stand [] = tt
  all_stand (p ∷ ps) =
      cond_both (range_contains pair_cmp from until p) (p ∷ filter (range_contains pair_cmp from until) ps) (filter (range_contains pair_cmp from until) ps) (AllByRecursion (λ q. q.0 ≡ tick))
      (λ t. (stands p t, all_stand ps)) (λ f. all_stand ps)

  -- so its clients rise
  pub range_rises : (ps r : List (ℕ × ℕ)) → IsStrictlySortedBy pair_cmp ps → r ≡ filter (range_contains pair_cmp from until) ps → IsStrictlySortedBy nat_cmp (clients_in r)
  range_rises ps r rise is =
      subst (λ (l : List (ℕ × ℕ)). IsStrictlySortedBy nat_cmp (clients_in l)) (sym is)
      (rise_all (filter (range_contains pair_cmp from until) ps) (IsStrictlySortedBy-filter pair_cmp (range_contains pair_cmp from until) ps rise) (all_stand ps))

  -- and all are there
  pub range_has : (s : BTreeSet (ℕ × ℕ)) (r : List (ℕ × ℕ)) (client : ℕ) → r ≡ filter (range_contains pair_cmp from until) s.keys → contains pair_cmp s (tick, client) ≡ true → Contains (clients_in r) client
  range_has s r client is has =
      let test = is_at (pair_cmp (tick, client)) in
      let found : list_any test r ≡ true =
      ap (list_any test) is
      ∙ (any-filter_same test (range_contains pair_cmp from until) true (λ q t. subst (λ (p : ℕ × ℕ). range_contains pair_cmp from until p ≡ true) (pair_is (tick, client) q t) (is_within client)) s.keys ∙ has) in
      has_client client test (λ q t. sym (ap (λ (p : ℕ × ℕ). p.1) (pair_is (tick, client) q t))) r found
