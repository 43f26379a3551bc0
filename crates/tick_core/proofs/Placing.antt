-- What the repairs of clients may take, where only what was changed is written down.
use Rattle.std.proofs.Common.{◌≡◌, ℕ, ◌<◌, true, cond, ⊎_elim, List, [], ◌∷◌, Option, Some, None, IsSome, IfSome, refl, ap, sym, ◌∙◌, subst, arith, eqb}
use Rattle.std.specs.List.{AllByRecursion}
use Rattle.std.specs.Option.{option_map}
use Rattle.std.specs.Map.{keys_of, lookup}
use Rattle.std.specs.BTreeMap.{is_at}
use Rattle.std.specs.Ordering.{nat_cmp}
use Rattle.std.proofs.lemmas.Bool.{cond_both, cond-true, cond-false, cases_Bool, eq-eqb, eqb-true, eqb-false, ne_eqb}
use Rattle.client_table.specs.declared.Entry.{Entry}
use Rattle.client_table.specs.{AreRising, entry_of}
use Rattle.client_table.specs.Clients.{Clients}
use Rattle.channel_parts.proofs.Tables.{at_is}
use Rattle.tick_core.specs.declared.allowance.Allowance.{Allowance}
use Rattle.tick_core.specs.{Rise, clients_of, allowance_for, after_repair, with_taken, idle_allowance, or_changed, all_allowances, AreOfKnown}
use Rattle.tick_core.proofs.Walking.{rise_sorted}

pub clients_stay : (k size : ℕ) (l : List Allowance) → clients_of (with_taken k size l) ≡ clients_of l
unfolding with_taken
clients_stay k size [] = refl
clients_stay k size (a ∷ l) =
    cond_both (eqb a.client k) (after_repair a size ∷ l) (a ∷ with_taken k size l) (λ x. clients_of x ≡ clients_of (a ∷ l)) (λ t. refl) (λ f. ap (λ (ks : List ℕ). a.client ∷ ks) (clients_stay k size l))

-- ---- the allowance of a client
whose_changed : (o : Option Allowance) (a : Allowance) → (or_changed o a).client ≡ a.client
whose_changed None a = refl
whose_changed (Some b) a = refl

found_by : (most : ℕ) (changed : ℕ → Option Allowance) (k : ℕ) (es : List (ℕ × Entry))
    → allowance_for k (all_allowances most es changed) ≡ option_map (λ e. or_changed (changed k) (idle_allowance most k e)) (lookup (is_at (nat_cmp k)) es)
found_by most changed k [] = refl
found_by most changed k (e ∷ es) =
    let rest = found_by most changed k es in
    let here = or_changed (changed e.0) (idle_allowance most e.0 e.1) in
    let test : eqb here.client k ≡ eqb e.0 k = ap (λ (n : ℕ). eqb n k) (whose_changed (changed e.0) (idle_allowance most e.0 e.1)) in
    ⊎_elim
    (λ (t : eqb e.0 k ≡ true).
    let same : e.0 ≡ k = eqb-true e.0 k t in
    cond-true (eqb here.client k) (Some here) (allowance_for k (all_allowances most es changed)) (test ∙ t)
    ∙ (ap (λ (n : ℕ). Some (or_changed (changed n) (idle_allowance most n e.1))) same
    ∙ sym (ap (option_map (λ d. or_changed (changed k) (idle_allowance most k d))) (cond-true (is_at (nat_cmp k) e.0) (Some e.1) (lookup (is_at (nat_cmp k)) es) (at_is k e.0 ∙ t)))))
    (λ f.
    cond-false (eqb here.client k) (Some here) (allowance_for k (all_allowances most es changed)) (test ∙ f)
    ∙ (rest ∙ sym (ap (option_map (λ d. or_changed (changed k) (idle_allowance most k d))) (cond-false (is_at (nat_cmp k) e.0) (Some e.1) (lookup (is_at (nat_cmp k)) es) (at_is k e.0 ∙ f)))))
    (cases_Bool (eqb e.0 k))

-- of one that isn't known, and of one that is
pub no_allowance : (most : ℕ) (changed : ℕ → Option Allowance) (k : ℕ) (t : Clients) → None ≡ entry_of t k → None ≡ allowance_for k (all_allowances most t.known changed)
no_allowance most changed k t unknown = sym (found_by most changed k t.known ∙ ap (option_map (λ e. or_changed (changed k) (idle_allowance most k e))) (sym unknown))

pub has_allowance : (most : ℕ) (changed : ℕ → Option Allowance) (k : ℕ) (t : Clients) (e : Entry) (o : Option Allowance) → Some e ≡ entry_of t k → changed k ≡ o
    → Some (or_changed o (idle_allowance most k e)) ≡ allowance_for k (all_allowances most t.known changed)
has_allowance most changed k t e o known is =
    sym (found_by most changed k t.known ∙ (ap (option_map (λ d. or_changed (changed k) (idle_allowance most k d))) (sym known) ∙ ap (λ (x : Option Allowance). Some (or_changed x (idle_allowance most k e))) is))

-- where something is told of it, it is known
pub told_allowance : (most : ℕ) (changed : ℕ → Option Allowance) (k : ℕ) (t : Clients) (a : Allowance) → AreOfKnown t changed → Some a ≡ changed k → Some (record a { client = k }) ≡ allowance_for k (all_allowances most t.known changed)
told_allowance most changed k t a known is = told_by_entry (entry_of t k) refl (known k (subst IsSome is refl))
  where
    told_by_entry : (o : Option Entry) → o ≡ entry_of t k → IsSome o → Some (record a { client = k }) ≡ allowance_for k (all_allowances most t.known changed)
    told_by_entry None same some = absurd cc
    told_by_entry (Some e) same some = has_allowance most changed k t e (Some a) same (sym is)

is_known : (most : ℕ) (changed : ℕ → Option Allowance) (k : ℕ) (t : Clients) (a : Allowance) → allowance_for k (all_allowances most t.known changed) ≡ Some a → IsSome (entry_of t k)
is_known most changed k t a found = by_entry (entry_of t k) refl
  where
    by_entry : (o : Option Entry) → o ≡ entry_of t k → IsSome o
    by_entry None same = let clash : None ≡ Some a = no_allowance most changed k t same ∙ found in absurd cc
    by_entry (Some e) same = refl

-- what was put last for a client is its
pub put_allowance : (most : ℕ) (changed now : ℕ → Option Allowance) (t : Clients) (b : Allowance) → AreOfKnown t now → ((j : ℕ) → now j ≡ cond (eqb b.client j) (Some b) (changed j))
    → allowance_for b.client (all_allowances most t.known now) ≡ Some b
put_allowance most changed now t b known puts =
    sym (told_allowance most now b.client t b known (sym (puts b.client ∙ cond-true (eqb b.client b.client) (Some b) (changed b.client) (eq-eqb b.client b.client refl))))

-- where the same is told of each, all are the same
pub told_alike : (most : ℕ) (changed now : ℕ → Option Allowance) (es : List (ℕ × Entry)) → ((j : ℕ) → now j ≡ changed j) → all_allowances most es now ≡ all_allowances most es changed
told_alike most changed now [] same = refl
told_alike most changed now (e ∷ es) same =
    ap (λ (o : Option Allowance). or_changed o (idle_allowance most e.0 e.1) ∷ all_allowances most es now) (same e.0)
    ∙ ap (λ (l : List Allowance). or_changed (changed e.0) (idle_allowance most e.0 e.1) ∷ l) (told_alike most changed now es same)

-- whose it is
pub whose_allowance : (k : ℕ) (l : List Allowance) (a : Allowance) → allowance_for k l ≡ Some a → a.client ≡ k
whose_allowance k [] a found = absurd cc
whose_allowance k (x ∷ l) a found =
    cond_both (eqb x.client k) (Some x) (allowance_for k l) (λ o. o ≡ Some a → a.client ≡ k)
    (λ t e. let there : x ≡ a = cc in sym (ap (λ (y : Allowance). y.client) there) ∙ eqb-true x.client k t)
    (λ f e. whose_allowance k l a e) found

-- what a client may take is found again under its own number
pub found_again : (k : ℕ) (l : List Allowance) (o : Option Allowance) → o ≡ allowance_for k l → IfSome o (λ a. allowance_for a.client l ≡ Some a)
found_again k l None is = tt
found_again k l (Some a) is = ap (λ (j : ℕ). allowance_for j l) (whose_allowance k l a (sym is)) ∙ sym is

-- one more of which something is told
pub known_still : (most : ℕ) (changed now : ℕ → Option Allowance) (k : ℕ) (t : Clients) (a b : Allowance) → AreOfKnown t changed → allowance_for k (all_allowances most t.known changed) ≡ Some a
    → ((j : ℕ) → now j ≡ cond (eqb k j) (Some b) (changed j)) → AreOfKnown t now
known_still most changed now k t a b known found puts j some =
    cond_both (eqb k j) (Some b) (changed j) (λ o. IsSome o → IsSome (entry_of t j))
    (λ is told. subst (λ (i : ℕ). IsSome (entry_of t i)) (eqb-true k j is) (is_known most changed k t a found)) (λ f told. known j told) (subst IsSome (puts j) some)

-- ---- after a repair
some_same : (x y : Allowance) → Some x ≡ Some y → x ≡ y
some_same x y is = cc

module _ (most size k : ℕ) (a : Allowance) (changed now : ℕ → Option Allowance) (puts : (j : ℕ) → now j ≡ cond (eqb k j) (Some (after_repair a size)) (changed j)) where
  others_stay : (es : List (ℕ × Entry)) → AllByRecursion (λ j. k < j) (keys_of es) → all_allowances most es now ≡ all_allowances most es changed
  others_stay [] above = refl
  others_stay (e ∷ es) above =
      ap (λ (o : Option Allowance). or_changed o (idle_allowance most e.0 e.1) ∷ all_allowances most es now)
      (puts e.0 ∙ cond-false (eqb k e.0) (Some (after_repair a size)) (changed e.0) (ne_eqb k e.0 (λ same. omega (arith, above.0, same))))
      ∙ ap (λ (l : List Allowance). or_changed (changed e.0) (idle_allowance most e.0 e.1) ∷ l) (others_stay es above.1)

  taken_is : (es : List (ℕ × Entry)) → Rise (keys_of es) → allowance_for k (all_allowances most es changed) ≡ Some a → all_allowances most es now ≡ with_taken k size (all_allowances most es changed)
  unfolding with_taken
  taken_is [] rise found = refl
  taken_is (e ∷ es) rise found =
      let here = or_changed (changed e.0) (idle_allowance most e.0 e.1) in
      let test : eqb here.client k ≡ eqb e.0 k = ap (λ (n : ℕ). eqb n k) (whose_changed (changed e.0) (idle_allowance most e.0 e.1)) in
      ⊎_elim
      (λ (t : eqb e.0 k ≡ true).
      let same : e.0 ≡ k = eqb-true e.0 k t in
      let is : here ≡ a = some_same here a (sym (cond-true (eqb here.client k) (Some here) (allowance_for k (all_allowances most es changed)) (test ∙ t)) ∙ found) in
      let own : a.client ≡ e.0 = sym (ap (λ (x : Allowance). x.client) is) ∙ whose_changed (changed e.0) (idle_allowance most e.0 e.1) in
      let put : now e.0 ≡ Some (after_repair a size) = puts e.0 ∙ cond-true (eqb k e.0) (Some (after_repair a size)) (changed e.0) (eq-eqb k e.0 (sym same)) in
      let first : or_changed (now e.0) (idle_allowance most e.0 e.1) ≡ after_repair here size =
      ap (λ (o : Option Allowance). or_changed o (idle_allowance most e.0 e.1)) put ∙ (ap (λ (n : ℕ). record (after_repair a size) { client = n }) (sym own) ∙ ap (λ (x : Allowance). after_repair x size) (sym is)) in
      ap (λ (x : Allowance). x ∷ all_allowances most es now) first
      ∙ (ap (λ (l : List Allowance). after_repair here size ∷ l) (others_stay es (subst (λ (n : ℕ). AllByRecursion (λ j. n < j) (keys_of es)) same rise.0))
      ∙ sym (cond-true (eqb here.client k) (after_repair here size ∷ all_allowances most es changed) (here ∷ with_taken k size (all_allowances most es changed)) (test ∙ t))))
      (λ f.
      let later : allowance_for k (all_allowances most es changed) ≡ Some a = sym (cond-false (eqb here.client k) (Some here) (allowance_for k (all_allowances most es changed)) (test ∙ f)) ∙ found in
      ap (λ (o : Option Allowance). or_changed o (idle_allowance most e.0 e.1) ∷ all_allowances most es now)
      (puts e.0 ∙ cond-false (eqb k e.0) (Some (after_repair a size)) (changed e.0) (ne_eqb k e.0 (λ same. eqb-false e.0 k f (sym same))))
      ∙ (ap (λ (l : List Allowance). here ∷ l) (taken_is es rise.1 later)
      ∙ sym (cond-false (eqb here.client k) (after_repair here size ∷ all_allowances most es changed) (here ∷ with_taken k size (all_allowances most es changed)) (test ∙ f))))
      (cases_Bool (eqb e.0 k))

  pub taken_from : (t : Clients) → AreRising t → allowance_for k (all_allowances most t.known changed) ≡ Some a → all_allowances most t.known now ≡ with_taken k size (all_allowances most t.known changed)
  taken_from t rising found = taken_is t.known (rise_sorted (keys_of t.known) rising) found
