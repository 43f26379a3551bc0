-- What a change of one client's entry makes of a table.
use Rattle.std.proofs.Common.{◌≡◌, ◌≢◌, ℕ, ◌<◌, Bool, true, false, cond, not, ◌||◌, ⊎_elim, List, [], ◌∷◌, Option, Some, None, refl, ap, sym, ◌∙◌, subst, arith, eqb, ltb}
use Rattle.std.specs.Prelude.{is_some}
use Rattle.std.specs.Ordering.{nat_cmp, is_eq, match_ordering}
use Rattle.std.specs.Cmp.{nat_cmp_is}
use Rattle.std.specs.declared.cmp.Ordering.{Ordering}
use Rattle.std.specs.declared.cmp.Ordering.TheVariants.{Less, Equal, Greater}
use Rattle.std.specs.List.{list_any}
use Rattle.std.specs.Map.{keys_of, lookup, set_value, remove_entry}
use Rattle.std.specs.BTreeMap.{insert_entry, is_at}
use Rattle.std.proofs.lemmas.Bool.{cond_both, cond-true, cond-false, cases_order, or_cases, or_parts, not_from_false, not_from_true, both_ways, eqb-true, eq-eqb, ne_eqb, lt-ltb, le-ltb}
use Rattle.std.proofs.lemmas.Map.Made.{is_some-lookup}
use Rattle.rams_model.specs.Service.{is_among, placed, with_client, without}
use Rattle.client_table.specs.declared.Entry.{Entry}
use Rattle.client_table.specs.{clients_of, entry_of, with_entry}
use Rattle.client_table.specs.Clients.{Clients}
use Rattle.client_table.specs.Clients as tables
use Rattle.channel_parts.proofs.Ordered.{Rise, not_below}
use Rattle.channel_parts.proofs.Opening.{none_of}

-- the test of a look-up is that of the definitions
pub at_is : (k j : ℕ) → is_at (nat_cmp k) j ≡ eqb j k
at_is k j =
    ⊎_elim
    (λ (e : k ≡ j). ap is_eq (sym (nat_cmp_is k j Equal e)) ∙ sym (eq-eqb j k (sym e)))
    (λ o. ⊎_elim (λ (lt : k < j). ap is_eq (sym (nat_cmp_is k j Less lt)) ∙ sym (ne_eqb j k (λ e. omega (arith, e, lt))))
    (λ (gt : j < k). ap is_eq (sym (nat_cmp_is k j Greater gt)) ∙ sym (ne_eqb j k (λ e. omega (arith, e, gt)))) o)
    (cases_order k j)

-- which of two numbers is less
is_less : (k j : ℕ) → nat_cmp k j ≡ Less → ltb k j ≡ true
is_less k j is =
    ⊎_elim (λ e. absurd (let same : Less ≡ Equal = sym is ∙ sym (nat_cmp_is k j Equal e) in cc))
    (λ o. ⊎_elim (λ lt. lt-ltb k j lt) (λ gt. absurd (let same : Less ≡ Greater = sym is ∙ sym (nat_cmp_is k j Greater gt) in cc)) o) (cases_order k j)

is_greater : (k j : ℕ) → nat_cmp k j ≡ Greater → ltb k j ≡ false
is_greater k j is =
    ⊎_elim (λ e. le-ltb k j (omega (arith, e)))
    (λ o. ⊎_elim (λ lt. absurd (let same : Greater ≡ Less = sym is ∙ sym (nat_cmp_is k j Less lt) in cc)) (λ gt. le-ltb k j (omega (arith, gt))) o) (cases_order k j)

-- a client has an entry exactly where it is among the table's
pub has_entry : (t : Clients) (k : ℕ) → is_some (entry_of t k) ≡ is_among k (clients_of t)
has_entry t k = is_some-lookup (is_at (nat_cmp k)) t.known ∙ any_same (clients_of t)
  where
    any_same : (ks : List ℕ) → list_any (is_at (nat_cmp k)) ks ≡ is_among k ks
    any_same [] = refl
    any_same (j ∷ js) = ap (λ (b : Bool). b || list_any (is_at (nat_cmp k)) js) (at_is k j) ∙ ap (λ (b : Bool). eqb j k || b) (any_same js)

pub no_entry : (t : Clients) (k : ℕ) → is_among k (clients_of t) ≡ false → entry_of t k ≡ None
no_entry t k out = none_of (entry_of t k) (has_entry t k ∙ out)

pub entry_among : (t : Clients) (k : ℕ) (e : Entry) → entry_of t k ≡ Some e → is_among k (clients_of t) ≡ true
entry_among t k e found = sym (has_entry t k) ∙ ap is_some found

-- one test doesn't pass what another passes
abbrev Differ : (ℕ → Bool) → (ℕ → Bool) → Type 0
Differ test other = (j : ℕ) → test j ≡ true → other j ≡ false

clients_differ : (k i : ℕ) → i ≢ k → Differ (is_at (nat_cmp k)) (is_at (nat_cmp i))
clients_differ k i away j t =
    at_is i j ∙ ne_eqb j i (λ e. away (sym e ∙ eqb-true j k (sym (at_is k j) ∙ t)))

-- another entry
module _ (test : ℕ → Bool) (w : Entry) where
  keys_set : (es : List (ℕ × Entry)) → keys_of (set_value test es w) ≡ keys_of es
  keys_set [] = refl
  keys_set (e ∷ es) =
      cond_both (test e.0) ((e.0, w) ∷ es) (e ∷ set_value test es w) (λ (l : List (ℕ × Entry)). keys_of l ≡ keys_of (e ∷ es)) (λ t. refl) (λ f. ap (λ (ks : List ℕ). e.0 ∷ ks) (keys_set es))

  lookup_set : (es : List (ℕ × Entry)) → list_any test (keys_of es) ≡ true → lookup test (set_value test es w) ≡ Some w
  lookup_set [] is = absurd cc
  lookup_set (e ∷ es) is =
      cond_both (test e.0) ((e.0, w) ∷ es) (e ∷ set_value test es w) (λ (l : List (ℕ × Entry)). lookup test l ≡ Some w)
      (λ t. cond-true (test e.0) (Some w) (lookup test es) t)
      (λ f. cond-false (test e.0) (Some e.1) (lookup test (set_value test es w)) f
      ∙ lookup_set es (⊎_elim (λ t. absurd (both_ways (test e.0) f t)) (λ r. r) (or_cases (test e.0) (list_any test (keys_of es)) is)))

  lookup_set_other : (other : ℕ → Bool) → Differ test other → (es : List (ℕ × Entry)) → lookup other (set_value test es w) ≡ lookup other es
  lookup_set_other other differ [] = refl
  lookup_set_other other differ (e ∷ es) =
      cond_both (test e.0) ((e.0, w) ∷ es) (e ∷ set_value test es w) (λ (l : List (ℕ × Entry)). lookup other l ≡ lookup other (e ∷ es))
      (λ t. cond-false (other e.0) (Some w) (lookup other es) (differ e.0 t) ∙ sym (cond-false (other e.0) (Some e.1) (lookup other es) (differ e.0 t)))
      (λ f. ap (λ (o : Option Entry). cond (other e.0) (Some e.1) o) (lookup_set_other other differ es))

pub clients-with_entry : (t : Clients) (k : ℕ) (e : Entry) → clients_of (with_entry t k e) ≡ clients_of t
clients-with_entry t k e = keys_set (is_at (nat_cmp k)) e t.known

pub entry-with_entry : (t : Clients) (k : ℕ) (e : Entry) → is_among k (clients_of t) ≡ true → entry_of (with_entry t k e) k ≡ Some e
entry-with_entry t k e is =
    lookup_set (is_at (nat_cmp k)) e t.known (sym (is_some-lookup (is_at (nat_cmp k)) t.known) ∙ has_entry t k ∙ is)

pub others-with_entry : (t : Clients) (k : ℕ) (e : Entry) (j : ℕ) → j ≢ k → entry_of (with_entry t k e) j ≡ entry_of t j
others-with_entry t k e j away = lookup_set_other (is_at (nat_cmp k)) e (is_at (nat_cmp j)) (clients_differ k j away) t.known

-- without an entry
lookup_removed : (test other : ℕ → Bool) → Differ test other → (es : List (ℕ × Entry)) → lookup other (remove_entry test es) ≡ lookup other es
lookup_removed test other differ [] = refl
lookup_removed test other differ (e ∷ es) =
    cond_both (test e.0) es (e ∷ remove_entry test es) (λ (l : List (ℕ × Entry)). lookup other l ≡ lookup other (e ∷ es))
    (λ t. sym (cond-false (other e.0) (Some e.1) (lookup other es) (differ e.0 t)))
    (λ f. ap (λ (o : Option Entry). cond (other e.0) (Some e.1) o) (lookup_removed test other differ es))

pub without_none : (k : ℕ) (ks : List ℕ) → is_among k ks ≡ false → without k ks ≡ ks
without_none k [] out = refl
without_none k (j ∷ js) out =
    let parts = or_parts (eqb j k) (is_among k js) out in
    cond-true (not (eqb j k)) (j ∷ without k js) (without k js) (not_from_false (eqb j k) parts.0) ∙ ap (λ (l : List ℕ). j ∷ l) (without_none k js parts.1)

keys_removed : (k : ℕ) (es : List (ℕ × Entry)) → Rise (keys_of es) → keys_of (remove_entry (is_at (nat_cmp k)) es) ≡ without k (keys_of es)
keys_removed k [] r = refl
keys_removed k (e ∷ es) r =
    cond_both (is_at (nat_cmp k) e.0) es (e ∷ remove_entry (is_at (nat_cmp k)) es) (λ (l : List (ℕ × Entry)). keys_of l ≡ without k (keys_of (e ∷ es)))
    (λ t. let here = sym (at_is k e.0) ∙ t in
    let out = subst (λ (i : ℕ). is_among i (keys_of es) ≡ false) (eqb-true e.0 k here) (not_below e.0 (keys_of es) r.0) in
    sym (cond-false (not (eqb e.0 k)) (e.0 ∷ without k (keys_of es)) (without k (keys_of es)) (not_from_true (eqb e.0 k) here) ∙ without_none k (keys_of es) out))
    (λ f. let away = sym (at_is k e.0) ∙ f in
    ap (λ (l : List ℕ). e.0 ∷ l) (keys_removed k es r.1)
    ∙ sym (cond-true (not (eqb e.0 k)) (e.0 ∷ without k (keys_of es)) (without k (keys_of es)) (not_from_false (eqb e.0 k) away)))

pub clients-without : (t : Clients) (k : ℕ) → Rise (clients_of t) → clients_of (tables.without t k) ≡ without k (clients_of t)
clients-without t k r = keys_removed k t.known r

pub others-without : (t : Clients) (k j : ℕ) → j ≢ k → entry_of (tables.without t k) j ≡ entry_of t j
others-without t k j away = lookup_removed (is_at (nat_cmp k)) (is_at (nat_cmp j)) (clients_differ k j away) t.known

-- one entry more
module _ (k : ℕ) (w : Entry) where
  keys_step : (o : Ordering) (e : ℕ × Entry) (es : List (ℕ × Entry)) → nat_cmp k e.0 ≡ o → eqb e.0 k ≡ false
      → keys_of (insert_entry nat_cmp es k w) ≡ placed k (keys_of es)
      → keys_of (match_ordering o ((k, w) ∷ e ∷ es) ((e.0, w) ∷ es) (e ∷ insert_entry nat_cmp es k w)) ≡ cond (ltb k e.0) (k ∷ e.0 ∷ keys_of es) (e.0 ∷ placed k (keys_of es))
  keys_step Less e es is away later = sym (cond-true (ltb k e.0) (k ∷ e.0 ∷ keys_of es) (e.0 ∷ placed k (keys_of es)) (is_less k e.0 is))
  keys_step Equal e es is away later = absurd (both_ways (eqb e.0 k) away (sym (at_is k e.0) ∙ ap is_eq is))
  keys_step Greater e es is away later =
      ap (λ (l : List ℕ). e.0 ∷ l) later ∙ sym (cond-false (ltb k e.0) (k ∷ e.0 ∷ keys_of es) (e.0 ∷ placed k (keys_of es)) (is_greater k e.0 is))

  keys_inserted : (es : List (ℕ × Entry)) → is_among k (keys_of es) ≡ false → keys_of (insert_entry nat_cmp es k w) ≡ placed k (keys_of es)
  keys_inserted [] out = refl
  keys_inserted (e ∷ es) out =
      let parts = or_parts (eqb e.0 k) (is_among k (keys_of es)) out in keys_step (nat_cmp k e.0) e es refl parts.0 (keys_inserted es parts.1)

  lookup_step : (o : Ordering) (test : ℕ → Bool) (e : ℕ × Entry) (es : List (ℕ × Entry)) (there : Option Entry) → nat_cmp k e.0 ≡ o → eqb e.0 k ≡ false
      → test k ≡ false → lookup test (insert_entry nat_cmp es k w) ≡ lookup test es
      → lookup test (match_ordering o ((k, w) ∷ e ∷ es) ((e.0, w) ∷ es) (e ∷ insert_entry nat_cmp es k w)) ≡ lookup test (e ∷ es)
  lookup_step Less test e es there is away other later = cond-false (test k) (Some w) (lookup test (e ∷ es)) other
  lookup_step Equal test e es there is away other later = absurd (both_ways (eqb e.0 k) away (sym (at_is k e.0) ∙ ap is_eq is))
  lookup_step Greater test e es there is away other later = ap (λ (o : Option Entry). cond (test e.0) (Some e.1) o) later

  lookup_inserted_other : (test : ℕ → Bool) → test k ≡ false → (es : List (ℕ × Entry)) → is_among k (keys_of es) ≡ false → lookup test (insert_entry nat_cmp es k w) ≡ lookup test es
  lookup_inserted_other test other [] out = cond-false (test k) (Some w) None other
  lookup_inserted_other test other (e ∷ es) out =
      let parts = or_parts (eqb e.0 k) (is_among k (keys_of es)) out in
      lookup_step (nat_cmp k e.0) test e es None refl parts.0 other (lookup_inserted_other test other es parts.1)

  own_step : (o : Ordering) (e : ℕ × Entry) (es : List (ℕ × Entry)) → nat_cmp k e.0 ≡ o → eqb e.0 k ≡ false
      → lookup (is_at (nat_cmp k)) (insert_entry nat_cmp es k w) ≡ Some w
      → lookup (is_at (nat_cmp k)) (match_ordering o ((k, w) ∷ e ∷ es) ((e.0, w) ∷ es) (e ∷ insert_entry nat_cmp es k w)) ≡ Some w
  own_step Less e es is away later = cond-true (is_at (nat_cmp k) k) (Some w) (lookup (is_at (nat_cmp k)) (e ∷ es)) (at_is k k ∙ eq-eqb k k refl)
  own_step Equal e es is away later = absurd (both_ways (eqb e.0 k) away (sym (at_is k e.0) ∙ ap is_eq is))
  own_step Greater e es is away later =
      cond-false (is_at (nat_cmp k) e.0) (Some e.1) (lookup (is_at (nat_cmp k)) (insert_entry nat_cmp es k w)) (at_is k e.0 ∙ away) ∙ later

  lookup_inserted : (es : List (ℕ × Entry)) → is_among k (keys_of es) ≡ false → lookup (is_at (nat_cmp k)) (insert_entry nat_cmp es k w) ≡ Some w
  lookup_inserted [] out = cond-true (is_at (nat_cmp k) k) (Some w) None (at_is k k ∙ eq-eqb k k refl)
  lookup_inserted (e ∷ es) out =
      let parts = or_parts (eqb e.0 k) (is_among k (keys_of es)) out in own_step (nat_cmp k e.0) e es refl parts.0 (lookup_inserted es parts.1)

pub clients-with_client : (t : Clients) (k : ℕ) (e : Entry) → is_among k (clients_of t) ≡ false → clients_of (tables.with_client t k e) ≡ with_client k (clients_of t)
clients-with_client t k e out = keys_inserted k e t.known out ∙ sym (cond-false (is_among k (clients_of t)) (clients_of t) (placed k (clients_of t)) out)

pub entry-with_client : (t : Clients) (k : ℕ) (e : Entry) → is_among k (clients_of t) ≡ false → entry_of (tables.with_client t k e) k ≡ Some e
entry-with_client t k e out = lookup_inserted k e t.known out

pub others-with_client : (t : Clients) (k : ℕ) (e : Entry) (j : ℕ) → is_among k (clients_of t) ≡ false → j ≢ k → entry_of (tables.with_client t k e) j ≡ entry_of t j
others-with_client t k e j out away = lookup_inserted_other k e (is_at (nat_cmp j)) (at_is j k ∙ ne_eqb k j (λ same. away (sym same))) t.known out
