-- The clients with an open burst among the known ones, after one change of the index and of the slots.
use Rattle.std.proofs.Common.{◌≡◌, ℕ, ◌<◌, ◌≤◌, Bool, true, false, cond, ⊎_elim, List, [], ◌∷◌, length, Option, Some, None, IsSome, IsSomeAnd, IfSome, unwrap_or, refl, ap, sym, ◌∙◌, subst, arith, eqb, ltb}
use Rattle.std.specs.Prelude.{filter, is_some}
use Rattle.std.specs.List.{AllByRecursion}
use Rattle.std.specs.List.Sorted.{IsStrictlySortedBy}
use Rattle.std.specs.Map.{keys_of, lookup, remove_entry}
use Rattle.std.specs.BTreeMap.{insert_entry, is_at}
use Rattle.std.specs.Ordering.{nat_cmp, match_ordering}
use Rattle.std.specs.declared.cmp.Ordering.{Ordering}
use Rattle.std.specs.declared.cmp.Ordering.TheVariants.{Less, Equal, Greater}
use Rattle.std.proofs.lemmas.Bool.{cond_both, cond-true, cond-false, eq-eqb, ne_eqb, lt-ltb, le-ltb, both_ways, cases_Bool, cases_eq}
use Rattle.std.proofs.lemmas.Bool.Decides.{nat_tests}
use Rattle.std.proofs.lemmas.Map.Keys.{sorted_head, sorted_tail}
use Rattle.client_table.specs.declared.{entry.Burst.Burst, entry.Entry.Entry}
use Rattle.client_table.specs.{before, joined, IsFree, AreJoined, AreReady, IsSlotChanged, AreSlotsChanged, has_burst, is_open_at, Rise, opened_at, closed_at, marked, IsBurstChangedBy, IsBurstChanged}
use Rattle.client_table.proofs.Changed.{SameElsewhere, other_key}
use Rattle.client_table.proofs.ChangedAll.{same_client, found_above}
use Rattle.client_table.proofs.Placing.{passes_open}

pub below : (a b : ℕ) → nat_cmp a b ≡ Less → a < b
below a b h = grind (arith, nat_tests)

-- ---- some of a list
module _ {X : Type 0} (P : X → Type 0) (p : X → Bool) where
  each_kept : (es : List X) → AllByRecursion P es → AllByRecursion P (filter p es)
  each_kept [] all = tt
  each_kept (e ∷ es) all = cond_both (p e) (e ∷ filter p es) (filter p es) (AllByRecursion P) (λ t. (all.0, each_kept es all.1)) (λ f. each_kept es all.1)

module _ (p : ℕ × ℕ → Bool) where
  free_kept : (key : ℕ) (es : List (ℕ × ℕ)) → IsFree key es → IsFree key (filter p es)
  free_kept key [] free = tt
  free_kept key (e ∷ es) free = cond_both (p e) (e ∷ filter p es) (filter p es) (IsFree key) (λ t. (free.0, free_kept key es free.1)) (λ f. free_kept key es free.1)

  pub joined_kept : (at : ℕ → Option Entry) (es : List (ℕ × ℕ)) → AreJoined at es → AreJoined at (filter p es)
  joined_kept at [] is = tt
  joined_kept at (e ∷ es) is =
      cond_both (p e) (e ∷ filter p es) (filter p es) (AreJoined at) (λ t. (is.0, (free_kept e.1 es is.1.0, joined_kept at es is.1.1))) (λ f. joined_kept at es is.1.1)

  above_sorted : (k : ℕ) (es : List (ℕ × ℕ)) → AllByRecursion (λ j. nat_cmp k j ≡ Less) (keys_of es) → AllByRecursion (λ d. k < d.0) es
  above_sorted k [] above = tt
  above_sorted k (e ∷ es) above = (below k e.0 above.0, above_sorted k es above.1)

  pub rise_kept : (es : List (ℕ × ℕ)) → IsStrictlySortedBy nat_cmp (keys_of es) → Rise (filter p es)
  rise_kept [] rise = tt
  rise_kept (e ∷ es) rise =
      let later = rise_kept es (sorted_tail nat_cmp e.0 (keys_of es) rise) in
      cond_both (p e) (e ∷ filter p es) (filter p es) Rise
      (λ t. (each_kept (λ d. e.0 < d.0) p es (above_sorted e.0 es (sorted_head nat_cmp e.0 (keys_of es) rise)), later)) (λ f. later)

  pub length_kept : (es : List (ℕ × ℕ)) → length (filter p es) ≤ length es
  length_kept [] = omega arith
  length_kept (e ∷ es) = cond_both (p e) (e ∷ filter p es) (filter p es) (λ l. length l ≤ length (e ∷ es)) (λ t. omega (arith, length_kept es)) (λ f. omega (arith, length_kept es))

-- where the tests are the same the same are kept
pub kept_step : (b c : Bool) (e : ℕ × ℕ) (l m : List (ℕ × ℕ)) → b ≡ c → l ≡ m → cond b (e ∷ l) l ≡ cond c (e ∷ m) m
kept_step b c e l m same rest = ap (λ x. cond x (e ∷ l) l) same ∙ ap (λ x. cond c (e ∷ x) x) rest

-- ---- one client opened or closed
opened_above : (client key : ℕ) (es : List (ℕ × ℕ)) → AllByRecursion (λ d. client < d.0) es → opened_at client key es ≡ (client, key) ∷ es
opened_above client key [] above = refl
opened_above client key (e ∷ es) above = cond-true (ltb client e.0) ((client, key) ∷ e ∷ es) _ (lt-ltb client e.0 above.0)

closed_above : (client : ℕ) (es : List (ℕ × ℕ)) → AllByRecursion (λ d. client < d.0) es → closed_at client es ≡ es
closed_above client [] above = refl
closed_above client (e ∷ es) above =
    cond-false (eqb client e.0) es (e ∷ closed_at client es) (ne_eqb client e.0 (λ same. omega (arith, above.0, same))) ∙ ap (λ (l : List (ℕ × ℕ)). e ∷ l) (closed_above client es above.1)

opened_here : (client key : ℕ) (e : ℕ × ℕ) (es : List (ℕ × ℕ)) → client ≡ e.0 → opened_at client key (e ∷ es) ≡ e ∷ es
opened_here client key e es same =
    cond-false (ltb client e.0) ((client, key) ∷ e ∷ es) (cond (eqb client e.0) (e ∷ es) (e ∷ opened_at client key es)) (le-ltb client e.0 (omega (arith, same)))
    ∙ cond-true (eqb client e.0) (e ∷ es) (e ∷ opened_at client key es) (eq-eqb client e.0 same)

closed_here : (client : ℕ) (e : ℕ × ℕ) (es : List (ℕ × ℕ)) → client ≡ e.0 → closed_at client (e ∷ es) ≡ es
closed_here client e es same = cond-true (eqb client e.0) es (e ∷ closed_at client es) (eq-eqb client e.0 same)

closed_behind : (client : ℕ) (e : ℕ × ℕ) (es : List (ℕ × ℕ)) → e.0 < client → closed_at client (e ∷ es) ≡ e ∷ closed_at client es
closed_behind client e es lt = cond-false (eqb client e.0) es (e ∷ closed_at client es) (ne_eqb client e.0 (λ same. omega (arith, lt, same)))

-- where the first is passed over
opened_pass : (b : Bool) (client key : ℕ) (e : ℕ × ℕ) (g : List (ℕ × ℕ)) → e.0 < client → cond b (e ∷ opened_at client key g) (opened_at client key g) ≡ opened_at client key (cond b (e ∷ g) g)
opened_pass true client key e g lt = sym (passes_open client key e g lt)
opened_pass false client key e g lt = refl

closed_pass : (b : Bool) (client : ℕ) (e : ℕ × ℕ) (g : List (ℕ × ℕ)) → e.0 < client → cond b (e ∷ closed_at client g) (closed_at client g) ≡ closed_at client (cond b (e ∷ g) g)
closed_pass true client e g lt = sym (closed_behind client e g lt)
closed_pass false client e g lt = refl

-- where the first is the client
opened_first : (b : Bool) (client key : ℕ) (e : ℕ × ℕ) (g : List (ℕ × ℕ)) → client ≡ e.0 → key ≡ e.1 → AllByRecursion (λ d. client < d.0) g → e ∷ g ≡ opened_at client key (cond b (e ∷ g) g)
opened_first true client key e g same same_key above = sym (opened_here client key e g same)
opened_first false client key e g same same_key above = ap (λ (k : ℕ). (k, e.1) ∷ g) (sym same) ∙ (ap (λ (n : ℕ). (client, n) ∷ g) (sym same_key) ∙ sym (opened_above client key g above))

closed_first : (b : Bool) (client : ℕ) (e : ℕ × ℕ) (g : List (ℕ × ℕ)) → client ≡ e.0 → AllByRecursion (λ d. client < d.0) g → g ≡ closed_at client (cond b (e ∷ g) g)
closed_first true client e g same above = sym (closed_here client e g same)
closed_first false client e g same above = sym (closed_above client g above)

found_key : (b : Bool) (e : ℕ × ℕ) (o : Option ℕ) (key : ℕ) → b ≡ true → cond b (Some e.1) o ≡ Some key → key ≡ e.1
found_key true e o key is found = ap (λ (x : Option ℕ). unwrap_or x 0) (sym found)
found_key false e o key is found = cc

found_later : (b : Bool) (e : ℕ × ℕ) (o : Option ℕ) (key : ℕ) → b ≡ false → cond b (Some e.1) o ≡ Some key → o ≡ Some key
found_later true e o key is found = cc
found_later false e o key is found = found

module _ (at now : ℕ → Option Entry) (key : ℕ) (elsewhere : SameElsewhere at now key) where
  -- the other keys have bursts as before
  kept_free : (es : List (ℕ × ℕ)) → IsFree key es → filter (is_open_at now) es ≡ filter (is_open_at at) es
  kept_free [] free = refl
  kept_free (e ∷ es) free = kept_step (is_open_at now e) (is_open_at at e) e _ _ (ap has_burst (elsewhere e.1 free.0)) (kept_free es free.1)

  module _ (client : ℕ) where
    abbrev At : ℕ → Bool
    At = is_at (nat_cmp client)

    above_here : (e : ℕ × ℕ) (es : List (ℕ × ℕ)) → client ≡ e.0 → IsStrictlySortedBy nat_cmp (keys_of (e ∷ es)) → AllByRecursion (λ d. client < d.0) (filter (is_open_at at) es)
    above_here e es same rise =
        each_kept (λ d. client < d.0) (is_open_at at) es
        (subst (λ (k : ℕ). AllByRecursion (λ d. k < d.0) es) (sym same) (above_sorted (is_open_at at) e.0 es (sorted_head nat_cmp e.0 (keys_of es) rise)))

    -- the client's key has a burst
    pub set_open : (es : List (ℕ × ℕ)) → has_burst (now key) ≡ true → IsStrictlySortedBy nat_cmp (keys_of es) → AreJoined at es → lookup At es ≡ Some key
        → opened_at client key (filter (is_open_at at) es) ≡ filter (is_open_at now) es
    set_open [] opens rise is found = cc
    set_open (e ∷ es) opens rise is found =
        ⊎_elim
        (λ t.
        let same : client ≡ e.0 = sym (same_client client e.0 t) in
        let same_key : key ≡ e.1 = found_key (At e.0) e (lookup At es) key t found in
        let free : IsFree key es = subst (λ (k : ℕ). IsFree k es) (sym same_key) is.1.0 in
        let here : is_open_at now e ≡ true = ap (λ (k : ℕ). has_burst (now k)) (sym same_key) ∙ opens in
        sym (cond-true (is_open_at now e) (e ∷ filter (is_open_at now) es) (filter (is_open_at now) es) here
        ∙ (ap (λ (l : List (ℕ × ℕ)). e ∷ l) (kept_free es free)
        ∙ opened_first (is_open_at at e) client key e (filter (is_open_at at) es) same same_key (above_here e es same rise))))
        (λ f.
        let later : lookup At es ≡ Some key = found_later (At e.0) e (lookup At es) key f found in
        let lt : e.0 < client = below e.0 client (found_above e.0 client key es (sorted_head nat_cmp e.0 (keys_of es) rise) later) in
        let rest = set_open es opens (sorted_tail nat_cmp e.0 (keys_of es) rise) is.1.1 later in
        sym (kept_step (is_open_at now e) (is_open_at at e) e _ _ (ap has_burst (elsewhere e.1 (other_key At key e.1 es is.1.0 later))) (sym rest)
        ∙ opened_pass (is_open_at at e) client key e (filter (is_open_at at) es) lt))
        (cases_Bool (At e.0))

    -- or has none
    pub set_closed : (es : List (ℕ × ℕ)) → has_burst (now key) ≡ false → IsStrictlySortedBy nat_cmp (keys_of es) → AreJoined at es → lookup At es ≡ Some key
        → closed_at client (filter (is_open_at at) es) ≡ filter (is_open_at now) es
    set_closed [] closes rise is found = cc
    set_closed (e ∷ es) closes rise is found =
        ⊎_elim
        (λ t.
        let same : client ≡ e.0 = sym (same_client client e.0 t) in
        let same_key : key ≡ e.1 = found_key (At e.0) e (lookup At es) key t found in
        let free : IsFree key es = subst (λ (k : ℕ). IsFree k es) (sym same_key) is.1.0 in
        let here : is_open_at now e ≡ false = ap (λ (k : ℕ). has_burst (now k)) (sym same_key) ∙ closes in
        sym (cond-false (is_open_at now e) (e ∷ filter (is_open_at now) es) (filter (is_open_at now) es) here
        ∙ (kept_free es free ∙ closed_first (is_open_at at e) client e (filter (is_open_at at) es) same (above_here e es same rise))))
        (λ f.
        let later : lookup At es ≡ Some key = found_later (At e.0) e (lookup At es) key f found in
        let lt : e.0 < client = below e.0 client (found_above e.0 client key es (sorted_head nat_cmp e.0 (keys_of es) rise) later) in
        let rest = set_closed es closes (sorted_tail nat_cmp e.0 (keys_of es) rise) is.1.1 later in
        sym (kept_step (is_open_at now e) (is_open_at at e) e _ _ (ap has_burst (elsewhere e.1 (other_key At key e.1 es is.1.0 later))) (sym rest)
        ∙ closed_pass (is_open_at at e) client e (filter (is_open_at at) es) lt))
        (cases_Bool (At e.0))

    -- or is as before
    set_same : (es : List (ℕ × ℕ)) → has_burst (now key) ≡ has_burst (at key) → filter (is_open_at at) es ≡ filter (is_open_at now) es
    set_same [] same = refl
    set_same (e ∷ es) same =
        kept_step (is_open_at at e) (is_open_at now e) e _ _
        (⊎_elim (λ (is : e.1 ≡ key). ap (λ (k : ℕ). has_burst (at k)) is ∙ (sym same ∙ ap (λ (k : ℕ). has_burst (now k)) (sym is))) (λ differ. sym (ap has_burst (elsewhere e.1 differ))) (cases_eq e.1 key))
        (set_same es same)

    pub set_marked : (was is : Bool) (es : List (ℕ × ℕ)) → was ≡ has_burst (at key) → is ≡ has_burst (now key) → IsStrictlySortedBy nat_cmp (keys_of es) → AreJoined at es → lookup At es ≡ Some key
        → marked was is client key (filter (is_open_at at) es) ≡ filter (is_open_at now) es
    set_marked true true es was is rise joins found = set_same es (sym is ∙ was)
    set_marked true false es was is rise joins found = set_closed es (sym is) rise joins found
    set_marked false true es was is rise joins found = set_open es (sym is) rise joins found
    set_marked false false es was is rise joins found = set_same es (sym is ∙ was)

    -- the client goes
    pub removed_open : (es : List (ℕ × ℕ)) → IsStrictlySortedBy nat_cmp (keys_of es) → AreJoined at es → lookup At es ≡ Some key
        → closed_at client (filter (is_open_at at) es) ≡ filter (is_open_at now) (remove_entry At es)
    removed_open [] rise is found = cc
    removed_open (e ∷ es) rise is found =
        cond_both (At e.0) es (e ∷ remove_entry At es) (λ l. closed_at client (filter (is_open_at at) (e ∷ es)) ≡ filter (is_open_at now) l)
        (λ t.
        let same : client ≡ e.0 = sym (same_client client e.0 t) in
        let same_key : key ≡ e.1 = found_key (At e.0) e (lookup At es) key t found in
        let free : IsFree key es = subst (λ (k : ℕ). IsFree k es) (sym same_key) is.1.0 in
        sym (kept_free es free ∙ closed_first (is_open_at at e) client e (filter (is_open_at at) es) same (above_here e es same rise)))
        (λ f.
        let later : lookup At es ≡ Some key = found_later (At e.0) e (lookup At es) key f found in
        let lt : e.0 < client = below e.0 client (found_above e.0 client key es (sorted_head nat_cmp e.0 (keys_of es) rise) later) in
        let rest = removed_open es (sorted_tail nat_cmp e.0 (keys_of es) rise) is.1.1 later in
        sym (kept_step (is_open_at now e) (is_open_at at e) e _ _ (ap has_burst (elsewhere e.1 (other_key At key e.1 es is.1.0 later))) (sym rest)
        ∙ closed_pass (is_open_at at e) client e (filter (is_open_at at) es) lt))

    -- a client comes, without a burst
    inserted_step : (o : Ordering) (e : ℕ × ℕ) (es : List (ℕ × ℕ)) → nat_cmp client e.0 ≡ o → has_burst (now key) ≡ false → IsFree key (e ∷ es) → lookup At (e ∷ es) ≡ None
        → (lookup At es ≡ None → filter (is_open_at at) es ≡ filter (is_open_at now) (insert_entry nat_cmp es client key))
        → filter (is_open_at at) (e ∷ es) ≡ filter (is_open_at now) (match_ordering o ((client, key) ∷ e ∷ es) ((e.0, key) ∷ es) (e ∷ insert_entry nat_cmp es client key))
    inserted_step Less e es order closes free unknown later =
        sym (cond-false (is_open_at now (client, key)) ((client, key) ∷ filter (is_open_at now) (e ∷ es)) (filter (is_open_at now) (e ∷ es)) closes ∙ kept_free (e ∷ es) free)
    inserted_step Equal e es order closes free unknown later =
        let known : Some e.1 ≡ None = rw order at unknown in
        cc
    inserted_step Greater e es order closes free unknown later =
        kept_step (is_open_at at e) (is_open_at now e) e _ _ (sym (ap has_burst (elsewhere e.1 free.0))) (later (rw order at unknown))

    pub inserted_open : (es : List (ℕ × ℕ)) → has_burst (now key) ≡ false → IsFree key es → lookup At es ≡ None
        → filter (is_open_at at) es ≡ filter (is_open_at now) (insert_entry nat_cmp es client key)
    inserted_open [] closes free unknown = sym (cond-false (is_open_at now (client, key)) ((client, key) ∷ []) [] closes)
    inserted_open (e ∷ es) closes free unknown = inserted_step (nat_cmp client e.0) e es refl closes free unknown (inserted_open es closes free.1)

-- ---- all of them
-- their entries are the known ones with a burst
shown_step : (o : Option Entry) (e : ℕ × ℕ) (at : ℕ → Option Entry) (es : List (ℕ × ℕ)) → at e.1 ≡ o → IsSome o → joined at (filter (is_open_at at) es) ≡ filter (λ d. is_some d.1.burst) (joined at es)
    → joined at (cond (has_burst o) (e ∷ filter (is_open_at at) es) (filter (is_open_at at) es)) ≡ filter (λ d. is_some d.1.burst) (before e.0 o (joined at es))
shown_step None e at es is some rest = cc
shown_step (Some x) e at es is some rest =
    cond_both (is_some x.burst) (e ∷ filter (is_open_at at) es) (filter (is_open_at at) es) (λ l. joined at l ≡ filter (λ d. is_some d.1.burst) ((e.0, x) ∷ joined at es))
    (λ t. ap (λ (o : Option Entry). before e.0 o (joined at (filter (is_open_at at) es))) is ∙ (ap (λ (l : List (ℕ × Entry)). (e.0, x) ∷ l) rest ∙ sym (cond-true (is_some x.burst) ((e.0, x) ∷ filter (λ d. is_some d.1.burst) (joined at es)) (filter (λ d. is_some d.1.burst) (joined at es)) t)))
    (λ f. rest ∙ sym (cond-false (is_some x.burst) ((e.0, x) ∷ filter (λ d. is_some d.1.burst) (joined at es)) (filter (λ d. is_some d.1.burst) (joined at es)) f))

pub shown_open : (at : ℕ → Option Entry) (es : List (ℕ × ℕ)) → AreJoined at es → joined at (filter (is_open_at at) es) ≡ filter (λ d. is_some d.1.burst) (joined at es)
shown_open at [] is = refl
shown_open at (e ∷ es) is = shown_step (at e.1) e at es refl is.0 (shown_open at es is.1.1)

-- a key without a burst isn't theirs
pub closed_free : (at : ℕ → Option Entry) (key : ℕ) → has_burst (at key) ≡ false → (es : List (ℕ × ℕ)) → IsFree key (filter (is_open_at at) es)
closed_free at key closed [] = tt
closed_free at key closed (e ∷ es) =
    cond_both (is_open_at at e) (e ∷ filter (is_open_at at) es) (filter (is_open_at at) es) (IsFree key)
    (λ t. (λ same. both_ways (has_burst (at key)) closed (ap (λ (k : ℕ). has_burst (at k)) (sym same) ∙ t), closed_free at key closed es)) (λ f. closed_free at key closed es)

-- each has a burst that is as asked
module _ (pre : Burst → Type 0) (at : ℕ → Option Entry) where
  burst_ready : (o : Option Burst) → is_some o ≡ true → IfSome o pre → IsSomeAnd o pre
  burst_ready None has all = cc
  burst_ready (Some b) has all = all

  entry_ready : (o : Option Entry) → has_burst o ≡ true → IsSomeAnd o (λ e. IfSome e.burst pre) → IsSomeAnd o (λ e. IsSomeAnd e.burst pre)
  entry_ready None has all = cc
  entry_ready (Some e) has all = burst_ready e.burst has all

  pub ready_open : (es : List (ℕ × ℕ)) → AreReady (λ _ e. IfSome e.burst pre) at es → AreReady (λ _ e. IsSomeAnd e.burst pre) at (filter (is_open_at at) es)
  ready_open [] ready = tt
  ready_open (e ∷ es) ready =
      cond_both (is_open_at at e) (e ∷ filter (is_open_at at) es) (filter (is_open_at at) es) (AreReady (λ _ d. IsSomeAnd d.burst pre) at)
      (λ t. (entry_ready (at e.1) t ready.0, (free_kept (is_open_at at) e.1 es ready.1.0, ready_open es ready.1.1))) (λ f. ready_open es ready.1.1)

-- where their bursts were changed, and no other slot, the entries of all were changed so
module _ (change : Burst → Burst → Type 0) (at now : ℕ → Option Entry) (others : (key : ℕ) → has_burst (at key) ≡ false → now key ≡ at key) where
  unchanged : (o n : Option Entry) → IsSome o → has_burst o ≡ false → n ≡ o → IsSlotChanged (IsBurstChanged change) o n
  unchanged None n some closed same = cc
  unchanged (Some x) n some closed same = subst (IsSlotChanged (IsBurstChanged change) (Some x)) (sym same) (same_entry x.burst closed)
    where
      same_entry : (b : Option Burst) → is_some b ≡ false → IsBurstChangedBy change b x x
      same_entry None closed = refl
      same_entry (Some b) closed = cc

  pub all_changed : (es : List (ℕ × ℕ)) → AreJoined at es → AreSlotsChanged (λ _. IsBurstChanged change) at now (filter (is_open_at at) es) → AreSlotsChanged (λ _. IsBurstChanged change) at now es
  all_changed [] is changed = tt
  all_changed (e ∷ es) is changed =
      cond_both (is_open_at at e) (e ∷ filter (is_open_at at) es) (filter (is_open_at at) es)
      (λ l. AreSlotsChanged (λ _. IsBurstChanged change) at now l → AreSlotsChanged (λ _. IsBurstChanged change) at now (e ∷ es))
      (λ t c. (c.0, all_changed es is.1.1 c.1))
      (λ f c. (unchanged (at e.1) (now e.1) is.0 f (others e.1 f), all_changed es is.1.1 c)) changed

-- ---- changes that open and close no burst
module _ (R : Entry → Entry → Type 0) (at now : ℕ → Option Entry) where
  module _ (keeps : (x y : Entry) → R x y → is_some y.burst ≡ is_some x.burst) where
    slot_open : (o n : Option Entry) → IsSlotChanged R o n → has_burst n ≡ has_burst o
    slot_open None n changed = absurd changed
    slot_open (Some x) None changed = absurd changed
    slot_open (Some x) (Some y) changed = keeps x y changed

    pub same_open : (es : List (ℕ × ℕ)) → AreSlotsChanged (λ _. R) at now es → filter (is_open_at at) es ≡ filter (is_open_at now) es
    same_open [] changed = refl
    same_open (e ∷ es) changed = kept_step (is_open_at at e) (is_open_at now e) e _ _ (sym (slot_open (at e.1) (now e.1) changed.0)) (same_open es changed.1)

burst_keeps : (change : Burst → Burst → Type 0) (o : Option Burst) (x y : Entry) → x.burst ≡ o → IsBurstChangedBy change o x y → is_some y.burst ≡ is_some x.burst
burst_keeps change None x y is changed = ap (λ (e : Entry). is_some e.burst) changed
burst_keeps change (Some b) x y is changed = ap (λ (e : Entry). is_some e.burst) changed.1 ∙ sym (ap is_some is)

pub bursts_keep : (change : Burst → Burst → Type 0) (x y : Entry) → IsBurstChanged change x y → is_some y.burst ≡ is_some x.burst
bursts_keep change x y changed = burst_keeps change x.burst x y refl changed

pub burst_made : (change : Burst → Burst → Type 0) (o : Option Burst) (x : Entry) (b c : Burst) → o ≡ Some b → change b c → IsBurstChangedBy change o x (record x { burst = Some c })
burst_made change None x b c is called = cc
burst_made change (Some d) x b c is called = let same : b ≡ d = cc in (c, refl, subst (λ (y : Burst). change y c) same called)
