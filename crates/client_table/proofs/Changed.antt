-- What one change of the index and of the slots makes of the joined list.
use Rattle.std.proofs.Common.{◌≡◌, ◌≢◌, ℕ, Bool, true, false, cond, List, [], ◌∷◌, Option, Some, None, IsSome, unwrap_or, slice_set, zero, suc, refl, ap, sym, ◌∙◌, subst}
use Rattle.std.specs.Option.{option_map}
use Rattle.std.specs.Map.{lookup, set_value, remove_entry}
use Rattle.std.specs.BTreeMap.{insert_entry, is_at}
use Rattle.std.specs.Ordering.{nat_cmp, match_ordering}
use Rattle.std.specs.declared.cmp.Ordering.{Ordering}
use Rattle.std.specs.declared.cmp.Ordering.TheVariants.{Less, Equal, Greater}
use Rattle.client_table.specs.declared.{entry.Entry.Entry, stored.Stored.Stored}
use Rattle.client_table.specs.{shown, slot_at, entry_at, before, joined, IsFree, AreJoined}

-- all keys but one have what they had
abbrev pub SameElsewhere : {X : Type 0} → (ℕ → Option X) → (ℕ → Option X) → ℕ → Type 0
SameElsewhere at now key = (k : ℕ) → k ≢ key → now k ≡ at k

module _ (at now : ℕ → Option Entry) (key : ℕ) (elsewhere : SameElsewhere at now key) where
  -- clients with other keys keep their entries
  pub joined_same : (es : List (ℕ × ℕ)) → IsFree key es → joined now es ≡ joined at es
  joined_same [] free = refl
  joined_same (e ∷ es) free = rw (elsewhere e.1 free.0, joined_same es free.1)

  pub are_joined_same : (es : List (ℕ × ℕ)) → IsFree key es → AreJoined at es → AreJoined now es
  are_joined_same [] free is = tt
  are_joined_same (e ∷ es) free is = (subst (λ (slot : Option Entry). IsSome slot) (sym (elsewhere e.1 free.0)) is.0, (is.1.0, are_joined_same es free.1 is.1.1))

-- a slot isn't both
pub none_and_some : (slot : Option Entry) → slot ≡ None → IsSome slot → ⊥
none_and_some None none some = cc
none_and_some (Some entry) none some = cc

-- a key without an entry is free
pub free_key : (at : ℕ → Option Entry) (key : ℕ) → at key ≡ None → (es : List (ℕ × ℕ)) → AreJoined at es → IsFree key es
free_key at key none [] is = tt
free_key at key none (e ∷ es) is = (λ same. none_and_some (at e.1) (ap at same ∙ none) is.0, free_key at key none es is.1.1)

-- a free key is no client's
module _ (test : ℕ → Bool) (key : ℕ) where
  other_step : (b : Bool) (k : ℕ) (e : ℕ × ℕ) (es : List (ℕ × ℕ)) → IsFree k (e ∷ es) → cond b (Some e.1) (lookup test es) ≡ Some key → (lookup test es ≡ Some key → k ≢ key) → k ≢ key
  other_step true k e es free found later = λ same. free.0 (ap (λ (o : Option ℕ). unwrap_or o 0) found ∙ sym same)
  other_step false k e es free found later = later found

  pub other_key : (k : ℕ) (es : List (ℕ × ℕ)) → IsFree k es → lookup test es ≡ Some key → k ≢ key
  other_key k [] free found = cc
  other_key k (e ∷ es) free found = other_step (test e.0) k e es free found (other_key k es free.1)

-- Another entry for the client that passes the test.
module _ (at now : ℕ → Option Entry) (key : ℕ) (elsewhere : SameElsewhere at now key) (test : ℕ → Bool) (entry : Entry) (is_now : now key ≡ Some entry) where
  set_step : (b : Bool) (slot : Option Entry) (e : ℕ × ℕ) (es : List (ℕ × ℕ)) → at e.1 ≡ slot → IsSome slot → IsFree e.1 es → cond b (Some e.1) (lookup test es) ≡ Some key
      → (lookup test es ≡ Some key → joined now es ≡ set_value test (joined at es) entry) → test e.0 ≡ b
      → before e.0 (now e.1) (joined now es) ≡ set_value test (before e.0 slot (joined at es)) entry
  set_step b None e es slot_is some free found later is_test = cc
  set_step true (Some was) e es slot_is some free found later is_test =
      let same : e.1 ≡ key = ap (λ (o : Option ℕ). unwrap_or o 0) found in
      let free_now : IsFree key es = subst (λ (k : ℕ). IsFree k es) same free in
      let here : now e.1 ≡ Some entry = ap now same ∙ is_now in
      rw (is_test, here, joined_same at now key elsewhere es free_now)
  set_step false (Some was) e es slot_is some free found later is_test =
      let here : now e.1 ≡ Some was = elsewhere e.1 (other_key test key e.1 es free found) ∙ slot_is in
      rw (is_test, here, later found)

  pub joined_set : (es : List (ℕ × ℕ)) → AreJoined at es → lookup test es ≡ Some key → joined now es ≡ set_value test (joined at es) entry
  joined_set [] is found = refl
  joined_set (e ∷ es) is found = set_step (test e.0) (at e.1) e es refl is.0 is.1.0 found (joined_set es is.1.1) refl

  set_kept_step : (b : Bool) (e : ℕ × ℕ) (es : List (ℕ × ℕ)) → AreJoined at (e ∷ es) → cond b (Some e.1) (lookup test es) ≡ Some key → (lookup test es ≡ Some key → AreJoined now es) → AreJoined now (e ∷ es)
  set_kept_step true e es is found later =
      let same : e.1 ≡ key = ap (λ (o : Option ℕ). unwrap_or o 0) found in
      let free_now : IsFree key es = subst (λ (k : ℕ). IsFree k es) same is.1.0 in
      let here : now e.1 ≡ Some entry = ap now same ∙ is_now in
      (rw here refl, (is.1.0, are_joined_same at now key elsewhere es free_now is.1.1))
  set_kept_step false e es is found later =
      (rw (elsewhere e.1 (other_key test key e.1 es is.1.0 found)) is.0, (is.1.0, later found))

  pub set_kept : (es : List (ℕ × ℕ)) → AreJoined at es → lookup test es ≡ Some key → AreJoined now es
  set_kept [] is found = tt
  set_kept (e ∷ es) is found = set_kept_step (test e.0) e es is found (set_kept es is.1.1)

-- Without the client that passes the test.
module _ (at now : ℕ → Option Entry) (key : ℕ) (elsewhere : SameElsewhere at now key) (test : ℕ → Bool) where
  remove_step : (b : Bool) (slot : Option Entry) (e : ℕ × ℕ) (es : List (ℕ × ℕ)) → at e.1 ≡ slot → IsSome slot → IsFree e.1 es → cond b (Some e.1) (lookup test es) ≡ Some key
      → (lookup test es ≡ Some key → joined now (remove_entry test es) ≡ remove_entry test (joined at es)) → test e.0 ≡ b
      → joined now (cond b es (e ∷ remove_entry test es)) ≡ remove_entry test (before e.0 slot (joined at es))
  remove_step b None e es slot_is some free found later is_test = cc
  remove_step true (Some was) e es slot_is some free found later is_test =
      let same : e.1 ≡ key = ap (λ (o : Option ℕ). unwrap_or o 0) found in
      rw (is_test, joined_same at now key elsewhere es (subst (λ (k : ℕ). IsFree k es) same free))
  remove_step false (Some was) e es slot_is some free found later is_test =
      let here : now e.1 ≡ Some was = elsewhere e.1 (other_key test key e.1 es free found) ∙ slot_is in
      rw (is_test, here, later found)

  pub joined_remove : (es : List (ℕ × ℕ)) → AreJoined at es → lookup test es ≡ Some key → joined now (remove_entry test es) ≡ remove_entry test (joined at es)
  joined_remove [] is found = refl
  joined_remove (e ∷ es) is found = remove_step (test e.0) (at e.1) e es refl is.0 is.1.0 found (joined_remove es is.1.1) refl

  free_remove : (k : ℕ) (es : List (ℕ × ℕ)) → IsFree k es → IsFree k (remove_entry test es)
  free_remove k [] free = tt
  free_remove k (e ∷ es) free = elim (test e.0) as (λ b. IsFree k (cond b es (e ∷ remove_entry test es))) [ true ↦ free.1 | false ↦ (free.0, free_remove k es free.1) ]

  remove_kept_step : (b : Bool) (e : ℕ × ℕ) (es : List (ℕ × ℕ)) → AreJoined at (e ∷ es) → cond b (Some e.1) (lookup test es) ≡ Some key → (lookup test es ≡ Some key → AreJoined now (remove_entry test es))
      → AreJoined now (cond b es (e ∷ remove_entry test es))
  remove_kept_step true e es is found later =
      let same : e.1 ≡ key = ap (λ (o : Option ℕ). unwrap_or o 0) found in
      are_joined_same at now key elsewhere es (subst (λ (k : ℕ). IsFree k es) same is.1.0) is.1.1
  remove_kept_step false e es is found later =
      (rw (elsewhere e.1 (other_key test key e.1 es is.1.0 found)) is.0, (free_remove e.1 es is.1.0, later found))

  pub remove_kept : (es : List (ℕ × ℕ)) → AreJoined at es → lookup test es ≡ Some key → AreJoined now (remove_entry test es)
  remove_kept [] is found = tt
  remove_kept (e ∷ es) is found = remove_kept_step (test e.0) e es is found (remove_kept es is.1.1)

-- One client more, under a key that had no entry.
module _ (at now : ℕ → Option Entry) (key : ℕ) (elsewhere : SameElsewhere at now key) (client : ℕ) (entry : Entry) (is_now : now key ≡ Some entry) where
  insert_step : (o : Ordering) (slot : Option Entry) (e : ℕ × ℕ) (es : List (ℕ × ℕ)) → at e.1 ≡ slot → IsSome slot → IsFree key (e ∷ es) → nat_cmp client e.0 ≡ o
      → lookup (is_at (nat_cmp client)) (before e.0 slot (joined at es)) ≡ None
      → (lookup (is_at (nat_cmp client)) (joined at es) ≡ None → joined now (insert_entry nat_cmp es client key) ≡ insert_entry nat_cmp (joined at es) client entry)
      → joined now (match_ordering o ((client, key) ∷ e ∷ es) ((e.0, key) ∷ es) (e ∷ insert_entry nat_cmp es client key)) ≡ insert_entry nat_cmp (before e.0 slot (joined at es)) client entry
  insert_step o None e es slot_is some free order unknown later = cc
  insert_step Less (Some was) e es slot_is some free order unknown later =
      let here : now e.1 ≡ Some was = elsewhere e.1 free.0 ∙ slot_is in
      rw (order, is_now, here, joined_same at now key elsewhere es free.1)
  insert_step Equal (Some was) e es slot_is some free order unknown later =
      let known : Some was ≡ None = rw order at unknown in
      cc
  insert_step Greater (Some was) e es slot_is some free order unknown later =
      let here : now e.1 ≡ Some was = elsewhere e.1 free.0 ∙ slot_is in
      rw (order, here, later (rw order at unknown))

  pub joined_insert : (es : List (ℕ × ℕ)) → AreJoined at es → IsFree key es → lookup (is_at (nat_cmp client)) (joined at es) ≡ None → joined now (insert_entry nat_cmp es client key) ≡ insert_entry nat_cmp (joined at es) client entry
  joined_insert [] is free unknown = rw is_now
  joined_insert (e ∷ es) is free unknown = insert_step (nat_cmp client e.0) (at e.1) e es refl is.0 free refl unknown (joined_insert es is.1.1 free.1)

  free_insert : (k : ℕ) (es : List (ℕ × ℕ)) → key ≢ k → IsFree k es → IsFree k (insert_entry nat_cmp es client key)
  free_insert k [] other free = (other, tt)
  free_insert k (e ∷ es) other free =
      elim (nat_cmp client e.0) as (λ o. IsFree k (match_ordering o ((client, key) ∷ e ∷ es) ((e.0, key) ∷ es) (e ∷ insert_entry nat_cmp es client key))) [
        | Less ↦ (other, (free.0, free.1))
        | Equal ↦ (other, free.1)
        | Greater ↦ (free.0, free_insert k es other free.1)
      ]

  insert_kept_step : (o : Ordering) (e : ℕ × ℕ) (es : List (ℕ × ℕ)) → AreJoined at (e ∷ es) → IsFree key (e ∷ es) → AreJoined now (insert_entry nat_cmp es client key)
      → AreJoined now (match_ordering o ((client, key) ∷ e ∷ es) ((e.0, key) ∷ es) (e ∷ insert_entry nat_cmp es client key))
  insert_kept_step Less e es is free later = (rw is_now refl, (free, are_joined_same at now key elsewhere (e ∷ es) free is))
  insert_kept_step Equal e es is free later = (rw is_now refl, (free.1, are_joined_same at now key elsewhere es free.1 is.1.1))
  insert_kept_step Greater e es is free later = (rw (elsewhere e.1 free.0) is.0, (free_insert e.1 es (λ same. free.0 (sym same)) is.1.0, later))

  pub insert_kept : (es : List (ℕ × ℕ)) → AreJoined at es → IsFree key es → AreJoined now (insert_entry nat_cmp es client key)
  insert_kept [] is free = (rw is_now refl, (tt, tt))
  insert_kept (e ∷ es) is free = insert_kept_step (nat_cmp client e.0) e es is free (insert_kept es is.1.1 free.1)

remove_none_step : {X : Type 0} (b : Bool) (test : ℕ → Bool) (e : ℕ × X) (es : List (ℕ × X)) → cond b (Some e.1) (lookup test es) ≡ None → (lookup test es ≡ None → remove_entry test es ≡ es) → cond b es (e ∷ remove_entry test es) ≡ e ∷ es
remove_none_step true test e es none later = cc
remove_none_step {X} false test e es none later = ap (λ (ds : List (ℕ × X)). e ∷ ds) (later none)

-- where no client passes none goes
pub remove_none : {X : Type 0} (test : ℕ → Bool) (es : List (ℕ × X)) → lookup test es ≡ None → remove_entry test es ≡ es
remove_none test [] none = refl
remove_none test (e ∷ es) none = remove_none_step (test e.0) test e es none (remove_none test es)

found_step : (b : Bool) (at : ℕ → Option Entry) (test : ℕ → Bool) (key : ℕ) (e : ℕ × ℕ) (es : List (ℕ × ℕ)) → IsSome (at e.1) → cond b (Some e.1) (lookup test es) ≡ Some key → (lookup test es ≡ Some key → IsSome (at key)) → IsSome (at key)
found_step true at test key e es some found later = subst (λ (k : ℕ). IsSome (at k)) (ap (λ (o : Option ℕ). unwrap_or o 0) found) some
found_step false at test key e es some found later = later found

-- a client's key has an entry
pub found_some : (at : ℕ → Option Entry) (test : ℕ → Bool) (key : ℕ) (es : List (ℕ × ℕ)) → AreJoined at es → lookup test es ≡ Some key → IsSome (at key)
found_some at test key [] is found = cc
found_some at test key (e ∷ es) is found = found_step (test e.0) at test key e es is.0 found (found_some at test key es is.1.1)

-- a slot that is written has what was written, and no other changes
pub written_here : (slots : List (Option Stored)) (key : ℕ) (stored : Stored) → IsSome (slot_at slots key) → slot_at (slice_set slots key (Some stored)) key ≡ Some stored
written_here [] key stored some = cc
written_here (slot ∷ slots) zero stored some = refl
written_here (slot ∷ slots) (suc key) stored some = written_here slots key stored some

pub written_elsewhere : (slots : List (Option Stored)) (key : ℕ) (stored : Stored) → SameElsewhere (slot_at slots) (slot_at (slice_set slots key (Some stored))) key
written_elsewhere [] key stored k other = refl
written_elsewhere (slot ∷ slots) zero stored zero other = absurd (other refl)
written_elsewhere (slot ∷ slots) zero stored (suc k) other = refl
written_elsewhere (slot ∷ slots) (suc key) stored zero other = refl
written_elsewhere (slot ∷ slots) (suc key) stored (suc k) other = written_elsewhere slots key stored k (λ same. other (ap (λ (n : ℕ). suc n) same))

-- so it is with the entries that the slots show
pub shown_elsewhere : (tick key : ℕ) (slots now : List (Option Stored)) → SameElsewhere (slot_at slots) (slot_at now) key → SameElsewhere (entry_at tick slots) (entry_at tick now) key
shown_elsewhere tick key slots now elsewhere k other = ap (option_map (shown tick)) (elsewhere k other)

pub shown_some : (tick key : ℕ) (slots : List (Option Stored)) → IsSome (entry_at tick slots key) → IsSome (slot_at slots key)
shown_some tick key slots some = some_by (slot_at slots key) some
  where
    some_by : (o : Option Stored) → IsSome (option_map (shown tick) o) → IsSome o
    some_by None some = absurd (let none : ⊥ = cc in none)
    some_by (Some x) some = refl

-- where all slots are the same the entries are
pub entries_same : (tick : ℕ) (slots now : List (Option Stored)) (key : ℕ) → slot_at now key ≡ slot_at slots key → entry_at tick now key ≡ entry_at tick slots key
entries_same tick slots now key same = ap (option_map (shown tick)) same

-- what came under a key, and where there is nothing
pub came : (tick key : ℕ) (now : List (Option Stored)) (stored : Stored) (entry : Entry) → slot_at now key ≡ Some stored → shown tick stored ≡ entry → entry_at tick now key ≡ Some entry
came tick key now stored entry is shows = ap (option_map (shown tick)) is ∙ ap (λ (e : Entry). Some e) shows

pub none_shown : (tick key : ℕ) (slots : List (Option Stored)) → slot_at slots key ≡ None → entry_at tick slots key ≡ None
none_shown tick key slots none = ap (option_map (shown tick)) none

-- after one slot was written
module _ (tick : ℕ) (slots now : List (Option Stored)) (key : ℕ) (stored : Stored) (is : now ≡ slice_set slots key (Some stored)) where
  pub put_elsewhere : SameElsewhere (entry_at tick slots) (entry_at tick now) key
  put_elsewhere = shown_elsewhere tick key slots now (subst (λ (l : List (Option Stored)). SameElsewhere (slot_at slots) (slot_at l) key) (sym is) (written_elsewhere slots key stored))

  pub put_others : SameElsewhere (slot_at slots) (slot_at now) key
  put_others = subst (λ (l : List (Option Stored)). SameElsewhere (slot_at slots) (slot_at l) key) (sym is) (written_elsewhere slots key stored)

  pub put_here : (entry : Entry) → IsSome (entry_at tick slots key) → shown tick stored ≡ entry → entry_at tick now key ≡ Some entry
  put_here entry some shows =
      ap (option_map (shown tick)) (ap (λ (l : List (Option Stored)). slot_at l key) is ∙ written_here slots key stored (shown_some tick key slots some)) ∙ ap (λ (e : Entry). Some e) shows

set_none_step : {X : Type 0} (b : Bool) (test : ℕ → Bool) (e : ℕ × X) (es : List (ℕ × X)) (x : X) → cond b (Some e.1) (lookup test es) ≡ None → (lookup test es ≡ None → set_value test es x ≡ es) → cond b ((e.0, x) ∷ es) (e ∷ set_value test es x) ≡ e ∷ es
set_none_step true test e es x none later = cc
set_none_step {X} false test e es x none later = ap (λ (ds : List (ℕ × X)). e ∷ ds) (later none)

-- another entry for a client that isn't known
pub set_none : {X : Type 0} (test : ℕ → Bool) (es : List (ℕ × X)) (x : X) → lookup test es ≡ None → set_value test es x ≡ es
set_none test [] x none = refl
set_none test (e ∷ es) x none = set_none_step (test e.0) test e es x none (set_none test es x)
