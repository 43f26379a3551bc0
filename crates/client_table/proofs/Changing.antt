-- What changes of all entries, one after another, make of the slots and of what the table shows.
use Rattle.std.proofs.Common.{◌≡◌, ◌≢◌, ℕ, zero, suc, drop, List, [], ◌∷◌, Option, Some, IsSome, IsSomeAnd, refl, sym, ◌∙◌, subst}
use Rattle.client_table.specs.declared.entry.Entry.{Entry}
use Rattle.client_table.specs.{IsFree, AreReady, IsSlotChanged, AreSlotsChanged}
use Rattle.client_table.proofs.Changed.{SameElsewhere}

-- the others keep theirs
ready_same : (P : ℕ → Entry → Type 0) (at now : ℕ → Option Entry) (key : ℕ) → SameElsewhere at now key → (es : List (ℕ × ℕ)) → IsFree key es → AreReady P at es → AreReady P now es
ready_same P at now key elsewhere [] free ready = tt
ready_same P at now key elsewhere (e ∷ es) free ready = (subst (λ o. IsSomeAnd o (P e.0)) (sym (elsewhere e.1 free.0)) ready.0, (ready.1.0, ready_same P at now key elsewhere es free.1 ready.1.1))

pub ready_left : (P : ℕ → Entry → Type 0) (at now : ℕ → Option Entry) (client key : ℕ) (es left : List (ℕ × ℕ)) → SameElsewhere at now key → AreReady P at es → es ≡ (client, key) ∷ left → AreReady P now left
ready_left P at now client key es left elsewhere ready split =
    let all = subst (AreReady P at) split ready in
    ready_same P at now key elsewhere left all.1.0 all.1.1

module _ (change : ℕ → Entry → Entry → Type 0) where
  -- whatever the slots end as, all were changed where those that are left were
  abbrev pub LeadsToAll : (ℕ → Option Entry) → (ℕ → Option Entry) → List (ℕ × ℕ) → List (ℕ × ℕ) → Type 0
  LeadsToAll at now es left = (end : ℕ → Option Entry) → ((k : ℕ) → IsFree k left → end k ≡ now k) → AreSlotsChanged change now end left → AreSlotsChanged change at end es

  slots_same : (at now end : ℕ → Option Entry) (key : ℕ) → SameElsewhere at now key → (es : List (ℕ × ℕ)) → IsFree key es → AreSlotsChanged change now end es → AreSlotsChanged change at end es
  slots_same at now end key elsewhere [] free changed = tt
  slots_same at now end key elsewhere (e ∷ es) free changed =
      (subst (λ o. IsSlotChanged (change e.0) o (end e.1)) (elsewhere e.1 free.0) changed.0, slots_same at now end key elsewhere es free.1 changed.1)

  slot_changed : (client : ℕ) (x y : Entry) (old new : Option Entry) → old ≡ Some x → new ≡ Some y → change client x y → IsSlotChanged (change client) old new
  slot_changed client x y old new old_is new_is called =
      subst (λ o. IsSlotChanged (change client) o new) (sym old_is) (subst (λ o. IsSlotChanged (change client) (Some x) o) (sym new_is) called)

  one_changed : (at now next : ℕ → Option Entry) (client key : ℕ) (x y : Entry) (all left : List (ℕ × ℕ)) → IsFree key left → SameElsewhere now next key → now key ≡ Some x → next key ≡ Some y → change client x y
      → LeadsToAll at now all ((client, key) ∷ left) → LeadsToAll at next all left
  one_changed at now next client key x y all left free elsewhere is is_next called leads = λ end outside changed.
      leads end (λ k is_free. outside k is_free.1 ∙ elsewhere k (λ same. is_free.0 (sym same)))
      (slot_changed client x y (now key) (end key) is (outside key free ∙ is_next) called, slots_same now next end key elsewhere left free changed)

  -- one entry more was changed
  pub changed_turn : (P : ℕ → Entry → Type 0) (at now next : ℕ → Option Entry) (client key : ℕ) (x y : Entry) (all es left : List (ℕ × ℕ)) → AreReady P now es → es ≡ (client, key) ∷ left
      → SameElsewhere now next key → now key ≡ Some x → next key ≡ Some y → change client x y → LeadsToAll at now all es → LeadsToAll at next all left
  changed_turn P at now next client key x y all es left ready split elsewhere is is_next called leads =
      one_changed at now next client key x y all left (subst (AreReady P now) split ready).1.0 elsewhere is is_next called (subst (LeadsToAll at now all) split leads)

  -- and in the end all were
  pub changed_end : (at now : ℕ → Option Entry) (all left : List (ℕ × ℕ)) → left ≡ [] → LeadsToAll at now all left → AreSlotsChanged change at now all
  changed_end at now all left none leads = subst (LeadsToAll at now all) none leads now (λ k free. refl) tt

  -- in the beginning all are left
  pub changed_start : (at : ℕ → Option Entry) (all left : List (ℕ × ℕ)) → left ≡ all → LeadsToAll at at all left
  changed_start at all left same = subst (λ es. LeadsToAll at at all es) (sym same) (λ end outside changed. changed)

pub ready_some : (at : ℕ → Option Entry) (key : ℕ) (e : Entry) → at key ≡ Some e → IsSome (at key)
ready_some at key e is = subst (λ o. IsSome o) (sym is) refl

-- a key that is no client's isn't that of those who are left
pub free_left : (key i : ℕ) (es : List (ℕ × ℕ)) → IsFree key es → IsFree key (drop i es)
free_left key zero es free = free
free_left key (suc i) [] free = tt
free_left key (suc i) (e ∷ es) free = free_left key i es free.1

pub free_first : (key : ℕ) (e : ℕ × ℕ) (es left : List (ℕ × ℕ)) → es ≡ e ∷ left → IsFree key es → key ≢ e.1
free_first key e es left split free = λ same. (subst (IsFree key) split free).0 (sym same)
