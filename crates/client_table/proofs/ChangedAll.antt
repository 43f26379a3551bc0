-- What a change of all entries makes of what the table shows.
use Rattle.std.proofs.Common.{All, ◌≡◌, ℕ, true, false, List, [], ◌∷◌, Option, Some, None, IsSome, IsSomeAnd, refl, ap, sym, ◌∙◌, subst, arith}
use Rattle.std.specs.List.{AllByRecursion}
use Rattle.std.specs.List.Sorted.{IsStrictlySortedBy}
use Rattle.std.specs.Map.{keys_of, lookup}
use Rattle.std.specs.Option.{option_and_then}
use Rattle.std.specs.BTreeMap.{is_at}
use Rattle.std.specs.Ordering.{nat_cmp}
use Rattle.std.specs.declared.cmp.Ordering.TheVariants.{Less}
use Rattle.std.proofs.lemmas.Bool.{cond_both, cond-true, cond-false}
use Rattle.std.proofs.lemmas.Bool.Decides.{nat_tests}
use Rattle.std.proofs.lemmas.List.Elements.{All-nil, All-cons, All-weaker}
use Rattle.std.proofs.lemmas.Map.Keys.{sorted_head, sorted_tail}
use Rattle.client_table.specs.declared.entry.Entry.{Entry}
use Rattle.client_table.specs.{entry_of, AreAll, IsChanged, AreChanged, seen, AreJoined, AreReady, IsSlotChanged, AreSlotsChanged}
use Rattle.client_table.specs.Clients.{Clients}
use Rattle.client_table.proofs.Shown.{shown_entry, shown_clients, shown_rising}

pub same_client : (client k : ℕ) → is_at (nat_cmp client) k ≡ true → k ≡ client
same_client client k h = grind (arith, nat_tests)

pub same_key : (k : ℕ) → is_at (nat_cmp k) k ≡ true
same_key k = grind (arith, nat_tests)

not_below : (k client : ℕ) → nat_cmp k client ≡ Less → is_at (nat_cmp client) k ≡ false
not_below k client h = grind (arith, nat_tests)

-- one that is found among those above a client is above it
pub found_above : {X : Type 0} (k client : ℕ) (x : X) (es : List (ℕ × X)) → AllByRecursion (λ j. nat_cmp k j ≡ Less) (keys_of es) → lookup (is_at (nat_cmp client)) es ≡ Some x → nat_cmp k client ≡ Less
found_above k client x [] above found = cc
found_above k client x (e ∷ es) above found =
    cond_both (is_at (nat_cmp client) e.0) (Some e.1) (lookup (is_at (nat_cmp client)) es) (λ o. o ≡ Some x → nat_cmp k client ≡ Less)
    (λ t is. subst (λ (j : ℕ). nat_cmp k j ≡ Less) (same_client client e.0 t) above.0)
    (λ f is. found_above k client x es above.1 is)
    found

-- so it is found with that one in front too
found_behind : {X : Type 0} (client : ℕ) (x : X) (e : ℕ × X) (es : List (ℕ × X)) → AllByRecursion (λ j. nat_cmp e.0 j ≡ Less) (keys_of es) → lookup (is_at (nat_cmp client)) es ≡ Some x
    → lookup (is_at (nat_cmp client)) (e ∷ es) ≡ Some x
found_behind client x e es above is =
    cond-false (is_at (nat_cmp client) e.0) (Some e.1) (lookup (is_at (nat_cmp client)) es) (not_below e.0 client (found_above e.0 client x es above is)) ∙ is

found_here : {X : Type 0} (e : ℕ × X) (es : List (ℕ × X)) → lookup (is_at (nat_cmp e.0)) (e ∷ es) ≡ Some e.1
found_here e es = cond-true (is_at (nat_cmp e.0) e.0) (Some e.1) (lookup (is_at (nat_cmp e.0)) es) (same_key e.0)

-- where the clients rise, each is found
pub each_found : {X : Type 0} (es : List (ℕ × X)) → IsStrictlySortedBy nat_cmp (keys_of es) → All (λ e. lookup (is_at (nat_cmp e.0)) es ≡ Some e.1) es
each_found [] rise = All-nil _
each_found {X} (e ∷ es) rise =
    let later = each_found es (sorted_tail nat_cmp e.0 (keys_of es) rise) in
    All-cons (λ d. lookup (is_at (nat_cmp d.0)) (e ∷ es) ≡ Some d.1) e es (found_here e es)
    (All-weaker (λ d. lookup (is_at (nat_cmp d.0)) es ≡ Some d.1) (λ d. lookup (is_at (nat_cmp d.0)) (e ∷ es) ≡ Some d.1)
    (λ d h. found_behind d.0 d.1 e es (sorted_head nat_cmp e.0 (keys_of es) rise) h) es later)

-- where no two clients have one key, and each known client with its entry is as asked
module _ (at : ℕ → Option Entry) where
  first_ready : (P : ℕ → Entry → Type 0) (client : ℕ) (o : Option Entry) → IsSome o → ((d : Entry) → o ≡ Some d → P client d) → IsSomeAnd o (P client)
  first_ready P client None some all = cc
  first_ready P client (Some x) some all = all x refl

  entry_behind : (client : ℕ) (d : Entry) (o : Option ℕ) (e : ℕ × ℕ) (es : List (ℕ × ℕ)) → lookup (is_at (nat_cmp client)) es ≡ o → AllByRecursion (λ j. nat_cmp e.0 j ≡ Less) (keys_of es)
      → option_and_then at o ≡ Some d → option_and_then at (lookup (is_at (nat_cmp client)) (e ∷ es)) ≡ Some d
  entry_behind client d None e es is above found = cc
  entry_behind client d (Some key) e es is above found = ap (option_and_then at) (found_behind client key e es above is) ∙ found

  pub all_ready : (P : ℕ → Entry → Type 0) (es : List (ℕ × ℕ)) → AreJoined at es → IsStrictlySortedBy nat_cmp (keys_of es)
      → ((client : ℕ) (d : Entry) → option_and_then at (lookup (is_at (nat_cmp client)) es) ≡ Some d → P client d) → AreReady P at es
  all_ready P [] is rise all = tt
  all_ready P (e ∷ es) is rise all = (
    first_ready P e.0 (at e.1) is.0 (λ d h. all e.0 d (ap (option_and_then at) (found_here e es) ∙ h)),
    (
      is.1.0,
      all_ready P es is.1.1 (sorted_tail nat_cmp e.0 (keys_of es) rise)
          (λ client d h. all client d (entry_behind client d (lookup (is_at (nat_cmp client)) es) e es refl (sorted_head nat_cmp e.0 (keys_of es) rise) h)),
    ),
  )

module _ (change : ℕ → Entry → Entry → Type 0) (at now : ℕ → Option Entry) where
  new_some : (client : ℕ) (old new : Option Entry) → IsSlotChanged (change client) old new → IsSome new
  new_some client None new h = absurd h
  new_some client (Some x) None h = absurd h
  new_some client (Some x) (Some y) h = refl

  pub still_joined : (es : List (ℕ × ℕ)) → AreJoined at es → AreSlotsChanged change at now es → AreJoined now es
  still_joined [] is changed = tt
  still_joined (e ∷ es) is changed = (new_some e.0 (at e.1) (now e.1) changed.0, (is.1.0, still_joined es is.1.1 changed.1))

  slot_is_changed : (client : ℕ) (old new : Option Entry) → IsSlotChanged (change client) old new → IsChanged (change client) old new
  slot_is_changed client None new h = absurd h
  slot_is_changed client (Some x) None h = absurd h
  slot_is_changed client (Some x) (Some y) h = (y, refl, h)

  pub each_changed : (client : ℕ) (es : List (ℕ × ℕ)) → AreSlotsChanged change at now es
      → IsChanged (change client) (option_and_then at (lookup (is_at (nat_cmp client)) es)) (option_and_then now (lookup (is_at (nat_cmp client)) es))
  each_changed client [] changed = refl
  each_changed client (e ∷ es) changed =
      cond_both (is_at (nat_cmp client) e.0) (Some e.1) (lookup (is_at (nat_cmp client)) es) (λ o. IsChanged (change client) (option_and_then at o) (option_and_then now o))
      (λ t. slot_is_changed client (at e.1) (now e.1) (subst (λ (k : ℕ). IsSlotChanged (change k) (at e.1) (now e.1)) (same_client client e.0 t) changed.0))
      (λ f. each_changed client es changed.1)

-- what the table shows
module _ (most : ℕ) (at : ℕ → Option Entry) (es : List (ℕ × ℕ)) (t : Clients) (shows : seen most at es ≡ t) (joins : AreJoined at es) where
  pub shown_found : IsStrictlySortedBy nat_cmp (keys_of es) → All (λ e. entry_of t e.0 ≡ Some e.1) t.known
  shown_found rise = each_found t.known (shown_rising most at es t shows joins rise)

  pub shown_ready : (P : ℕ → Entry → Type 0) → IsStrictlySortedBy nat_cmp (keys_of es) → AreAll P t → AreReady P at es
  shown_ready P rise all = all_ready at P es joins rise (λ client d h. all client d (sym (shown_entry most at es t shows joins client) ∙ h))

  pub shown_changed : (change : ℕ → Entry → Entry → Type 0) (now : ℕ → Option Entry) → AreSlotsChanged change at now es → AreChanged change t (seen most now es)
  shown_changed change now changed =
      let after = still_joined change at now es joins changed in
      record {
        most = ap (λ (u : Clients). u.most) shows;
        clients = sym (shown_clients most now es (seen most now es) refl after) ∙ shown_clients most at es t shows joins;
        entries = λ client.
            subst (λ o. IsChanged (change client) o (entry_of (seen most now es) client)) (shown_entry most at es t shows joins client)
            (subst (λ o. IsChanged (change client) (option_and_then at (lookup (is_at (nat_cmp client)) es)) o) (shown_entry most now es (seen most now es) refl after client)
            (each_changed change at now client es changed));
      }
