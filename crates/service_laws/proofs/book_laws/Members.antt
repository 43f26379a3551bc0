-- What stands in lists, of packets above all.
use Rattle.std.proofs.Common.{◌≡◌, ℕ, ◌+◌, ◌≤◌, Bool, ◌⊎◌, inl, inr, ⊎_elim, List, [], ◌∷◌, refl, subst, arith, ltb}
use Rattle.std.specs.Prelude.{filter, Contains}
use Rattle.std.proofs.lemmas.Bool.{cond_both}
use Rattle.std.proofs.lemmas.List.Elements.{All-filter, All-contains, All-contains_itself, Contains-append_left, Contains-append_right, Contains-append_cases, Contains-push_cases}
use Rattle.rams_model.specs.declared.Held.{Held}
use Rattle.rams_model.specs.Packets.{with_packet}
use Rattle.rams_model.specs.Laws.{Rises}

pub is_first : {A : Type 0} (x : A) (xs : List A) → Contains (x ∷ xs) x
is_first x xs = (0, omega arith, refl)

pub of_one : {A : Type 0} (new x : A) → Contains (new ∷ []) x → new ≡ x
of_one {A} new x c = ⊎_elim (λ (none : Contains [] x). absurd (omega arith)) (λ e. e) (Contains-push_cases [] new x c)

pub first_or_later : {A : Type 0} (x : A) (xs : List A) (y : A) → Contains (x ∷ xs) y → (x ≡ y) ⊎ Contains xs y
first_or_later x xs y c = ⊎_elim (λ f. inl (of_one x y f)) (λ l. inr l) (Contains-append_cases (x ∷ []) xs y c)

pub of_filter : {A : Type 0} (test : A → Bool) (xs : List A) (x : A) → Contains (filter test xs) x → Contains xs x
of_filter test xs x c = All-contains (Contains xs) (filter test xs) x (All-filter test (Contains xs) xs (All-contains_itself xs)) c

pub of_with : (new : Held) (hs : List Held) (h : Held) → Contains (with_packet new hs) h → Contains hs h ⊎ (new ≡ h)
of_with new [] h c = inr (of_one new h c)
of_with new (k ∷ ks) h c =
    cond_both (ltb new.n k.n) (new ∷ k ∷ ks) (k ∷ with_packet new ks) (λ l. Contains l h → Contains (k ∷ ks) h ⊎ (new ≡ h))
    (λ t d. ⊎_elim (λ e. inr (of_one new h e)) (λ r. inl r) (Contains-append_cases (new ∷ []) (k ∷ ks) h d))
    (λ f d. ⊎_elim (λ e. inl (Contains-append_left (k ∷ []) ks h e))
    (λ r. ⊎_elim (λ e. inl (Contains-append_right (k ∷ []) ks h e)) (λ e. inr e) (of_with new ks h r)) (Contains-append_cases (k ∷ []) (with_packet new ks) h d)) c

-- those that rise from a number on are at or above it
pub above : (n : ℕ) (hs : List Held) (h : Held) → Rises n hs → Contains hs h → n ≤ h.n
above n [] h r c = absurd (omega arith)
above n (x ∷ xs) h r c =
    ⊎_elim (λ (e : x ≡ h). subst (λ (y : Held). n ≤ y.n) e r.0) (λ l. let le = above (x.n + 1) xs h r.1 l in omega (arith, r.0, le)) (first_or_later x xs h c)
