-- What the history says of a client since some item stood in it.
use Rattle.std.proofs.Common.{◌≡◌, ℕ, Bool, true, false, not, ◌&&◌, ◌||◌, ◌↔◌, ⊎_elim, List, [], ◌∷◌, ◌++◌, refl, ap, sym, ◌∙◌, subst, ap₂, eqb, ltb}
use Rattle.std.specs.Prelude.{filter}
use Rattle.std.specs.List.{list_any}
use Rattle.std.proofs.lemmas.Bool.{cond_both, or_cases, or_left, or_right, and_parts, and_from, not-true, not-false, not_from_false, cases_Bool, eqb-true, true≢false}
use Rattle.rams_model.specs.declared.note.Note.TheVariants as note
use Rattle.rams_model.specs.Service.{Item, began, told, noted, History, known, opened, is_among, placed, with_client, without, Wanted, wanted, is_wanted, pending, is_pending}
use Rattle.rams_model.specs.Laws.{NoneIs, StandsWithout, makes_known, ends_known, is_accept_of, is_end_of, is_queued, ends_pending}
use Rattle.rams_model.proofs.ListFacts.{or_swap, eqb_sym}

-- the same by recursion: the newest item makes it so, or doesn't end it and it was so
unfoldable pub stands : (Item → Bool) → (Item → Bool) → History → Bool
stands makes ends [] = false
stands makes ends (i ∷ history) = makes i || (not (ends i) && stands makes ends history)

pub stands_from : (makes ends : Item → Bool) (history : History) → stands makes ends history ≡ true → StandsWithout makes ends history
unfolding stands
stands_from makes ends [] e = absurd (true≢false (sym e))
stands_from makes ends (i ∷ history) e =
    ⊎_elim (λ m. record { later = []; item = i; before = history; splits = refl; made = m; stays = tt })
    (λ more.
    let tests = and_parts (not (ends i)) (stands makes ends history) more in
    let rest = stands_from makes ends history tests.1 in
    record {
      later = i ∷ rest.later;
      item = rest.item;
      before = rest.before;
      splits = ap (λ (l : History). i ∷ l) rest.splits;
      made = rest.made;
      stays = (not-true (ends i) tests.0, rest.stays);
    })
    (or_cases (makes i) (not (ends i) && stands makes ends history) e)

stands_after : (makes ends : Item → Bool) (later : History) (i : Item) (before : History) → makes i ≡ true → NoneIs ends later → stands makes ends (later ++ i ∷ before) ≡ true
unfolding stands
stands_after makes ends [] i before m stays = or_left (makes i) (not (ends i) && stands makes ends before) m
stands_after makes ends (j ∷ later) i before m stays =
    or_right (makes j) (not (ends j) && stands makes ends (later ++ i ∷ before))
    (and_from (not (ends j)) (stands makes ends (later ++ i ∷ before)) (not_from_false (ends j) stays.0) (stands_after makes ends later i before m stays.1))

pub stands_to : (makes ends : Item → Bool) (history : History) → StandsWithout makes ends history → stands makes ends history ≡ true
stands_to makes ends history w =
    subst (λ (h : History). stands makes ends h ≡ true) (sym w.splits) (stands_after makes ends w.later w.item w.before w.made w.stays)

-- a test that goes step by step as items make and end it
pub stands_both : (makes ends : Item → Bool) (test : History → Bool) (history : History) → ((h : History) → test h ≡ stands makes ends h)
    → (test history ≡ true) ↔ StandsWithout makes ends history
stands_both makes ends test history same =
    (λ e. stands_from makes ends history (sym (same history) ∙ e), λ w. same history ∙ stands_to makes ends history w)

-- none of a kind in a history, and so in an older one
pub none_older : (kind : Item → Bool) (later history : History) → NoneIs kind (later ++ history) → NoneIs kind history
none_older kind [] history none = none
none_older kind (i ∷ later) history none = none_older kind later history none.1

and_false : (a : Bool) → (a && false) ≡ false
and_false true = refl
and_false false = refl

stays_in : (b px r whole : Bool) → (px ≡ true → b ≡ false) → r ≡ (not b && whole) → (px || r) ≡ (not b && (px || whole))
stays_in true true r whole on e = absurd (true≢false (on refl))
stays_in false true r whole on e = refl
stays_in true false r whole on e = e
stays_in false false r whole on e = e

goes_out : (b px r whole : Bool) → (px ≡ true → b ≡ true) → r ≡ (not b && whole) → r ≡ (not b && (px || whole))
goes_out true true r whole on e = e
goes_out false true r whole on e = absurd (true≢false (sym (on refl)))
goes_out true false r whole on e = e
goes_out false false r whole on e = e

-- what is left of some things without those that pass q, where p passes only things on which q is b
any_without : {A : Type 0} (p q : A → Bool) (b : Bool) → ((x : A) → p x ≡ true → q x ≡ b) → (xs : List A)
    → list_any p (filter (λ x. not (q x)) xs) ≡ (not b && list_any p xs)
any_without p q b on [] = sym (and_false (not b))
any_without {A} p q b on (x ∷ xs) =
    let rest = any_without p q b on xs in
    cond_both (not (q x)) (x ∷ filter (λ y. not (q y)) xs) (filter (λ y. not (q y)) xs) (λ l. list_any p l ≡ (not b && (p x || list_any p xs)))
    (λ t. stays_in b (p x) (list_any p (filter (λ y. not (q y)) xs)) (list_any p xs) (λ e. sym (on x e) ∙ not-true (q x) t) rest)
    (λ f. goes_out b (p x) (list_any p (filter (λ y. not (q y)) xs)) (list_any p xs) (λ e. sym (on x e) ∙ not-false (q x) f) rest)

any_last : {A : Type 0} (p : A → Bool) (xs : List A) (x : A) → list_any p (xs ++ x ∷ []) ≡ (p x || list_any p xs)
any_last p [] x = refl
any_last p (y ∷ ys) x = ap (λ (b : Bool). p y || b) (any_last p ys x) ∙ or_swap (p y) (p x) (list_any p ys)

-- a client among others with one more, and without one
among_placed : (j k : ℕ) (ks : List ℕ) → is_among j (placed k ks) ≡ (eqb k j || is_among j ks)
among_placed j k [] = refl
among_placed j k (i ∷ is) =
    cond_both (ltb k i) (k ∷ i ∷ is) (i ∷ placed k is) (λ l. is_among j l ≡ (eqb k j || is_among j (i ∷ is))) (λ t. refl)
    (λ f. ap (λ (b : Bool). eqb i j || b) (among_placed j k is) ∙ or_swap (eqb i j) (eqb k j) (is_among j is))

among_with : (j k : ℕ) (ks : List ℕ) → is_among j (with_client k ks) ≡ (eqb k j || is_among j ks)
among_with j k ks =
    cond_both (is_among k ks) ks (placed k ks) (λ l. is_among j l ≡ (eqb k j || is_among j ks))
    (λ t. ⊎_elim (λ e. subst (λ (m : ℕ). is_among m ks ≡ true) (eqb-true k j e) t ∙ sym (or_left (eqb k j) (is_among j ks) e))
    (λ f. ap (λ (b : Bool). b || is_among j ks) (sym f)) (cases_Bool (eqb k j)))
    (λ f. among_placed j k ks)

among_without : (j k : ℕ) (ks : List ℕ) → is_among j (without k ks) ≡ (not (eqb k j) && is_among j ks)
among_without j k ks =
    any_without (λ (i : ℕ). eqb i j) (λ i. eqb i k) (eqb k j) (λ i t. subst (λ (m : ℕ). eqb i k ≡ eqb k m) (eqb-true i j t) (eqb_sym i k)) ks

-- known, open and pending go step by step
pub known_step : (k : ℕ) (i : Item) (history : History) → is_among k (known (i ∷ history)) ≡ (makes_known k i || (not (ends_known k i) && is_among k (known history)))
unfolding known
known_step k (began heard) history = refl
known_step k (told client message) history = refl
known_step k (noted (note.Accept client first rate join) packet) history = among_with k client (known history)
known_step k (noted (note.Queued client n) packet) history = among_with k client (known history)
known_step k (noted (note.Bye client) packet) history = among_without k client (known history)
known_step k (noted (note.Forgot client) packet) history = among_without k client (known history)
known_step k (noted note packet) history = refl

pub known_stands : (k : ℕ) (history : History) → is_among k (known history) ≡ stands (makes_known k) (ends_known k) history
unfolding stands known
known_stands k [] = refl
known_stands k (i ∷ history) = known_step k i history ∙ ap (λ (b : Bool). makes_known k i || (not (ends_known k i) && b)) (known_stands k history)

opened_step : (k : ℕ) (i : Item) (history : History) → is_among k (opened (i ∷ history)) ≡ (is_accept_of k i || (not (is_end_of k i) && is_among k (opened history)))
unfolding opened
opened_step k (began heard) history = refl
opened_step k (told client message) history = refl
opened_step k (noted (note.Accept client first rate join) packet) history = among_with k client (opened history)
opened_step k (noted (note.End client cause) packet) history = among_without k client (opened history)
opened_step k (noted note packet) history = refl

pub opened_stands : (k : ℕ) (history : History) → is_among k (opened history) ≡ stands (is_accept_of k) (is_end_of k) history
unfolding stands opened
opened_stands k [] = refl
opened_stands k (i ∷ history) = opened_step k i history ∙ ap (λ (b : Bool). is_accept_of k i || (not (is_end_of k i) && b)) (opened_stands k history)

-- a wanted repair that is this one
same_repair : (k n c m : ℕ) (w : Wanted) → is_wanted k n w ≡ true → is_wanted c m w ≡ (eqb c k && eqb m n)
same_repair k n c m w t =
    let tests = and_parts (eqb w.client k) (eqb w.n n) t in
    ap₂ (λ (a : ℕ) (b : ℕ). eqb a c && eqb b m) (eqb-true w.client k tests.0) (eqb-true w.n n tests.1) ∙ ap₂ (λ (a : Bool) (b : Bool). a && b) (eqb_sym k c) (eqb_sym n m)

same_client : (k n c : ℕ) (w : Wanted) → is_wanted k n w ≡ true → eqb w.client c ≡ eqb c k
same_client k n c w t =
    let tests = and_parts (eqb w.client k) (eqb w.n n) t in ap (λ (a : ℕ). eqb a c) (eqb-true w.client k tests.0) ∙ eqb_sym k c

pending_step : (k n : ℕ) (i : Item) (history : History) → is_pending k n (i ∷ history) ≡ (is_queued k n i || (not (ends_pending k n i) && is_pending k n history))
unfolding pending
pending_step k n (began heard) history = refl
pending_step k n (told client message) history = refl
pending_step k n (noted (note.Queued c m) packet) history = any_last (is_wanted k n) (pending history) (wanted c m)
pending_step k n (noted (note.Repair c m sequence) packet) history = any_without (is_wanted k n) (is_wanted c m) (eqb c k && eqb m n) (same_repair k n c m) (pending history)
pending_step k n (noted (note.Gone c m) packet) history = any_without (is_wanted k n) (is_wanted c m) (eqb c k && eqb m n) (same_repair k n c m) (pending history)
pending_step k n (noted (note.Bye c) packet) history = any_without (is_wanted k n) (λ w. eqb w.client c) (eqb c k) (same_client k n c) (pending history)
pending_step k n (noted note packet) history = refl

pub pending_stands : (k n : ℕ) (history : History) → is_pending k n history ≡ stands (is_queued k n) (ends_pending k n) history
unfolding stands pending
pending_stands k n [] = refl
pending_stands k n (i ∷ history) = pending_step k n i history ∙ ap (λ (b : Bool). is_queued k n i || (not (ends_pending k n i) && b)) (pending_stands k n history)
