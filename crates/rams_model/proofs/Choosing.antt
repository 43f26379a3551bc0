-- The chosen access point is the newest that is eligible and old enough.
use Rattle.std.proofs.Common.{◌≡◌, ℕ, ◌+◌, ◌≤◌, Bool, true, false, inl, inr, ⊎_elim, List, [], ◌∷◌, Option, Some, None, refl, sym, subst, arith, leb}
use Rattle.std.specs.Prelude.{filter, Ok, Err}
use Rattle.std.proofs.lemmas.Bool.{cond_both, both_ways, and_parts, and_from, false_from_ne_true}
use Rattle.rams_model.specs.declared.{channel.Channel.Channel, held.Held.Held}
use Rattle.rams_model.specs.Packets.{age, is_eligible, eligible, of_age, newest, is_at_most, not_too_old, chosen_of, chosen}
use Rattle.rams_model.specs.Laws.{Rises, IsAmong, IsNewest, NonePasses, is_old_enough, none, young, old, IsChoice}
use Rattle.rams_model.proofs.Rising.{some_of, at_least}

-- what is among the packets that pass is among all of them, and passes; and the other way round
among_passed : (test : Held → Bool) (h : Held) (hs : List Held) → IsAmong h (filter test hs) → IsAmong h hs × (test h ≡ true)
among_passed test h [] a = absurd a
among_passed test h (k ∷ ks) a =
    cond_both (test k) (k ∷ filter test ks) (filter test ks) (λ l. IsAmong h l → IsAmong h (k ∷ ks) × (test h ≡ true))
    (λ t b. ⊎_elim (λ same. (inl same, subst (λ (x : Held). test x ≡ true) same t)) (λ later. let r = among_passed test h ks later in (inr r.0, r.1)) b)
    (λ f b. let r = among_passed test h ks b in (inr r.0, r.1)) a

passed_among : (test : Held → Bool) (h : Held) (hs : List Held) → IsAmong h hs → test h ≡ true → IsAmong h (filter test hs)
passed_among test h [] a t = a
passed_among test h (k ∷ ks) a t =
    cond_both (test k) (k ∷ filter test ks) (filter test ks) (IsAmong h)
    (λ e. ⊎_elim (λ same. inl same) (λ later. inr (passed_among test h ks later t)) a)
    (λ f. ⊎_elim (λ same. absurd (both_ways (test h) (subst (λ (x : Held). test x ≡ false) same f) t)) (λ later. passed_among test h ks later t) a)

-- the last of packets in order is one of them, and none has a greater number
newest_is : (n : ℕ) (h : Held) (hs : List Held) → Rises n hs → newest hs ≡ Some h → IsAmong h hs × ((k : Held) → IsAmong k hs → k.n ≤ h.n)
newest_is n h [] r e = absurd cc
newest_is n h (k ∷ []) r e =
    let same : k ≡ h = cc in
    (inl same, λ j a. ⊎_elim (λ (i : k ≡ j). subst (λ (x : Held). j.n ≤ x.n) same (subst (λ (x : Held). x.n ≤ k.n) i (omega arith))) (λ no_one. absurd no_one) a)
newest_is n h (k ∷ j ∷ ks) r e =
    let rest = newest_is (k.n + 1) h (j ∷ ks) r.1 e in
    let above = at_least (k.n + 1) h (j ∷ ks) r.1 rest.0 in
    (inr rest.0, λ i a. ⊎_elim (λ (same : k ≡ i). subst (λ (x : Held). x.n ≤ h.n) same (omega (arith, above))) (λ later. rest.1 i later) a)

none_newest : (hs : List Held) → newest hs ≡ None → hs ≡ []
none_newest [] e = refl
none_newest (k ∷ []) e = absurd cc
none_newest (k ∷ j ∷ ks) e = let rest : j ∷ ks ≡ [] = none_newest (j ∷ ks) e in absurd cc

-- the packets of which none passes
none_passed : (test : Held → Bool) (hs : List Held) → filter test hs ≡ [] → NonePasses hs test
none_passed test hs e k a = false_from_ne_true (test k) (λ t. subst (IsAmong k) e (passed_among test k hs a t))

-- with the eligible access points looked up
settled : (c : Channel) (held : List Held) (least : ℕ) (most : Option ℕ) (hs : List Held) → Rises 0 held → eligible c held ≡ hs → IsChoice c held least most (chosen_of held least most hs)
settled c held least most [] r e = none (none_passed (is_eligible c held) held e)
settled c held least most (h ∷ hs) r e = at (newest (of_age held least (h ∷ hs))) refl
  where
    old_test : Held → Bool
    old_test k = leb least (age held k)

    both : (k : Held) → IsAmong k (of_age held least (h ∷ hs)) → IsAmong k held × (is_old_enough c held least k ≡ true)
    both k a =
        let outer = among_passed (λ x. leb least (age held x)) k (h ∷ hs) a in
        let inner = among_passed (is_eligible c held) k held (subst (IsAmong k) (sym e) outer.0) in
        (inner.0, and_from (is_eligible c held k) (leb least (age held k)) inner.1 outer.1)

    back : (k : Held) → IsAmong k held → is_old_enough c held least k ≡ true → IsAmong k (of_age held least (h ∷ hs))
    back k a t =
        let tests = and_parts (is_eligible c held k) (leb least (age held k)) t in
        passed_among (λ x. leb least (age held x)) k (h ∷ hs) (subst (IsAmong k) e (passed_among (is_eligible c held) k held a tests.0)) tests.1

    order : Rises 0 (of_age held least (h ∷ hs))
    order = some_of (λ x. leb least (age held x)) 0 (h ∷ hs) (subst (Rises 0) e (some_of (is_eligible c held) 0 held r))

    at : (o : Option Held) → newest (of_age held least (h ∷ hs)) ≡ o → IsChoice c held least most (not_too_old held most o)
    at None is =
        let no_one = none_newest (of_age held least (h ∷ hs)) is in
        let first = among_passed (is_eligible c held) h held (subst (IsAmong h) (sym e) (inl refl)) in
        young h first.0 first.1 (λ k a. false_from_ne_true (is_old_enough c held least k) (λ t. subst (IsAmong k) no_one (back k a t)))
    at (Some k) is =
        let n = newest_is 0 k (of_age held least (h ∷ hs)) order is in
        let own = both k n.0 in
        let newest_one : IsNewest held (is_old_enough c held least) k = record { among = own.0; passes = own.1; newest = λ j a t. n.1 j (back j a t) } in
        cond_both (is_at_most (age held k) most) (Ok k) (Err 402) (IsChoice c held least most) (λ t. (newest_one, t)) (λ f. old k newest_one f)

pub newest_chosen : (c : Channel) (held : List Held) (least : ℕ) (most : Option ℕ) → Rises 0 held → IsChoice c held least most (chosen c held least most)
unfolding chosen
newest_chosen c held least most r = settled c held least most (eligible c held) r refl
