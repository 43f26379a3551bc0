-- Packets whose numbers rise.
use Rattle.std.proofs.Common.{◌≡◌, ℕ, ◌+◌, ◌<◌, ◌≤◌, ◌≢◌, Bool, false, cond, ◌||◌, List, [], ◌∷◌, ◌++◌, refl, le_refl, ap, sym, ◌∙◌, arith, eqb, ltb, leb, ⊎_elim, subst}
use Rattle.std.specs.Prelude.{filter}
use Rattle.std.proofs.lemmas.Bool.{cond_both, cond-true, cond-false, ltb-true, ltb-false, eqb-false, lt-ltb, le-ltb, lt-leb, le-leb, ne_eqb, or_parts, or_from}
use Rattle.rams_model.specs.declared.held.Held.{Held}
use Rattle.rams_model.specs.Packets.{hi, has_number, from_number, with_packet}
use Rattle.rams_model.specs.Laws.{Rises, IsAmong}
use Rattle.rams_model.proofs.ListFacts.{or_swap}

-- what rises from one number on rises from a lower one on
pub lower : (n m : ℕ) (hs : List Held) → n ≤ m → Rises m hs → Rises n hs
lower n m [] le r = tt
lower n m (h ∷ hs) le r = (omega (arith, r.0), r.1)

-- leaving packets out keeps the order
pub some_of : (test : Held → Bool) (n : ℕ) (hs : List Held) → Rises n hs → Rises n (filter test hs)
some_of test n [] r = tt
some_of test n (h ∷ hs) r =
    cond_both (test h) (h ∷ filter test hs) (filter test hs) (Rises n) (λ e. (r.0, some_of test (h.n + 1) hs r.1))
    (λ e. lower n (h.n + 1) (filter test hs) (omega (arith, r.0)) (some_of test (h.n + 1) hs r.1))

pub some_of_end : (test : Held → Bool) (n : ℕ) (hs ks : List Held) → Rises n (hs ++ ks) → Rises n (hs ++ filter test ks)
some_of_end test n [] ks r = some_of test n ks r
some_of_end test n (h ∷ hs) ks r = (r.0, some_of_end test (h.n + 1) hs ks r.1)

-- the packets at the end of others
pub end_of : (n : ℕ) (hs ks : List Held) → Rises n (hs ++ ks) → Rises n ks
end_of n [] ks r = r
end_of n (h ∷ hs) ks r = lower n (h.n + 1) ks (omega (arith, r.0)) (end_of (h.n + 1) hs ks r.1)

-- a number that isn't among some packets isn't the first's, nor among the others
pub not_first : (n : ℕ) (h : Held) (hs : List Held) → has_number n (h ∷ hs) ≡ false → h.n ≢ n
not_first n h hs e = eqb-false h.n n (or_parts (eqb h.n n) (has_number n hs) e).0

pub not_later : (n : ℕ) (h : Held) (hs : List Held) → has_number n (h ∷ hs) ≡ false → has_number n hs ≡ false
not_later n h hs e = (or_parts (eqb h.n n) (has_number n hs) e).1

-- the numbers of one packet more
pub has_with : (m : ℕ) (new : Held) (hs : List Held) → has_number m (with_packet new hs) ≡ (eqb new.n m || has_number m hs)
has_with m new [] = refl
has_with m new (h ∷ hs) =
    cond_both (ltb new.n h.n) (new ∷ h ∷ hs) (h ∷ with_packet new hs) (λ l. has_number m l ≡ (eqb new.n m || has_number m (h ∷ hs))) (λ t. refl)
    (λ f. ap (λ (b : Bool). eqb h.n m || b) (has_with m new hs) ∙ or_swap (eqb h.n m) (eqb new.n m) (has_number m hs))

-- one more packet, whose number is new, is put in its place
pub one_more : (n : ℕ) (new : Held) (hs : List Held) → n ≤ new.n → has_number new.n hs ≡ false → Rises n hs → Rises n (with_packet new hs)
one_more n new [] le e r = (le, tt)
one_more n new (h ∷ hs) le e r =
    cond_both (ltb new.n h.n) (new ∷ h ∷ hs) (h ∷ with_packet new hs) (Rises n) (λ t. (le, (omega (arith, ltb-true new.n h.n t), r.1)))
    (λ f. let ne : h.n ≢ new.n = not_first new.n h hs e in
    let above : h.n + 1 ≤ new.n = omega (arith, ne, ltb-false new.n h.n f) in (r.0, one_more (h.n + 1) new hs above (not_later new.n h hs e) r.1))

pub one_more_after : (n : ℕ) (ks : List Held) (new h : Held) (hs : List Held) → h.n < new.n → has_number new.n hs ≡ false → Rises n (ks ++ h ∷ hs)
    → Rises n (ks ++ h ∷ with_packet new hs)
one_more_after n [] new h hs lt e r = (r.0, one_more (h.n + 1) new hs (omega (arith, lt)) e r.1)
one_more_after n (k ∷ ks) new h hs lt e r = (r.0, one_more_after (k.n + 1) ks new h hs lt e r.1)

-- the interval's end is above each number
pub below_hi : (n : ℕ) (h : Held) (hs : List Held) → Rises n (h ∷ hs) → h.n < hi (h ∷ hs)
unfolding hi
below_hi n h [] r = omega arith
below_hi n h (k ∷ hs) r = let lt = below_hi (h.n + 1) k hs r.1 in omega (arith, r.1.0, lt)

pub none_at_hi : (n m : ℕ) (hs : List Held) → Rises n hs → hi hs ≤ m → has_number m hs ≡ false
unfolding hi
none_at_hi n m [] r le = refl
none_at_hi n m (h ∷ []) r le = or_from (eqb h.n m) false (ne_eqb h.n m (λ e. omega (arith, le, e))) refl
none_at_hi n m (h ∷ k ∷ hs) r le =
    let lt = below_hi n h (k ∷ hs) r in
    or_from (eqb h.n m) (has_number m (k ∷ hs)) (ne_eqb h.n m (λ e. omega (arith, le, e, lt))) (none_at_hi (h.n + 1) m (k ∷ hs) r.1 le)

-- the end of the interval is that of the packets at the end
pub hi_of_end : (ks : List Held) (h : Held) (hs : List Held) → hi (ks ++ h ∷ hs) ≡ hi (h ∷ hs)
unfolding hi
hi_of_end [] h hs = refl
hi_of_end (k ∷ []) h hs = refl
hi_of_end (k ∷ j ∷ ks) h hs = hi_of_end (j ∷ ks) h hs

-- a packet behind some has a number at or above their end
pub hi_before : (n : ℕ) (hs : List Held) (k : Held) (ks : List Held) → Rises n (hs ++ k ∷ ks) → hi hs ≤ k.n
unfolding hi
hi_before n [] k ks r = omega arith
hi_before n (h ∷ []) k ks r = r.1.0
hi_before n (h ∷ j ∷ hs) k ks r = hi_before (h.n + 1) (j ∷ hs) k ks r.1

-- each of them has a number at or above that from which they rise
pub at_least : (n : ℕ) (h : Held) (hs : List Held) → Rises n hs → IsAmong h hs → n ≤ h.n
at_least n h [] r a = absurd a
at_least n h (k ∷ ks) r a =
    ⊎_elim (λ (same : k ≡ h). subst (λ (x : Held). n ≤ x.n) same r.0) (λ later. let le = at_least (k.n + 1) h ks r.1 later in omega (arith, le, r.0)) a

-- the packets from a number on are all where they rise from there, and others than those below it
pub from_all : (n m : ℕ) (hs : List Held) → n ≤ m → Rises m hs → from_number n hs ≡ hs
from_all n m [] le r = refl
from_all n m (h ∷ hs) le r =
    cond-true (leb n h.n) (h ∷ from_number n hs) (from_number n hs) (le-leb n h.n (omega (arith, le, r.0)))
    ∙ ap (λ (l : List Held). h ∷ l) (from_all n (h.n + 1) hs (omega (arith, le, r.0)) r.1)

pub not_from : (n : ℕ) (h : Held) (hs : List Held) → h.n < n → from_number n (h ∷ hs) ≡ from_number n hs
not_from n h hs below = cond-false (leb n h.n) (h ∷ from_number n hs) (from_number n hs) (lt-leb n h.n below)

-- a packet above all others is put at their end
pub one_at_end : (n : ℕ) (hs : List Held) (new : Held) → n ≤ new.n → hi hs ≤ new.n → Rises n hs → Rises n (hs ++ new ∷ [])
unfolding hi
one_at_end n [] new le above r = (le, tt)
one_at_end n (h ∷ []) new le above r = (r.0, (omega (arith, above), tt))
one_at_end n (h ∷ k ∷ hs) new le above r =
    let lt = below_hi n h (k ∷ hs) r in (r.0, one_at_end (h.n + 1) (k ∷ hs) new (omega (arith, lt, above)) above r.1)

-- one more packet moves the end of the interval no further down
pub hi_grows : (new h : Held) (hs : List Held) → h.n ≤ new.n → hi (h ∷ hs) ≤ hi (h ∷ with_packet new hs)
unfolding hi
hi_grows new h [] le = omega (arith, le)
hi_grows new h (k ∷ hs) le =
    cond_both (ltb new.n k.n) (new ∷ k ∷ hs) (k ∷ with_packet new hs) (λ l. hi (h ∷ k ∷ hs) ≤ hi (h ∷ l)) (λ t. le_refl (hi (k ∷ hs)))
    (λ f. hi_grows new k hs (ltb-false new.n k.n f))

-- the packets below a number stand in front of those that aren't
abbrev pub below : ℕ → List Held → List Held
below a hs = filter (λ h. ltb h.n a) hs

pub none_below : (a n : ℕ) (hs : List Held) → a ≤ n → Rises n hs → below a hs ≡ []
none_below a n [] le r = refl
none_below a n (h ∷ hs) le r =
    cond_both (ltb h.n a) (h ∷ below a hs) (below a hs) (λ l. l ≡ []) (λ t. absurd (omega (arith, le, r.0, ltb-true h.n a t)))
    (λ f. none_below a (h.n + 1) hs (omega (arith, le, r.0)) r.1)

-- a higher bound gives more at the end
pub higher_bound : (a b n : ℕ) (hs : List Held) → a ≤ b → Rises n hs → (more : List Held) × (below b hs ≡ below a hs ++ more)
higher_bound a b n [] le r = ([], refl)
higher_bound a b n (h ∷ hs) le r =
    cond_both (ltb h.n a) (h ∷ below a hs) (below a hs) (λ l. (more : List Held) × (below b (h ∷ hs) ≡ l ++ more)) (λ t.
    let rest = higher_bound a b (h.n + 1) hs le r.1 in
    let lt : h.n < b = omega (arith, le, ltb-true h.n a t) in
    (rest.0, cond-true (ltb h.n b) (h ∷ below b hs) (below b hs) (lt-ltb h.n b lt) ∙ ap (λ (l : List Held). h ∷ l) rest.1))
    (λ f. (below b (h ∷ hs), ap (λ (l : List Held). l ++ below b (h ∷ hs)) (sym (none_below a (h.n + 1) hs (omega (arith, ltb-false h.n a f)) r.1))))

-- the packets are those below a number, and others after them
pub all_is_more : (a n : ℕ) (hs : List Held) → Rises n hs → (more : List Held) × (hs ≡ below a hs ++ more)
all_is_more a n [] r = ([], refl)
all_is_more a n (h ∷ hs) r =
    cond_both (ltb h.n a) (h ∷ below a hs) (below a hs) (λ l. (more : List Held) × (h ∷ hs ≡ l ++ more))
    (λ t. let rest = all_is_more a (h.n + 1) hs r.1 in (rest.0, ap (λ (l : List Held). h ∷ l) rest.1))
    (λ f. (h ∷ hs, ap (λ (l : List Held). l ++ h ∷ hs) (sym (none_below a (h.n + 1) hs (omega (arith, ltb-false h.n a f)) r.1))))

-- a packet at or above a number isn't below it
pub not_below : (a : ℕ) (new : Held) (hs : List Held) → a ≤ new.n → below a (with_packet new hs) ≡ below a hs
not_below a new [] le = cond-false (ltb new.n a) (new ∷ []) [] (le-ltb new.n a le)
not_below a new (h ∷ hs) le =
    cond_both (ltb new.n h.n) (new ∷ h ∷ hs) (h ∷ with_packet new hs) (λ l. below a l ≡ below a (h ∷ hs))
    (λ t. cond-false (ltb new.n a) (new ∷ below a (h ∷ hs)) (below a (h ∷ hs)) (le-ltb new.n a le))
    (λ f. ap (λ (l : List Held). cond (ltb h.n a) (h ∷ l) l) (not_below a new hs le))
