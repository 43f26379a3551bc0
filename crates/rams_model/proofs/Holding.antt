-- What is held are packets whose numbers follow one another.
use Rattle.std.proofs.Common.{◌≡◌, ℕ, zero, suc, ◌+◌, ◌-◌, ◌≤◌, true, false, List, [], ◌∷◌, ◌++◌, length, drop, refl, ap, sym, ◌∙◌, subst, arith, eqb, leb}
use Rattle.std.proofs.lemmas.Bool.{both_ways, cond_both, and_parts, eqb-true, leb-true, leb-false}
use Rattle.std.proofs.lemmas.List.{length-drop}
use Rattle.rams_model.specs.declared.held.Held.{Held}
use Rattle.rams_model.specs.Packets.{lo, hi, from_number, is_consecutive, consecutive_end, source, Follows}
use Rattle.rams_model.specs.Packets.Source as sources
use Rattle.rams_model.specs.Service.{Settings, History, stream, hold}
use Rattle.rams_model.specs.Laws.{Rises, IsLongestEnd, AreAtLeast}
use Rattle.rams_model.proofs.Rising.{from_all}

pub follows_from : (hs : List Held) → is_consecutive hs ≡ true → Follows (lo hs) hs
follows_from [] e = tt
follows_from (h ∷ []) e = (refl, tt)
follows_from (h ∷ k ∷ hs) e =
    let tests = and_parts (eqb k.n (h.n + 1)) (is_consecutive (k ∷ hs)) e in
    (refl, subst (λ (n : ℕ). Follows n (k ∷ hs)) (eqb-true k.n (h.n + 1) tests.0) (follows_from (k ∷ hs) tests.1))

end_is_consecutive : (hs : List Held) → is_consecutive (consecutive_end hs) ≡ true
unfolding consecutive_end
end_is_consecutive [] = refl
end_is_consecutive (h ∷ hs) = cond_both (is_consecutive (h ∷ hs)) (h ∷ hs) (consecutive_end hs) (λ l. is_consecutive l ≡ true) (λ t. t) (λ f. end_is_consecutive hs)

-- what follows goes on following from its own first
pub own_first : (n : ℕ) (hs : List Held) → Follows n hs → Follows (lo hs) hs
own_first n [] f = tt
own_first n (h ∷ hs) f = (refl, subst (λ (m : ℕ). Follows (m + 1) hs) (sym f.0) f.1)

pub later_ones : (n k : ℕ) (hs : List Held) → Follows n hs → Follows (lo (drop k hs)) (drop k hs)
later_ones n zero hs f = own_first n hs f
later_ones n (suc k) [] f = tt
later_ones n (suc k) (h ∷ hs) f = later_ones (n + 1) k hs f.1

pub held_follow : (s : Settings) (history : History) → Follows (lo (hold s history)) (hold s history)
unfolding sources.hold
held_follow s history =
    let all = consecutive_end (source s.channel.window (stream s history)) in
    later_ones (lo all) (length all - s.channel.ring) all (follows_from all (end_is_consecutive (source s.channel.window (stream s history))))

-- there are no more than the ring has room for
pub few_held : (s : Settings) (history : History) → length (hold s history) ≤ s.channel.ring
unfolding sources.hold
few_held s history =
    let all = consecutive_end (source s.channel.window (stream s history)) in
    omega (arith, length-drop (length all - s.channel.ring) all)

-- what follows rises
pub rises_from : (n : ℕ) (hs : List Held) → Follows n hs → Rises n hs
rises_from n [] f = tt
rises_from n (h ∷ hs) f = (omega (arith, f.0), subst (λ (m : ℕ). Rises (m + 1) hs) (sym f.0) (rises_from (n + 1) hs f.1))

-- all packets stand from a number on that is at most the first's
pub all_from : (n m : ℕ) (hs : List Held) → Follows m hs → n ≤ m → from_number n hs ≡ hs
all_from n m hs f le = from_all n m hs le (rises_from m hs f)

abbrev StandFrom : ℕ → ℕ → List Held → List Held → Type 0
StandFrom n m hs from = Follows n from × (n + length from ≡ m + length hs)

stand_from : (n m : ℕ) (hs : List Held) → Follows m hs → m ≤ n → n ≤ m + length hs → StandFrom n m hs (from_number n hs)
stand_from n m [] f le within = (tt, omega (arith, le, within))
stand_from n m (h ∷ hs) f le within =
    cond_both (leb n h.n) (h ∷ from_number n hs) (from_number n hs) (StandFrom n m (h ∷ hs))
    (λ t.
    let same : n ≡ m = omega (arith, le, f.0, leb-true n h.n t) in
    let all = all_from n (m + 1) hs f.1 (omega (arith, same)) in
    subst (λ (l : List Held). StandFrom n m (h ∷ hs) (h ∷ l)) (sym all)
    ((f.0 ∙ sym same, subst (λ (k : ℕ). Follows (k + 1) hs) (sym same) f.1), omega (arith, same)))
    (λ g. let rest = stand_from n (m + 1) hs f.1 (omega (arith, f.0, leb-false n h.n g)) (omega (arith, within)) in (rest.0, omega (arith, rest.1)))

-- the end of the interval
pub hi_is : (m : ℕ) (h : Held) (hs : List Held) → Follows m (h ∷ hs) → hi (h ∷ hs) ≡ m + length (h ∷ hs)
unfolding hi
hi_is m h [] f = omega (arith, f.0)
hi_is m h (k ∷ hs) f = let rest = hi_is (m + 1) k hs f.1 in omega (arith, rest)

pub ends_at : (hs : List Held) → Follows (lo hs) hs → hi hs ≡ lo hs + length hs
unfolding hi
ends_at [] f = refl
ends_at (h ∷ hs) f = hi_is h.n h hs f

-- one more with the next number
pub one_behind : (m : ℕ) (hs : List Held) (h : Held) → Follows m hs → h.n ≡ m + length hs → Follows m (hs ++ h ∷ [])
one_behind m [] h f next = (omega (arith, next), tt)
one_behind m (k ∷ hs) h f next = (f.0, one_behind (m + 1) hs h f.1 (omega (arith, next)))

pub held_from : (n : ℕ) (hs : List Held) → Follows (lo hs) hs → lo hs ≤ n → n ≤ hi hs → Follows n (from_number n hs) × (n + length (from_number n hs) ≡ hi hs)
unfolding hi
held_from n [] f le within = (tt, omega (arith, within))
held_from n (h ∷ hs) f le within =
    let end = hi_is h.n h hs f in
    let r = stand_from n h.n (h ∷ hs) f le (omega (arith, within, end)) in
    (r.0, r.1 ∙ sym end)

-- an end is no longer than the whole
end_fits : (before other : List Held) → length other ≤ length (before ++ other)
end_fits [] other = omega arith
end_fits (b ∷ before) other = let le = end_fits before other in omega (arith, le)

same_or_less : (hs before other : List Held) → hs ≡ before ++ other → length other ≤ length hs
same_or_less hs before other e = subst (λ (l : List Held). length other ≤ length l) (sym e) (end_fits before other)

pub longest_end : (hs : List Held) → IsLongestEnd hs (consecutive_end hs)
unfolding consecutive_end
longest_end [] = record { front = []; splits = refl; follows = refl; longest = λ before other e c. same_or_less [] before other e }
longest_end (h ∷ hs) =
    cond_both (is_consecutive (h ∷ hs)) (h ∷ hs) (consecutive_end hs) (IsLongestEnd (h ∷ hs))
    (λ t. record { front = []; splits = refl; follows = t; longest = λ before other e c. same_or_less (h ∷ hs) before other e })
    (λ f. let rest = longest_end hs in
    record { front = h ∷ rest.front; splits = ap (λ (l : List Held). h ∷ l) rest.splits; follows = rest.follows; longest = λ before other e c. shorter f rest before other e c })
  where
    shorter : is_consecutive (h ∷ hs) ≡ false → IsLongestEnd hs (consecutive_end hs) → (before other : List Held) → h ∷ hs ≡ before ++ other
        → is_consecutive other ≡ true → length other ≤ length (consecutive_end hs)
    shorter f rest [] other e c = absurd (both_ways (is_consecutive (h ∷ hs)) f (subst (λ (l : List Held). is_consecutive l ≡ true) (sym e) c))
    shorter f rest (b ∷ before) other e c = let later : hs ≡ before ++ other = cc in rest.longest before other later c

-- none of those that are left is smaller
pub drop_at_least : (size u : ℕ) (hs : List Held) → AreAtLeast size hs → AreAtLeast size (drop u hs)
drop_at_least size zero hs a = a
drop_at_least size (suc u) [] a = tt
drop_at_least size (suc u) (h ∷ hs) a = drop_at_least size u hs a.1
