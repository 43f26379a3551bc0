-- The greatest number of the packets in time: what one more packet does to it.
use Rattle.std.proofs.Common.{◌≡◌, ℕ, zero, suc, ◌+◌, ◌-◌, ◌<◌, ◌≤◌, Bool, true, false, nat_lt, if◌then◌else◌, List, [], ◌∷◌, ◌++◌, refl, sym, ◌∙◌, ap, arith}
use Rattle.std.proofs.lemmas.Bool.Decides.{nat_tests}
use Rattle.rams_model.specs.declared.Held.{Held}
use Rattle.rams_model.specs.Packets.{hi, has_number, with_packet, least, is_missing, awaited}
use Rattle.rams_model.proofs.Rising.{hi_of_end}

-- each number is below the bound
abbrev pub AreBelow : ℕ → List Held → Type 0
AreBelow b [] = Unit {0}
AreBelow b (h ∷ hs) = (h.n < b) × AreBelow b hs

pub AreBelow-wider : (b c : ℕ) (hs : List Held) → b ≤ c → AreBelow b hs → AreBelow c hs
AreBelow-wider b c [] le below = tt
AreBelow-wider b c (h ∷ hs) le below = (omega arith, AreBelow-wider b c hs le below.1)

-- the last of two or more
pub hi_last : (h k : Held) (ks : List Held) → hi (h ∷ k ∷ ks) ≡ hi (k ∷ ks)
unfolding hi
hi_last h k ks = refl

pub hi_one : (h : Held) → hi (h ∷ []) ≡ h.n + 1
unfolding hi
hi_one h = refl

-- a list with a packet behind it ends with that packet
pub hi_end : (new : Held) (hs : List Held) → hi (hs ++ new ∷ []) ≡ new.n + 1
hi_end new hs = hi_of_end hs new [] ∙ hi_one new

pub placed_last_step : (new h : Held) (hs : List Held) (b : Bool) → b ≡ false → with_packet new hs ≡ hs ++ new ∷ [] → (if b then new ∷ h ∷ hs else h ∷ with_packet new hs) ≡ h ∷ (hs ++ new ∷ [])
placed_last_step new h hs true absurdly e = cc
placed_last_step new h hs false is e = ap (λ xs. h ∷ xs) e

-- a packet not below the others goes behind them
pub placed_last : (b : ℕ) (new : Held) (hs : List Held) → AreBelow b hs → b ≤ new.n → with_packet new hs ≡ hs ++ new ∷ []
placed_last b new [] below le = refl
placed_last b new (h ∷ hs) below le = placed_last_step new h hs (nat_lt new.n h.n) (grind (arith, nat_tests)) (placed_last b new hs below.1 le)

pub hi-with_higher : (b : ℕ) (new : Held) (hs : List Held) → AreBelow b hs → b ≤ new.n → hi (with_packet new hs) ≡ new.n + 1
hi-with_higher b new hs below le = ap hi (placed_last b new hs below le) ∙ hi_end new hs

-- a packet below the greatest leaves it
pub hi-behind : (h new k : Held) (ks : List Held) (b : Bool) → hi (h ∷ (if b then new ∷ k ∷ ks else k ∷ with_packet new ks)) ≡ hi (if b then new ∷ k ∷ ks else k ∷ with_packet new ks)
hi-behind h new k ks true = hi_last h new (k ∷ ks)
hi-behind h new k ks false = hi_last h k (with_packet new ks)

pub lower_step : (new h k : Held) (ks : List Held) (b : Bool) → hi (with_packet new (k ∷ ks)) ≡ hi (k ∷ ks) → hi (if b then new ∷ h ∷ k ∷ ks else h ∷ with_packet new (k ∷ ks)) ≡ hi (h ∷ k ∷ ks)
lower_step new h k ks true e = hi_last new h (k ∷ ks)
lower_step new h k ks false e = hi-behind h new k ks (nat_lt new.n k.n) ∙ (e ∙ sym (hi_last h k ks))

pub lower_last : (new h : Held) (b : Bool) → nat_lt new.n h.n ≡ b → new.n < h.n + 1 → hi (if b then new ∷ h ∷ [] else h ∷ new ∷ []) ≡ h.n + 1
lower_last new h true test below = hi_last new h [] ∙ hi_one h
lower_last new h false test below = let same : new.n ≡ h.n = grind (arith, nat_tests) in hi_last h new [] ∙ (hi_one new ∙ ap (λ n. n + 1) same)

pub hi-with_lower : (new h : Held) (hs : List Held) → new.n < hi (h ∷ hs) → hi (with_packet new (h ∷ hs)) ≡ hi (h ∷ hs)
hi-with_lower new h [] below = let least : new.n < h.n + 1 = omega (arith, hi_one h) in lower_last new h (nat_lt new.n h.n) refl least ∙ sym (hi_one h)
hi-with_lower new h (k ∷ ks) below = lower_step new h k ks (nat_lt new.n h.n) (hi-with_lower new k ks (omega (arith, hi_last h k ks)))

-- all stay below a bound
pub below_step : (b : ℕ) (new h : Held) (hs : List Held) (test : Bool) → new.n < b → AreBelow b (h ∷ hs) → AreBelow b (with_packet new hs) → AreBelow b (if test then new ∷ h ∷ hs else h ∷ with_packet new hs)
below_step b new h hs true less below rest = (less, below)
below_step b new h hs false less below rest = (below.0, rest)

pub AreBelow-with : (b : ℕ) (new : Held) (hs : List Held) → new.n < b → AreBelow b hs → AreBelow b (with_packet new hs)
AreBelow-with b new [] less below = (less, tt)
AreBelow-with b new (h ∷ hs) less below = below_step b new h hs (nat_lt new.n h.n) less below (AreBelow-with b new hs less below.1)

-- no packet has a number that is not below the bound
pub has_none : (b n : ℕ) (hs : List Held) → AreBelow b hs → b ≤ n → has_number n hs ≡ false
has_none b n [] below le = refl
has_none b n (h ∷ hs) below le = let rest = has_none b n hs below.1 le in grind (arith, nat_tests)

-- the last has the greatest
pub has_greatest : (n : ℕ) (h : Held) (hs : List Held) → n + 1 ≡ hi (h ∷ hs) → has_number n (h ∷ hs) ≡ true
has_greatest n h [] is = let same : h.n ≡ n = omega (arith, hi_one h) in grind (arith, nat_tests)
has_greatest n h (k ∷ ks) is = let rest = has_greatest n k ks (is ∙ hi_last h k ks) in grind (arith, nat_tests)

-- the search for the least ends with its count
pub least-end : (test : ℕ → Bool) (n count : ℕ) → least test n count ≤ n + count
least-end test n zero = omega arith
least-end test n (suc count) = end_step test n count (test n) (least-end test (n + 1) count)
  where
    end_step : (test : ℕ → Bool) (n count : ℕ) (b : Bool) → least test (n + 1) count ≤ n + 1 + count → (if b then n else least test (n + 1) count) ≤ n + suc count
    end_step test n count true le = omega arith
    end_step test n count false le = omega arith

-- the awaited number is at most one above the greatest
pub awaited-end : (window : ℕ) (h : Held) (hs : List Held) → h.n < hi (h ∷ hs) → awaited window (h ∷ hs) ≤ hi (h ∷ hs)
unfolding awaited
awaited-end window h hs below = omega (arith, least-end (is_missing window (h ∷ hs)) h.n (hi (h ∷ hs) - h.n))
