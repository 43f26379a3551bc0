-- Claims that adjoin, and the claims of one taker among some.
use Rattle.std.proofs.Common.{◌≡◌, ℕ, ◌+◌, ◌-◌, ◌<◌, ◌≤◌, Bool, true, false, cond, List, [], ◌∷◌, ◌++◌, refl, sym, ap, ◌∙◌, arith}
use Rattle.std.specs.Prelude.{if◌then◌else◌, ◌==◌, ◌&&◌, nat_le, nat_lt, filter}
use Rattle.std.proofs.lemmas.Bool.Decides.{nat_tests}
use Rattle.std.proofs.lemmas.List.{append-nil}
use Rattle.std.proofs.lemmas.List.Sums.{sum_by-cons}
use Rattle.std.proofs.lemmas.List.Elements.{filter-append}
use Rattle.pool.specs.declared.link_pool.claim.Claim.{Claim}
use Rattle.pool.specs.link_pool.Claims.{claim, is_of, claims_of, bytes_of, claimed, Adjoin, has_byte, Fill, is_paid, PaidWithin}
use Rattle.channel_book.specs.channel_lock.{total, times}
use Rattle.pool.proofs.link_pool.Sums.{sum_total}

-- ---- claims that adjoin

-- the next claim begins where the last one ends
pub adjoin_snoc : (first taker from bytes : ℕ) (xs : List Claim) → from ≡ first + claimed xs → 0 < bytes → Adjoin first xs → Adjoin first (xs ++ claim taker from bytes ∷ [])
adjoin_snoc first taker from bytes [] is some adjoin = (omega (arith, is), some, tt)
adjoin_snoc first taker from bytes (x ∷ xs) is some adjoin = (
  adjoin.0,
  adjoin.1,
  adjoin_snoc (first + x.bytes) taker from bytes xs (omega (arith, is, sum_by-cons bytes_of x xs)) some adjoin.2,
)

byte_once : (byte first from bytes later count : ℕ) → from ≡ first → count ≡ (if nat_le (first + bytes) byte && nat_lt byte (first + bytes + later) then 1 else 0)
    → (if nat_le from byte && nat_lt byte (from + bytes) then 1 else 0) + count ≡ (if nat_le first byte && nat_lt byte (first + (bytes + later)) then 1 else 0)
byte_once byte first from bytes later count is rest = grind (arith, nat_tests)

once_from : (byte first : ℕ) (xs : List Claim) → Adjoin first xs → total (λ (c : Claim). cond (has_byte byte c) 1 0) xs ≡ (if nat_le first byte && nat_lt byte (first + total bytes_of xs) then 1 else 0)
once_from byte first [] adjoin = grind (arith, nat_tests)
once_from byte first (c ∷ xs) adjoin =
    byte_once byte first c.from c.bytes (total bytes_of xs) (total (λ (d : Claim). cond (has_byte byte d) 1 0) xs) adjoin.0 (once_from byte (first + c.bytes) xs adjoin.2)

from_zero : (byte count all : ℕ) → count ≡ (if nat_le 0 byte && nat_lt byte (0 + all) then 1 else 0) → count ≡ (if nat_lt byte all then 1 else 0)
from_zero byte count all e = grind (arith, nat_tests)

pub fill_from : (xs : List Claim) → Adjoin 0 xs → Fill xs
fill_from xs adjoin = record {
  adjoin = adjoin;
  once = λ byte.
      let e = from_zero byte _ (total bytes_of xs) (once_from byte 0 xs adjoin) in
      sum_total (λ (c : Claim). cond (has_byte byte c) 1 0) xs ∙ (e ∙ ap (λ (n : ℕ). if nat_lt byte n then 1 else 0) (sym (sum_total bytes_of xs)));
}

-- ---- paid claims

paid_head : (granted first from bytes : ℕ) (later rest : ℕ) → from ≡ first → rest ≤ granted - (first + bytes) → (b : Bool) → nat_le (from + bytes) granted ≡ b → (whole : ℕ)
    → whole ≡ cond b (bytes + rest) rest → whole ≤ granted - first
paid_head granted first from bytes later rest is le true e whole w = grind (arith, nat_tests)
paid_head granted first from bytes later rest is le false e whole w = grind (arith, nat_tests)

paid_from : (granted first : ℕ) (xs : List Claim) → Adjoin first xs → claimed (filter (is_paid granted) xs) ≤ granted - first
paid_from granted first [] adjoin = omega arith
paid_from granted first (c ∷ xs) adjoin =
    paid_head granted first c.from c.bytes 0 (claimed (filter (is_paid granted) xs)) adjoin.0 (paid_from granted (first + c.bytes) xs adjoin.2) (is_paid granted c) refl
    (claimed (filter (is_paid granted) (c ∷ xs))) (split (is_paid granted c))
  where
    split : (b : Bool) → claimed (cond b (c ∷ filter (is_paid granted) xs) (filter (is_paid granted) xs)) ≡ cond b (c.bytes + claimed (filter (is_paid granted) xs)) (claimed (filter (is_paid granted) xs))
    split true = sum_by-cons bytes_of c (filter (is_paid granted) xs)
    split false = refl

pub paid_within : (granted : ℕ) (xs : List Claim) → Adjoin 0 xs → PaidWithin granted xs
paid_within granted xs adjoin = omega (arith, paid_from granted 0 xs adjoin)

-- ---- the claims of one taker

pub claims_snoc : (number : ℕ) (xs : List Claim) (c : Claim) → claims_of number (xs ++ c ∷ []) ≡ claims_of number xs ++ claims_of number (c ∷ [])
claims_snoc number xs c = filter-append (is_of number) xs (c ∷ [])

pub claims_append : (number : ℕ) (xs ys : List Claim) → claims_of number (xs ++ ys) ≡ claims_of number xs ++ claims_of number ys
claims_append number xs ys = filter-append (is_of number) xs ys

-- a claim of another taker
pub not_of : (number : ℕ) (c : Claim) → times number (c.taker ∷ []) ≡ 0 → claims_of number (c ∷ []) ≡ []
not_of number c none = go (c.taker == number) none
  where
    go : (b : Bool) → (if b then 1 else 0) + 0 ≡ 0 → cond b (c ∷ []) [] ≡ []
    go true e = absurd (omega (arith, e))
    go false e = refl

-- nothing comes behind
pub none_behind : (number : ℕ) (xs ys : List Claim) → claims_of number ys ≡ [] → claims_of number (xs ++ ys) ≡ claims_of number xs
none_behind number xs ys none = claims_append number xs ys ∙ ap (λ (l : List Claim). claims_of number xs ++ l) none ∙ append-nil (claims_of number xs)

-- nothing stands in front
pub none_before : (number : ℕ) (xs ys : List Claim) → claims_of number xs ≡ [] → claims_of number (xs ++ ys) ≡ claims_of number ys
none_before number xs ys none = claims_append number xs ys ∙ ap (λ (l : List Claim). l ++ claims_of number ys) none
