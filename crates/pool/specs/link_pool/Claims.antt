-- Claims of a link: bytes of it, counted from the first that was ever claimed.
use Rattle.std.specs.Prelude.{◌≡◌, ℕ, ◌+◌, ◌<◌, ◌≤◌, ◌==◌, ◌&&◌, Bool, nat_le, nat_lt, if◌then◌else◌, List, [], ◌∷◌, filter, sum_by, count_by}
use Rattle.pool.specs.declared.link_pool.claim.Claim.{Claim}

abbrev pub claim : ℕ → ℕ → ℕ → Claim
claim taker from bytes = record { taker = taker; from = from; bytes = bytes }

abbrev pub is_of : ℕ → Claim → Bool
is_of taker c = c.taker == taker

-- The claims of one taker, in their order.
abbrev pub claims_of : ℕ → List Claim → List Claim
claims_of taker claims = filter (is_of taker) claims

abbrev pub bytes_of : Claim → ℕ
bytes_of c = c.bytes

-- how many bytes are claimed
abbrev pub claimed : List Claim → ℕ
claimed claims = sum_by bytes_of claims

-- Each claim begins where the one before it ends, the first one at this byte, and none is empty.
abbrev pub Adjoin : ℕ → List Claim → Type 0
Adjoin first [] = Unit {0}
Adjoin first (c ∷ later) = (c.from ≡ first) × (0 < c.bytes) × Adjoin (first + c.bytes) later

-- this byte is one of the claim
abbrev pub has_byte : ℕ → Claim → Bool
has_byte byte c = nat_le c.from byte && nat_lt byte (c.from + c.bytes)

-- The claims stand by rising first byte and fill the link without gap or overlap: each of as many bytes as are claimed, from the first on, is in one of them, and no other byte is in any.
pub record Fill (claims : List Claim) : Type 0 where
  pub adjoin : Adjoin 0 claims
  pub once : (byte : ℕ) → count_by (has_byte byte) claims ≡ (if nat_lt byte (claimed claims) then 1 else 0)

-- A claim is paid where so many granted bytes reach to its end.
abbrev pub is_paid : ℕ → Claim → Bool
is_paid granted c = nat_le (c.from + c.bytes) granted

-- The paid claims have at most as many bytes as were granted.
abbrev pub PaidWithin : ℕ → List Claim → Type 0
PaidWithin granted claims = claimed (filter (is_paid granted) claims) ≤ granted
