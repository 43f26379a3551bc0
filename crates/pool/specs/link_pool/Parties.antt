-- What contracts see of a pool, of its ticker and of its takers.
use Rattle.std.specs.Prelude.{◌≡◌, ◌≢◌, ℕ, ◌+◌, ◌^◌, List, [], map, flat_map, All}
use Rattle.std.specs.List.{AllByRecursion as Each}
use Rattle.atomic_table.specs.Seated.{TableId}
use Rattle.pool.specs.declared.link_pool.claim.Claim.{Claim}
use Rattle.pool.specs.link_pool.Claims.{claimed}
use Rattle.pool.specs.link_pool.Sharing.{granting, taking}
use Rattle.pool.specs.link_pool.Steps.{Mine}
use Rattle.channel_book.specs.channel_lock.{numbers}

-- what is known of a pool
pub record Divided : Type 0 where
  -- which pool it is
  pub pool : TableId
  -- how many takers it made
  pub takers : ℕ

-- what is known of a ticker
pub record Granter : Type 0 where
  -- which pool made it
  pub pool : TableId
  -- the bytes that were granted with it
  pub total : ℕ

-- what is known of a taker
pub record Claimer : Type 0 where
  -- which pool made it
  pub pool : TableId
  pub number : ℕ
  pub claims : List Claim

abbrev pub granter : TableId → ℕ → Granter
granter pool total = record { pool = pool; total = total }

abbrev pub claimer : TableId → ℕ → List Claim → Claimer
claimer pool number claims = record { pool = pool; number = number; claims = claims }

-- the ticker of a new pool
abbrev pub fresh_ticker : TableId → Granter
fresh_ticker pool = granter pool 0

-- The takers of a new pool, one for each number from 0 on, without claims.
abbrev pub fresh_takers : TableId → ℕ → List Claimer
fresh_takers pool n = map (λ number. claimer pool number []) (numbers 0 n)

-- a ticker that granted so many bytes more
abbrev pub granted_more : Granter → ℕ → Granter
granted_more t bytes = granter t.pool (t.total + bytes)

-- the claims of some takers, one taker after the other
abbrev pub claims_given : List Claimer → List Claim
claims_given takers = flat_map (λ (t : Claimer). t.claims) takers

abbrev pub numbers_given : List Claimer → List ℕ
numbers_given takers = map (λ (t : Claimer). t.number) takers

-- the number is of none of the takers
abbrev pub NotAmong : List Claimer → ℕ → Type 0
NotAmong takers number = All (λ (t : Claimer). t.number ≢ number) takers

-- two words, of the bytes that were granted and claimed
pub record IsPool (pool : TableId) (takers made : ℕ) : Type 0 where
  pub words : pool.words ≡ 2
  pub slots : pool.slots ≡ 0
  pub count : takers ≡ made

-- a ticker whose takers are cut off
pub record IsTicker (total : ℕ) (me : Mine) : Type 0 where
  pub seat_is : me ≡ (granting total [] [] me.0.left, [])

-- each claim carries this number
abbrev pub Carry : ℕ → List Claim → Type 0
Carry number claims = Each (λ (c : Claim). c.taker ≡ number) claims

-- a taker, which may claim 2^48 bytes together
pub record IsTaker (number : ℕ) (claims : List Claim) (me : Mine) : Type 0 where
  pub seat_is : me ≡ (taking number claims me.0.left, [])
  pub room : me.0.left + claimed claims ≡ 2 ^ 48
  pub own : Carry number claims

abbrev pub Carries : Claimer → Type 0
Carries t = Carry t.number t.claims

-- the view of a ticker to which these takers were given back
pub record HasGathered (granted : ℕ) (takers : List Claimer) (me : Mine) : Type 0 where
  pub seat_is : me ≡ (granting granted (numbers_given takers) (claims_given takers) me.0.left, [])
