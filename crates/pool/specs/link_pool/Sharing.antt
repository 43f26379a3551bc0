-- What each of those who share a link knows, and what holds of all of it between any two steps.
use Rattle.std.specs.Prelude.{◌≡◌, ℕ, ◌+◌, ◌^◌, ◌<◌, ◌≤◌, List, [], ◌∷◌, length}
use mathlib.Core.Option.{some}
use lib.ListN.{get_elem?}
use Rattle.atomic_table.specs.Table.{State}
use Rattle.pool.specs.declared.{link_pool.claim.Claim.Claim, link_pool.link.View.View}
use Rattle.pool.specs.link_pool.Claims.{claims_of, claimed, Adjoin}
use Rattle.channel_book.specs.channel_lock.{total, times, numbers}

-- ---- views

abbrev pub view : ℕ → ℕ → List ℕ → List Claim → ℕ → View
view grants granted owns claims left = record { grants = grants; granted = granted; owns = owns; claims = claims; left = left }

-- the view of one that knows nothing
abbrev pub blank : View
blank = view 0 0 [] [] 0

-- the view of the ticker, with takers that aren't cut off from it or were given back to it
abbrev pub granting : ℕ → List ℕ → List Claim → ℕ → View
granting granted owns claims left = view 1 granted owns claims left

-- the view of a taker
abbrev pub taking : ℕ → List Claim → ℕ → View
taking number claims left = view 0 0 (number ∷ []) claims left

-- the first view: it has all takers
abbrev pub first_view : ℕ → View
first_view takers = granting 0 (numbers 0 takers) [] (2 ^ 54)

abbrev pub is_ticker : View → ℕ
is_ticker v = v.grants

abbrev pub granted_by : View → ℕ
granted_by v = v.granted

abbrev pub bytes_left : View → ℕ
bytes_left v = v.left

abbrev pub has_taker : ℕ → View → ℕ
has_taker number v = times number v.owns

abbrev pub takers_of : View → ℕ
takers_of v = length v.owns

-- ---- the rule

-- what holds of one view: it has all claims of its takers and no others
pub record Fits (drawn : List Claim) (v : View) : Type 0 where
  pub own : (number : ℕ) → 0 < times number v.owns → claims_of number drawn ≡ claims_of number v.claims
  pub alone : (number : ℕ) → times number v.owns ≡ 0 → claims_of number v.claims ≡ []
  pub idle : v.grants ≡ 0 → v.granted ≡ 0

-- What was granted is what the one ticker granted. The claims that were drawn fill the link up to what is claimed, each is known to the one who has its taker, and nobody knows others.
pub record Fair (takers : ℕ) (state : State (Unit {0}) View) : Type 0 where
  pub granted : ℕ
  pub drawn : List Claim
  pub words : state.words ≡ granted ∷ claimed drawn ∷ []
  pub adjoin : Adjoin 0 drawn
  pub ticker : total is_ticker state.views ≡ 1
  pub grants : total granted_by state.views ≡ granted
  pub room : total bytes_left state.views + claimed drawn ≤ 2 ^ 54
  pub once : (number : ℕ) → total (has_taker number) state.views ≤ 1
  pub all : total takers_of state.views ≡ takers
  pub others : (number : ℕ) → total (has_taker number) state.views ≡ 0 → claims_of number drawn ≡ []
  pub fits : (id : ℕ) (v : View) → get_elem? state.views id ≡ some v → Fits drawn v
