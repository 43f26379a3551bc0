-- Pieces as code has them.
use Rattle.std.specs.Prelude.{◌≡◌, ℕ, ◌+◌, ◌<◌, ◌≤◌, List, [], ◌∷◌, length, map, slice_index_or}
use Rattle.receiver_core.specs.declared.shown.Shown.{Shown}
use Rattle.rams_model.specs.Receiver.{Piece, piece}

-- packets that wait
abbrev pub pieces_of : List Shown → List Piece
pieces_of waits = map (λ s. piece s.n s.packet) waits

abbrev pub as_shown : Piece → Shown
as_shown q = record { n = q.n; packet = q.packet }

-- their numbers rise, from no less than the given one on
abbrev pub Rise : ℕ → List Shown → Type 0
Rise n [] = Unit {0}
Rise n (s ∷ waits) = (n ≤ s.n) × Rise (s.n + 1) waits

-- the number of the one in a place
abbrev pub number_at : List Shown → ℕ → ℕ
number_at waits place = (slice_index_or waits place (record { n = 0; packet = [] })).n

-- the one with a number waits in this place
pub record IsPlace (n : ℕ) (waits : List Shown) (place : ℕ) : Type 0 where
  pub within : place < length waits
  pub there : number_at waits place ≡ n

-- none with this number waits, and one would wait in this place
pub record IsGap (n : ℕ) (waits : List Shown) (place : ℕ) : Type 0 where
  pub within : place ≤ length waits
  pub below : (k : ℕ) → k < place → number_at waits k < n
  pub above : (k : ℕ) → place ≤ k → k < length waits → n < number_at waits k

-- of those that wait, so many have numbers below this one
pub record AreBelow (n : ℕ) (waits : List Shown) (count : ℕ) : Type 0 where
  pub within : count ≤ length waits
  pub below : (k : ℕ) → k < count → number_at waits k < n
  pub others : (k : ℕ) → count ≤ k → k < length waits → n ≤ number_at waits k
