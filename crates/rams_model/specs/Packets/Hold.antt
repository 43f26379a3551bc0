-- The packets that a channel holds, oldest first.
use Rattle.std.specs.Prelude.{ℕ, ◌+◌, ◌-◌, nat_le, List, [], ◌∷◌, length, drop, filter, sum_by}
use Rattle.rams_model.specs.declared.held.Held.{Held}

-- the interval of the numbers: the first, and one above the last; both 0 where nothing is held
abbrev pub lo : List Held → ℕ
lo [] = 0
lo (h ∷ hs) = h.n

unfoldable pub hi : List Held → ℕ
hi [] = 0
hi (h ∷ []) = h.n + 1
hi (h ∷ k ∷ hs) = hi (k ∷ hs)

-- the last packets of the source, as many as the ring has room for
abbrev pub last_of : ℕ → List Held → List Held
last_of ring source = drop (length source - ring) source

-- the wire sizes of some packets together
abbrev pub wires : List Held → ℕ
wires hs = sum_by (λ h. h.wire) hs

-- the packets numbered n and above
abbrev pub from_number : ℕ → List Held → List Held
from_number n hs = filter (λ h. nat_le n h.n) hs
