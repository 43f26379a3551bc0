-- Deliveries that are fair to a receiver of a source.
use Rattle.std.specs.Prelude.{◌≡◌, ℕ, ◌+◌, ◌%◌, ◌≤◌, List, [], ◌∷◌, length, Option, Some, None, Contains}
use Rattle.rams_model.specs.declared.Held.{Held}
use Rattle.rams_model.specs.Receiver.{room, Media, again, multicast, unfit, Turn, hears, delivers, presents, shown, source_first}

-- the source has this packet under this number
abbrev pub IsOf : List Held → ℕ → List ℕ → Type 0
IsOf source x packet = (h : Held) × Contains source h × (h.n ≡ x) × (h.packet ≡ packet)

-- a number is so near to the next one that its low 16 bits tell it from all others
abbrev pub IsNear : ℕ → ℕ → Type 0
IsNear next x = (next ≤ x + 32768) × (x ≤ next + 32767)

-- that, where a first number is fixed, and so many packets from it on were presented
abbrev pub IsWithin : Option ℕ → ℕ → ℕ → Type 0
IsWithin None count x = Unit {0}
IsWithin (Some f) count x = IsNear (f + count) x

-- A packet comes with the low bits of its number, is the source's, and is near.
abbrev pub IsFair : List Held → List Turn → ℕ → Media → Type 0
IsFair source turns x (again sequence low packet) = (low ≡ x % 65536) × (room ≤ x) × IsOf source x packet × IsWithin (source_first turns) (length (shown turns)) x
IsFair source turns x (multicast low packet) = (low ≡ x % 65536) × IsOf source x packet × IsWithin (source_first turns) (length (shown turns)) x
IsFair source turns x (unfit why) = Unit {0}

abbrev pub AreFair : List Held → List Turn → Type 0
AreFair source [] = Unit {0}
AreFair source (hears told ∷ turns) = AreFair source turns
AreFair source (delivers x media ∷ turns) = IsFair source turns x media × AreFair source turns
AreFair source (presents ∷ turns) = AreFair source turns
