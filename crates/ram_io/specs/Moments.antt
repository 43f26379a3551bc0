-- The moments of a clock.
use Rattle.std.specs.Prelude.{◌≡◌, ℕ, Option, Some, List, [], ◌∷◌, slice_index, IfSome}

-- The moments to come after one was given: the last one repeats.
abbrev pub later : List ℕ → List ℕ
later [] = []
later (moment ∷ []) = moment ∷ []
later (moment ∷ next ∷ rest) = next ∷ rest

-- Where the moments to come are told, a call gave the first, or 0 where there is none.
abbrev pub GivesNext : Option (List ℕ) → Option (List ℕ) → ℕ → Type 0
GivesNext old new result = IfSome old (λ moments. (result ≡ slice_index moments 0) × (new ≡ Some (later moments)))
