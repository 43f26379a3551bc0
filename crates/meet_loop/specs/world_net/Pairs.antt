-- Maps under pairs of numbers.
use Rattle.std.specs.Prelude.{ℕ, List, Option}
use Rattle.std.specs.BTreeMap.{is_at}
use Rattle.std.specs.Map.{lookup}
use Rattle.rams_model.specs.Pairs.{pair_cmp}

-- what some entries have at two numbers
abbrev pub at_pair : {A : Type 0} → List ((ℕ × ℕ) × A) → ℕ → ℕ → Option A
at_pair entries a b = lookup (is_at (pair_cmp (a, b))) entries
