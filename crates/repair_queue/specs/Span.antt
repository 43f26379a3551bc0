-- Between which numbers the pending repairs are.
use Rattle.std.specs.Prelude.{ℕ, ◌<◌, ◌≤◌, List}
use Rattle.std.specs.List.{AllByRecursion}
use Rattle.rams_model.specs.Service.{Wanted}
use Rattle.repair_queue.specs.declared.span.Span.{Span}

-- each number is at least `lo` and below `hi`
abbrev pub AreFrom : ℕ → ℕ → List Wanted → Type 0
AreFrom lo hi ws = AllByRecursion (λ w. (lo ≤ w.n) × (w.n < hi)) ws

-- each number is at least `lo`
abbrev pub AreNoLess : ℕ → List Wanted → Type 0
AreNoLess lo ws = AllByRecursion (λ w. lo ≤ w.n) ws

-- each number is in the span
abbrev pub Spans : Span → List Wanted → Type 0
Spans span ws = AllByRecursion (λ w. (span.least ≤ w.n) × (w.n ≤ span.most)) ws
