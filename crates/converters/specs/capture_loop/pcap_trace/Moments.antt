-- Ticks between moments. A clock starts at the first moment, and its k-th tick is due k ticks later.
use Rattle.std.specs.Prelude.{ℕ, ◌+◌, ◌-◌, ◌*◌, ◌/◌, ◌<◌, ◌≤◌, max, Option, None, Some}

-- the first of some moments, and the greatest
pub record Span : Type 0 where
  pub first : ℕ
  pub top : ℕ

-- the length of a tick, and the moments so far, where there were any
pub record Elapsed : Type 0 where
  pub tick : ℕ
  pub seen : Option Span

-- the moments with one more
abbrev pub widened : ℕ → Option Span → Span
widened ms None = record { first = ms; top = ms }
widened ms (Some span) = record { first = span.first; top = max span.top ms }

-- how many ticks were due by the greatest moment
abbrev pub ticks_by : ℕ → Span → ℕ
ticks_by tick span = (span.top - span.first) / tick

-- the same, where there were moments
abbrev pub ticks_so_far : ℕ → Option Span → ℕ
ticks_so_far tick None = 0
ticks_so_far tick (Some span) = ticks_by tick span

-- how many more are due by one more moment
abbrev pub ticks_between : Elapsed → ℕ → ℕ
ticks_between e ms = ticks_by e.tick (widened ms e.seen) - ticks_so_far e.tick e.seen

-- the moment of the first tick that wasn't due yet
abbrev pub next_due : ℕ → Span → ℕ
next_due tick span = span.first + (ticks_by tick span + 1) * tick

-- Of the moments due, due + tick, due + 2 * tick and so on, n are at most ms.
pub record IsCountOf (due tick ms n : ℕ) : Type 0 where
  pub reached : 0 < n → due + (n - 1) * tick ≤ ms
  pub ahead : ms < due + n * tick

-- the ticks that one more moment brings are those that are due by the greatest moment
abbrev pub TicksAreDue : Type 0
TicksAreDue =
    (tick ms : ℕ) (span : Span) → 1 ≤ tick → span.first ≤ span.top
    → IsCountOf (next_due tick span) tick (max span.top ms) (ticks_between (record { tick = tick; seen = Some span }) ms)
