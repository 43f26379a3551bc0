-- What the join time of a burst means.
use Rattle.std.specs.Prelude.{ℕ, ◌+◌, ◌-◌, ◌*◌, ◌≤◌, List, ◌∷◌, drop}
use Rattle.rams_model.specs.declared.wire.TheConstants.{MOST_ON_WIRE}
use Rattle.rams_model.specs.Service.{waste, join_ticks}
use Rattle.rams_model.specs.Laws.{CatchesUp, NothingIsLeft}

-- What a tick gains on the source at least: its rate, less what is lost where a packet doesn't fit, and what the source adds.
abbrev pub gain : ℕ → ℕ → ℕ → ℕ
gain rate declared depth = rate - waste depth - declared

-- The least number of ticks in which the gain makes up for so many bytes.
pub record IsLeastTicks (behind gain ticks : ℕ) : Type 0 where
  pub enough : behind ≤ ticks * gain
  pub least : (fewer : ℕ) → behind ≤ fewer * gain → ticks ≤ fewer

-- The join time is the least number of ticks in which the gain makes up for what is behind.
abbrev pub JoinTimesAreLeast : Type 0
JoinTimesAreLeast = (behind rate declared depth : ℕ) → declared + MOST_ON_WIRE ≤ rate
    → IsLeastTicks behind (gain rate declared depth) (join_ticks behind rate declared depth)

-- Of a burst whose ticks come nearer by the gain nothing is left after the join time, and stays so.
abbrev pub JoinTimesAreKept : Type 0
JoinTimesAreKept = (behind kept rate declared depth : ℕ) (ticks : List (ℕ × ℕ)) → declared + MOST_ON_WIRE ≤ rate
    → CatchesUp (gain rate declared depth) ((behind, kept) ∷ ticks)
    → NothingIsLeft (drop (join_ticks behind rate declared depth) ((behind, kept) ∷ ticks))
