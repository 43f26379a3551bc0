-- A worked example: five packets of 1,500 bytes are behind, a tick sends 2,999 bytes, and what one packet doesn't fill is kept.
use Rattle.std.specs.Prelude.{◌≡◌, ℕ, Bool, List, [], ◌∷◌, None}
use Rattle.rams_model.specs.declared.Held.{Held}
use Rattle.rams_model.specs.Service.{join_ticks}
use Rattle.reckoning.specs.burst_plan.QuietTicks.{Burst, Tick, IsLawful, AreQuiet, pair, pairs_after}

abbrev pub packet : ℕ → Held
packet n = record { n = n; ts = 0; wire = 1500; access = Bool.false; packet = [] }

abbrev pub five_packets : Burst
five_packets = record {
  rate = 2999;
  depth = 1499;
  next = 65546;
  kept = 0;
  packets = packet 65546 ∷ packet 65547 ∷ packet 65548 ∷ packet 65549 ∷ packet 65550 ∷ [];
}

-- a tick that leaves so many bytes
abbrev pub tick : ℕ → Tick
tick left = record { stop = None; joined = []; left = left }

-- The ticks send one packet, two and two, from budgets of 2,999, 4,498 and 4,497 bytes.
abbrev pub three_ticks : List Tick
three_ticks = tick 1499 ∷ tick 1498 ∷ tick 1497 ∷ []

-- They are quiet, and the join time is kept.
pub record CatchesUpInThreeTicks : Type 0 where
  pub lawful : IsLawful 0 five_packets
  pub quiet : AreQuiet 0 five_packets three_ticks
  pub pairs : pair five_packets ∷ pairs_after five_packets three_ticks ≡ (7500, 0) ∷ (6000, 1499) ∷ (3000, 1498) ∷ (0, 1497) ∷ []
  pub join : join_ticks 7500 2999 0 1499 ≡ 3
