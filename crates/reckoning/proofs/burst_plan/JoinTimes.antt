-- The join time is the least number of ticks that suffices.
use Rattle.std.proofs.Common.{◌≡◌, ℕ, suc, ◌+◌, ◌-◌, ◌*◌, ◌/◌, ◌%◌, ◌<◌, ◌≤◌, min, arith}
use Rattle.std.proofs.Math.Nat.{suc-mul, lt-div-mul-add, div-lt_iff_lt-mul, lt_of_mul-lt-mul_right}
use Rattle.std.proofs.lemmas.Grind.{div_ceil_times}
use Rattle.rams_model.specs.Service.{ceiling, join_ticks}
use Rattle.reckoning.specs.burst_plan.{gain, IsLeastTicks, JoinTimesAreLeast, JoinTimesAreKept}
use Rattle.rams_model.proofs.Catching.{catching_up_ends}

-- a number divided and rounded up is the least multiple that reaches it
ceiling_least : (a b : ℕ) → 1 ≤ b → IsLeastTicks a b (ceiling a b)
ceiling_least a b positive = record {
  enough = let more = lt-div-mul-add {a = a + (b - 1)} {b = b} positive in omega (arith, more);
  least = λ fewer h.
      let more = suc-mul fewer b in
      let lt : a + (b - 1) < suc fewer * b = omega (arith, h, more, positive) in
      let below = (div-lt_iff_lt-mul {k = b} {x = a + (b - 1)} {y = suc fewer} positive).1 lt in
      omega (arith, below);
}

-- the program's division that rounds up
pub ceiling_is : (a b : ℕ) → 1 ≤ b → a / b + min 1 (a % b) ≡ ceiling a b
ceiling_is a b positive =
    let c = a / b + min 1 (a % b) in
    let q = ceiling a b in
    let within = div_ceil_times a b positive in
    let least = ceiling_least a b positive in
    let up = least.least c within.0 in
    let more = suc-mul q b in
    let lt : c * b < suc q * b = omega (arith, within.1, least.enough, more) in
    let down = lt_of_mul-lt-mul_right b {m = c} {n = suc q} lt in
    omega (arith, up, down)

pub least_join : JoinTimesAreLeast
least_join behind rate declared depth suffices = ceiling_least behind (gain rate declared depth) (omega arith)

pub kept_join : JoinTimesAreKept
kept_join behind kept rate declared depth ticks suffices up =
    catching_up_ends (gain rate declared depth) (join_ticks behind rate declared depth) (behind, kept) ticks up (least_join behind rate declared depth suffices).enough
