use Rattle.std.proofs.Common.{ℕ, ◌+◌, ◌*◌, ◌≤◌, ◌<◌, mul-le-mul_right, arith}
use Rattle.pool.proofs.pool_run.granting.grant_all.Goals as goal

granted_so_far : (tick ticks rate : ℕ) → tick < ticks → ticks ≤ 1000000 → rate ≤ 1000000000 → tick * rate + rate ≤ 1000001000000000
granted_so_far tick ticks rate before few low =
    let h : tick ≤ 1000000 = omega (arith, before, few) in
    let most : tick * rate ≤ 1000000 * rate = mul-le-mul_right rate h in
    omega (arith, most, low)

pub grant-requires-clause-most : goal.grant-requires-clause-most
grant-requires-clause-most c =
    let most = granted_so_far c.loop-tick._tick c.args.ticks c.args.rate c.loop-tick-test.true c.requires.ticks c.requires.rate in
    omega (arith, c.loop-tick.invariant.granted, most)
