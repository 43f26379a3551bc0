use Rattle.std.proofs.Common.{◌≡◌, ◌*◌}
use Rattle.pool.proofs.pool_run.granting.grant_all.Given as goal

abbrev pub invariant-loop-tick : goal.invariant-loop-tick
invariant-loop-tick l = record { pool : l.ticker.pool ≡ l.pool.pool; granted : l.ticker.total ≡ l._tick * l.rate }
