use Rattle.std.proofs.Common.{◌≡◌, ◌*◌}
use Rattle.pool.specs.link_pool.{claimed}
use Rattle.pool_tests.proofs.links.claim_often.Given as goal

abbrev pub invariant-loop-time : goal.invariant-loop-time
invariant-loop-time l = record { pool : l.taker.pool ≡ l.pool.pool; claimed : claimed l.taker.claims ≡ l._time * l.bytes }
