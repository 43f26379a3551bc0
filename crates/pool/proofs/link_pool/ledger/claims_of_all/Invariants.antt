use Rattle.std.proofs.Common.{◌≡◌, take}
use Rattle.pool.specs.link_pool.{claims_given}
use Rattle.pool.proofs.link_pool.ledger.claims_of_all.Given as goal

abbrev pub invariant-loop-taker : goal.invariant-loop-taker
invariant-loop-taker l = l.all.items ≡ claims_given (take l.taker-index l.takers)
