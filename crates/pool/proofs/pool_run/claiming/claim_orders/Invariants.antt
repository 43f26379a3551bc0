use Rattle.std.proofs.Common.{◌≡◌, ◌++◌, map, take}
use Rattle.rams_model.specs.Service.{wire_sizes}
use Rattle.pool.specs.link_pool.{bytes_of}
use Rattle.pool.specs.pool_run.{AreSmall}
use Rattle.pool.proofs.pool_run.claiming.claim_orders.Given as goal

abbrev pub invariant-loop-order : goal.invariant-loop-order
invariant-loop-order l = record {
  pool : l.taker.pool ≡ l.fn.taker.pool;
  number : l.taker.number ≡ l.fn.taker.number;
  claimed : map bytes_of l.taker.claims ≡ map bytes_of l.fn.taker.claims ++ wire_sizes (take l.order-index l.orders);
  small : AreSmall l.taker.claims;
}
