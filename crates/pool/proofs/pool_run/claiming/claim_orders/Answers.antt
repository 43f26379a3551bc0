use Rattle.std.proofs.Common.{◌∙◌}
use Rattle.pool.proofs.pool_run.Sizing.{sizes_next}
use Rattle.pool.proofs.pool_run.claiming.claim_orders.Goals as goal

pub loop-order-preserved : goal.loop-order-preserved
loop-order-preserved c =
    let i = c.loop-order.invariant in
    let done = c.in_ok-claim_order.ensures in record {
      pool = c.claim_order.ensures.pool ∙ i.pool;
      number = c.claim_order.ensures.number ∙ i.number;
      claimed = sizes_next c.args.orders.now c.loop-order.order-index c.order-item.result _ _ _ c.loop-order-test.true c.order-item.is i.claimed done.claimed;
      small = done.small;
    }
