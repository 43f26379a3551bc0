use Rattle.std.proofs.Common.{[], ◌∷◌, ◌++◌, ◌∙◌, drop, ◌+◌, length, Result, sym, subst, arith}
use Rattle.std.proofs.lemmas.Result.{err_from_is_err_and}
use Rattle.trace_loop.specs.declared.Stop.{Stop}
use Rattle.serve_loop.specs.{OnlyMemoryStops, bytes_of, order_datagrams}
use Rattle.serve_loop.proofs.GoingOut.{Sends-next, orders-more, orders-past}
use Rattle.serve_loop.proofs.Rooms.{wire_parts, wire_none}
use Rattle.serve_loop.proofs.send.send_orders.Goals as goal

pub returns-in_err-send_order-clause-front : goal.returns-in_err-send_order-clause-front
returns-in_err-send_order-clause-front g c =
    let more = orders-more c.args.config.now c.args.port c.args.orders.now c.loop-order.order-index c.order-item.result c.loop-order-test.true c.order-item.is in
    let front = c.send_order.ensures.front in
    (front.0 ++ order_datagrams c.args.config.now c.args.port (drop (c.loop-order.order-index + 1) c.args.orders.now), Sends-next _ _ _ _ _ _ _ _ c.loop-order.invariant.0 more front.1)

pub returns-in_err-send_order-clause-steady : goal.returns-in_err-send_order-clause-steady
returns-in_err-send_order-clause-steady g c = λ bytes count h.
    let more = orders-more c.args.config.now c.args.port c.args.orders.now c.loop-order.order-index c.order-item.result c.loop-order-test.true c.order-item.is in
    let rest = order_datagrams c.args.config.now c.args.port (drop (c.loop-order.order-index + 1) c.args.orders.now) in
    let room = wire_parts (g.W.Wire.is_steady c.loop-order.wire) _ (order_datagrams c.args.config.now c.args.port (c.order-item.result ∷ [])) rest bytes count more (c.loop-order.invariant.3 bytes count h) in
    let stop = c.in_err-send_order.ensures.steady (bytes_of rest + bytes) (length rest + count) room in
    let p = err_from_is_err_and c.from_residual.result c.from_residual.ensures.1 in
    subst (λ (r : Result (Unit {0}) Stop). OnlyMemoryStops r (g.W.Wire.is_steady c.send_order.new.wire bytes count)) (sym p.1) (p.2 ∙ stop)

pub loop-order-preserved : goal.loop-order-preserved
loop-order-preserved g c =
    let more = orders-more c.args.config.now c.args.port c.args.orders.now c.loop-order.order-index c.order-item.result c.loop-order-test.true c.order-item.is in
    let rest = order_datagrams c.args.config.now c.args.port (drop (c.loop-order.order-index + 1) c.args.orders.now) in
    let before = c.loop-order.invariant.2 in
    let now = c.send_order.ensures.cause.later in (
      Sends-next _ _ _ _ _ _ _ _ c.loop-order.invariant.0 more c.in_ok-send_order.ensures.all,
      c.send_order.ensures.untaken ∙ c.loop-order.invariant.1,
      omega arith,
      λ bytes count h.
          c.in_ok-send_order.ensures.steady (bytes_of rest + bytes) (length rest + count) (wire_parts (g.W.Wire.is_steady c.loop-order.wire) _ (order_datagrams c.args.config.now c.args.port (c.order-item.result ∷ [])) rest bytes count more (c.loop-order.invariant.3 bytes count h)),
    )

pub returns-clause-steady : goal.returns-clause-steady
returns-clause-steady g c = λ bytes count h.
    wire_none (g.W.Wire.is_steady c.loop-order.wire) _ bytes count (orders-past c.args.config.now c.args.port c.args.orders.now c.loop-order.order-index c.loop-order-test.false) (c.loop-order.invariant.3 bytes count h)
