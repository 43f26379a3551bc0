use Rattle.std.proofs.Common.{◌≡◌, ℕ, ◌+◌, ◌≤◌, drop, length}
use Rattle.serve_loop.specs.{Sends, bytes_of, order_datagrams}
use Rattle.serve_loop.proofs.send.send_orders.Given as goal

abbrev pub invariant-loop-order : goal.invariant-loop-order
invariant-loop-order g l =
    Sends (g.W.Wire.sent l.fn.wire) (g.W.Wire.sent l.wire) (order_datagrams l.config l.port l.orders) (order_datagrams l.config l.port (drop l.order-index l.orders))
    × (g.W.Wire.arrivals l.wire ≡ g.W.Wire.arrivals l.fn.wire)
    × (g.W.Wire.faults l.fn.wire ≤ g.W.Wire.faults l.wire)
    × ((bytes count : ℕ) → g.W.Wire.is_steady l.fn.wire (bytes_of (order_datagrams l.config l.port l.orders) + bytes) (length (order_datagrams l.config l.port l.orders) + count)
    → g.W.Wire.is_steady l.wire (bytes_of (order_datagrams l.config l.port (drop l.order-index l.orders)) + bytes) (length (order_datagrams l.config l.port (drop l.order-index l.orders)) + count))
