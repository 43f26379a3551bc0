use Rattle.std.proofs.Common.{◌≡◌, ℕ, ◌≤◌, List, take, length, ap, ◌∙◌, arith, length-take}
use Rattle.line_io.proofs.NextLines.{on_failure}
use Rattle.converters.specs.capture_loop.pcap_trace.{head_at}
use Rattle.converters.proofs.capture_loop.Filling.{order_there, short_order, when_full, when_not}
use Rattle.converters.proofs.capture_loop.Cutting.{short_head}
use Rattle.converters.proofs.capture_loop.records.read_order.Goals as goal

pub returns-in_err-fill-clause-unread : goal.returns-in_err-fill-clause-unread
returns-in_err-fill-clause-unread g c = on_failure c.from_residual.result _ (short_head c.fill.new.self c.in_err-fill.ensures.short)

pub returns-then-not-branch-clause-order : goal.returns-then-not-branch-clause-order
returns-then-not-branch-clause-order g c =
    let none = when_not c.in_ok-fill.field-0 _ _ c.in_ok-fill.ensures.filled c.if-not-branch.true in
    short_order _ c.fill.new.self (g.S.Source.left c.fill.new.source) c.fill.ensures.same none.0 none.1

pub slice_bounds-head-end : goal.slice_bounds-head-end
slice_bounds-head-end g c =
    let there = when_full c.in_ok-fill.field-0 _ _ c.in_ok-fill.ensures.filled c.if-not-branch.false in
    let same : length c.bytes.result.now ≡ length c.fill.new.self = ap length c.bytes.ensures in
    let enough : 24 ≤ length c.bytes.result.now = omega (arith, there, same) in
    omega (arith, enough, length-take 24 c.bytes.result.now)

pub returns-clause-order : goal.returns-clause-order
returns-clause-order g c =
    let there = when_full c.in_ok-fill.field-0 _ _ c.in_ok-fill.ensures.filled c.if-not-branch.false in
    order_there _ c.fill.new.self c.skip.new.self (g.S.Source.left c.fill.new.source) c.read_head-order.result c.fill.ensures.same there
    (c.read_head-order.ensures ∙ ap (λ (l : List ℕ). head_at (take 24 l)) c.bytes.ensures) c.skip.ensures
