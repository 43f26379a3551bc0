use Rattle.std.proofs.Common.{◌++◌, ◌∙◌, drop, ◌+◌, length, Result, sym, subst, arith}
use Rattle.std.proofs.lemmas.Result.{err_from_is_err_and}
use Rattle.server_hub.specs.{settings_of}
use Rattle.trace_loop.specs.declared.Stop.{Stop}
use Rattle.serve_loop.specs.{OnlyMemoryStops, bytes_of, at_datagrams, said_datagrams}
use Rattle.serve_loop.proofs.GoingOut.{Sends-next, Sends-end, answers-more, answers-past}
use Rattle.serve_loop.proofs.Rooms.{wire_parts, wire_none}
use Rattle.serve_loop.proofs.send.send_all.Goals as goal

pub returns-in_err-send_at-clause-front : goal.returns-in_err-send_at-clause-front
returns-in_err-send_at-clause-front g c =
    let all = settings_of c.args.hub.now in
    let more = answers-more c.loop-at.port all c.args.all.now c.loop-at.at-index c.at-item.result c.loop-at-test.true c.at-item.is in
    let front = c.send_at.ensures.front in
    (front.0 ++ said_datagrams (c.loop-at.port + 2) all (drop (c.loop-at.at-index + 1) c.args.all.now), Sends-next _ _ _ _ _ _ _ _ c.loop-at.invariant.0 more front.1)

pub returns-in_err-send_at-clause-steady : goal.returns-in_err-send_at-clause-steady
returns-in_err-send_at-clause-steady g c = λ bytes count h.
    let all = settings_of c.args.hub.now in
    let more = answers-more c.loop-at.port all c.args.all.now c.loop-at.at-index c.at-item.result c.loop-at-test.true c.at-item.is in
    let rest = said_datagrams (c.loop-at.port + 2) all (drop (c.loop-at.at-index + 1) c.args.all.now) in
    let room = wire_parts (g.W.Wire.is_steady c.loop-at.wire) _ (at_datagrams c.loop-at.port all c.at-item.result) rest bytes count more (c.loop-at.invariant.4 bytes count h) in
    let stop = c.in_err-send_at.ensures.steady (bytes_of rest + bytes) (length rest + count) room in
    let p = err_from_is_err_and c.from_residual.result c.from_residual.ensures.1 in
    subst (λ (r : Result (Unit {0}) Stop). OnlyMemoryStops r (g.W.Wire.is_steady c.send_at.new.wire bytes count)) (sym p.1) (p.2 ∙ stop)

pub loop-at-preserved : goal.loop-at-preserved
loop-at-preserved g c =
    let all = settings_of c.args.hub.now in
    let more = answers-more c.loop-at.port all c.args.all.now c.loop-at.at-index c.at-item.result c.loop-at-test.true c.at-item.is in
    let rest = said_datagrams (c.loop-at.port + 2) all (drop (c.loop-at.at-index + 1) c.args.all.now) in
    let port = c.loop-at.invariant.1 in
    let before = c.loop-at.invariant.3 in
    let now = c.send_at.ensures.cause.later in (
      Sends-next _ _ _ _ _ _ _ _ c.loop-at.invariant.0 more c.in_ok-send_at.ensures.all,
      omega arith,
      c.send_at.ensures.untaken ∙ c.loop-at.invariant.2,
      omega arith,
      λ bytes count h.
          c.in_ok-send_at.ensures.steady (bytes_of rest + bytes) (length rest + count) (wire_parts (g.W.Wire.is_steady c.loop-at.wire) _ (at_datagrams c.loop-at.port all c.at-item.result) rest bytes count more (c.loop-at.invariant.4 bytes count h)),
    )

pub returns-clause-all : goal.returns-clause-all
returns-clause-all g c = Sends-end _ _ _ _ c.loop-at.invariant.0 (answers-past _ _ _ _ c.loop-at-test.false)

pub returns-clause-steady : goal.returns-clause-steady
returns-clause-steady g c = λ bytes count h.
    wire_none (g.W.Wire.is_steady c.loop-at.wire) _ bytes count (answers-past _ _ _ _ c.loop-at-test.false) (c.loop-at.invariant.4 bytes count h)
