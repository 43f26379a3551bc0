use Rattle.std.proofs.Common.{sym, subst, ◌∙◌}
use Rattle.rams_replay.specs.{WritesCapture}
use Rattle.rams_replay.proofs.Capturing.{is_done, no_wire, writes_capture}
use Rattle.rams_replay.proofs.commands.capture_status.Goals as goal

pub returns-clause-writes : goal.returns-clause-writes
returns-clause-writes g c =
    let call = c.write_capture in
    subst (WritesCapture c.args.port (g.S.Source.left c.args.source.now) (g.S.Source.left call.new.source) (g.S.Source.is_steady c.args.source.now) (g.K.Sink.held c.args.sink.now) (g.K.Sink.held call.new.sink) (g.K.Sink.faults c.args.sink.now) (g.K.Sink.faults call.new.sink) (g.K.Sink.is_steady c.args.sink.now)) (sym c.status_of.ensures)
    (writes_capture c.args.port (g.S.Source.left call.new.source) (g.S.Source.is_steady c.args.source.now) (g.K.Sink.held c.args.sink.now) (g.K.Sink.held call.new.sink) (g.K.Sink.faults c.args.sink.now) (g.K.Sink.faults call.new.sink) (g.K.Sink.is_steady c.args.sink.now) (g.S.Source.left c.args.source.now)
    call.result (no_wire _ _ _ _ call.result call.ensures.cause) call.ensures.status call.ensures.text call.ensures.journal call.ensures.front call.ensures.read call.ensures.steady)

pub returns-clause-ended : goal.returns-clause-ended
returns-clause-ended g c = λ done. c.write_capture.ensures.ended (is_done c.write_capture.result (sym c.status_of.ensures ∙ done))
