use Rattle.std.proofs.Common.{List, ℕ, ◌++◌, ◌+◌, length, IfErr, OnOk, sym, subst}
use Rattle.line_io.specs.Passes.{Passes}
use Rattle.trace_loop.specs.declared.turn.Turn.{Turn}
use Rattle.trace_loop.specs.{OnlyMemoryStops, StopsIn, written}
use Rattle.trace_loop.proofs.Writing.{written_last}
use Rattle.trace_loop.proofs.writer.write_turn.Goals as goal

pub returns-in-Said-clause-front : goal.returns-in-Said-clause-front
returns-in-Said-clause-front g c =
    let call = c.write_answer in
    subst (λ (t : Turn _). IfErr call.result (StopsIn (g.K.Sink.held c.args.sink.now) (g.K.Sink.held call.new.sink) (c.args.writer.now.gather ++ written (g.V.TraceServer.lines c.args.server.now) c.args.number t) call.new.writer.gather))
    (sym c.in-Said.is) call.ensures.front

pub returns-in_default : goal.returns-in_default
returns-in_default g c =
    let call = c.write_last in
    let waits = c.args.writer.now.gather in
    let held = g.K.Sink.held c.args.sink.now in
    let holds = g.K.Sink.held call.new.sink in
    let same = written_last (g.V.TraceServer.lines c.args.server.now) c.args.number c.args.turn.now c.in_default.not-Said in
    record {
      all = subst (λ (text : List ℕ). OnOk call.result (Passes held holds (waits ++ text) call.new.writer.gather)) same call.ensures.all;
      front = subst (λ (text : List ℕ). IfErr call.result (StopsIn held holds (waits ++ text) call.new.writer.gather)) same call.ensures.front;
      cause = call.ensures.cause;
      steady = subst (λ (text : List ℕ). (room : ℕ) → g.K.Sink.is_steady c.args.sink.now (length waits + length text + room)
          → OnlyMemoryStops call.result (g.K.Sink.is_steady call.new.sink (length call.new.writer.gather + room))) same call.ensures.steady;
    }
