use Rattle.std.proofs.Common.{sym, subst}
use Rattle.trace_loop.specs.trace_book.{run}
use Rattle.rams_replay.specs.{Writes}
use Rattle.rams_replay.proofs.Ending.{writes}
use Rattle.rams_replay.proofs.commands.book_status.Goals as goal

pub returns-clause-writes : goal.returns-clause-writes
returns-clause-writes g c =
    let call = c.write_text in
    subst (Writes run (g.S.Source.left c.args.source.now) (g.S.Source.left call.new.source) (g.S.Source.is_steady c.args.source.now) (g.K.Sink.held c.args.sink.now) (g.K.Sink.held call.new.sink) (g.K.Sink.faults c.args.sink.now) (g.K.Sink.faults call.new.sink) (g.K.Sink.is_steady c.args.sink.now)) (sym c.status_of.ensures)
    (writes run (g.S.Source.left call.new.source) (g.S.Source.is_steady c.args.source.now) (g.K.Sink.held c.args.sink.now) (g.K.Sink.held call.new.sink) (g.K.Sink.faults c.args.sink.now) (g.K.Sink.faults call.new.sink) (g.K.Sink.is_steady c.args.sink.now) (g.S.Source.left c.args.source.now)
    call.result call.ensures.status call.ensures.text call.ensures.front call.ensures.read call.ensures.steady)
