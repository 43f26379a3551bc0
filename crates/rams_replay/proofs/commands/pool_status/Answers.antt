use Rattle.std.proofs.Common.{ℕ, sym, subst}
use Rattle.rams_replay.specs.{WritesPool}
use Rattle.rams_replay.proofs.Capturing.{no_wire}
use Rattle.rams_replay.proofs.Threading.{writes_pool}
use Rattle.rams_replay.proofs.commands.pool_status.Goals as goal

pub returns-clause-writes : goal.returns-clause-writes
returns-clause-writes g c =
    let call = c.write_pool in
    subst (λ (rate : ℕ). WritesPool rate (g.S.Source.left c.args.source.now) (g.S.Source.is_steady c.args.source.now) (g.K.Sink.held c.args.sink.now) (g.K.Sink.held call.new.sink) (g.K.Sink.is_steady c.args.sink.now) c.status_of.result) c.from.ensures
    (subst (WritesPool c.from.result (g.S.Source.left c.args.source.now) (g.S.Source.is_steady c.args.source.now) (g.K.Sink.held c.args.sink.now) (g.K.Sink.held call.new.sink) (g.K.Sink.is_steady c.args.sink.now)) (sym c.status_of.ensures)
    (writes_pool c.from.result (g.S.Source.is_steady c.args.source.now) (g.K.Sink.held c.args.sink.now) (g.K.Sink.held call.new.sink) (g.K.Sink.is_steady c.args.sink.now) (g.S.Source.left c.args.source.now)
    call.result (no_wire _ _ _ _ call.result call.ensures.cause) call.ensures.status call.ensures.text call.ensures.front call.ensures.steady))
