use Rattle.std.proofs.Common.{sym, subst}
use Rattle.rams_model.specs.declared.Status.{Status}
use Rattle.takeover.specs.takeover_loop.{taken_text}
use Rattle.rams_replay.specs.{HasTakenOver, IsOrLacksMemory, no_room}
use Rattle.rams_replay.proofs.TakingOver.{has_taken_over, or_lacks_memory}
use Rattle.rams_replay.proofs.served.takeover_status.Goals as goal

pub returns-clause-taken : goal.returns-clause-taken
returns-clause-taken g c = λ given is.
    subst (λ (s : Status). HasTakenOver given (g.K.Sink.held c.args.sink.now) (g.K.Sink.held c.take_over.new.sink) (g.W.Wire.sent c.args.wire.now) (g.W.Wire.sent c.take_over.new.wire) (g.W.Wire.arrivals c.take_over.new.wire) s) (sym c.status_of.ensures)
    (has_taken_over given (g.K.Sink.held c.args.sink.now) (g.K.Sink.held c.take_over.new.sink) (g.W.Wire.sent c.args.wire.now) (g.W.Wire.sent c.take_over.new.wire) (g.W.Wire.arrivals c.take_over.new.wire) c.take_over.result c.take_over.ensures.status
    (c.take_over.ensures.ended given is) (c.take_over.ensures.stopped given is))

pub returns-clause-whole : goal.returns-clause-whole
returns-clause-whole g c = λ given is steady room.
    subst (λ (s : Status). IsOrLacksMemory (taken_text given).status s) (sym c.status_of.ensures)
    (or_lacks_memory given (g.K.Sink.held c.args.sink.now) (g.K.Sink.held c.take_over.new.sink) (g.W.Wire.sent c.args.wire.now) (g.W.Wire.sent c.take_over.new.wire) (g.W.Wire.arrivals c.take_over.new.wire) _ c.take_over.result c.take_over.ensures.status
    (c.take_over.ensures.ended given is) (c.take_over.ensures.steady given no_room is steady room))
