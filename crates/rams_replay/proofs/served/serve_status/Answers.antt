use Rattle.std.proofs.Common.{sym, subst}
use Rattle.rams_model.specs.declared.Status.{Status}
use Rattle.serve_loop.specs.{served_text}
use Rattle.rams_replay.specs.{HasServed, IsOrLacksMemory, no_room}
use Rattle.rams_replay.proofs.Serving.{has_served, or_lacks_memory}
use Rattle.rams_replay.proofs.served.serve_status.Goals as goal

pub returns-clause-served : goal.returns-clause-served
returns-clause-served g c = λ given is.
    subst (λ (s : Status). HasServed given (g.K.Sink.held c.args.sink.now) (g.K.Sink.held c.serve.new.sink) (g.W.Wire.sent c.args.wire.now) (g.W.Wire.sent c.serve.new.wire) (g.W.Wire.arrivals c.serve.new.wire) s) (sym c.status_of.ensures)
    (has_served given (g.K.Sink.held c.args.sink.now) (g.K.Sink.held c.serve.new.sink) (g.W.Wire.sent c.args.wire.now) (g.W.Wire.sent c.serve.new.wire) (g.W.Wire.arrivals c.serve.new.wire) c.serve.result c.serve.ensures.status
    (c.serve.ensures.ended given is) (c.serve.ensures.stopped given is))

pub returns-clause-whole : goal.returns-clause-whole
returns-clause-whole g c = λ given is steady room.
    subst (λ (s : Status). IsOrLacksMemory (served_text given).status s) (sym c.status_of.ensures)
    (or_lacks_memory given (g.K.Sink.held c.args.sink.now) (g.K.Sink.held c.serve.new.sink) (g.W.Wire.sent c.args.wire.now) (g.W.Wire.sent c.serve.new.wire) (g.W.Wire.arrivals c.serve.new.wire) _ c.serve.result c.serve.ensures.status
    (c.serve.ensures.ended given is) (c.serve.ensures.steady given no_room is steady room))
