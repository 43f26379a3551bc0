use Rattle.std.proofs.Common.{◌++◌, drop}
use Rattle.std.specs.List.{flat_map}
use Rattle.rams_replay.specs.{at_text}
use Rattle.trace_loop.proofs.Writing.{IsWriting}
use Rattle.rams_replay.proofs.writer.write_all.Given as goal

abbrev pub invariant-loop-at : goal.invariant-loop-at
invariant-loop-at g l =
    IsWriting (g.K.Sink.held l.fn.sink) (g.K.Sink.held l.sink) (g.K.Sink.faults l.fn.sink) (g.K.Sink.faults l.sink) (g.K.Sink.is_steady l.fn.sink) (g.K.Sink.is_steady l.sink)
    (l.fn.writer.gather ++ flat_map (at_text l.hub l.event) l.all) l.writer.gather (flat_map (at_text l.hub l.event) (drop l.at-index l.all))
