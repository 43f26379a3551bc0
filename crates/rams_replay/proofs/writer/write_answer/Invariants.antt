use Rattle.std.proofs.Common.{◌++◌, drop}
use Rattle.rams_model.specs.Texts.{answer_text, notes_text}
use Rattle.trace_loop.proofs.Writing.{IsWriting}
use Rattle.rams_replay.proofs.writer.write_answer.Given as goal

abbrev pub invariant-loop-note : goal.invariant-loop-note
invariant-loop-note g l =
    IsWriting (g.K.Sink.held l.fn.sink) (g.K.Sink.held l.sink) (g.K.Sink.faults l.fn.sink) (g.K.Sink.faults l.sink) (g.K.Sink.is_steady l.fn.sink) (g.K.Sink.is_steady l.sink)
    (l.fn.writer.gather ++ answer_text l.config l.event l.answer) l.writer.gather (notes_text l.config l.event (drop l.note-index l.note-items) l.orders)
