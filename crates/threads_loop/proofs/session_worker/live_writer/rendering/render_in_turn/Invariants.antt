use Rattle.std.proofs.Common.{◌≡◌, map, take}
use Rattle.threads_loop.specs.session_worker.live_writer.{datagrams_of}
use Rattle.threads_loop.proofs.session_worker.live_writer.rendering.render_in_turn.Given as goal

abbrev pub invariant-loop-answer : goal.invariant-loop-answer
invariant-loop-answer g l = map (λ d. d.items) l.all.items ≡ map (datagrams_of l.config) (take l.answer-index l.answers)
