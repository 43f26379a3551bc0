use Rattle.std.proofs.Common.{◌∷◌, ◌≡◌, ◌+◌, length, arith}
use Rattle.server_tests.proofs.row.expect.Goals as goal

pub loop-given-init : goal.loop-given-init
loop-given-init g c = (c.requires.0, c.requires.1, omega (arith, c.requires.2))

pub answer_of-answer-requires : goal.answer_of-answer-requires
answer_of-answer-requires g c = let i = c.loop-given.invariant in (i.0, i.1, omega (arith, i.2))

pub loop-given-preserved : goal.loop-given-preserved
loop-given-preserved g c =
    let i = c.loop-given.invariant in
    (c.in_ok-event.event ∷ i.0, c.in-Ok.ensures i.0 i.1, omega (arith, i.2))
