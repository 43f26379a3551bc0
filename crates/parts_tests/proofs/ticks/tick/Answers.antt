use Rattle.parts_tests.proofs.ticks.tick.Goals as goal

pub returns : goal.returns
returns c = λ events stands. c.commit.ensures events stands (c.in-Ok.ensures.stands events stands)
