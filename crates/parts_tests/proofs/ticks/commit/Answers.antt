use Rattle.parts_tests.proofs.ticks.commit.Goals as goal

pub commit_tick-requires : goal.commit_tick-requires
commit_tick-requires c = record { work = (c.requires.0, c.requires.1, c.requires.2.work_is) }

pub returns : goal.returns
returns c = λ events stands is. c.commit_tick.ensures.stands events stands is.work_is
