use Rattle.takeover.proofs.standby.standby_book.TakingOver.{taken_over}
use Rattle.takeover.proofs.standby.standby_book.laws.journals_are_taken_over.Goals as goal

pub returns : goal.returns
returns c = λ bytes has. taken_over c.journals_grow.ensures c.journals_replay.ensures.replay bytes has
