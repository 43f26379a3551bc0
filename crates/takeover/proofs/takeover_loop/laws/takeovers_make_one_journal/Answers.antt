use Rattle.takeover.proofs.takeover_loop.OneJournal.{one_journal}
use Rattle.takeover.proofs.takeover_loop.laws.takeovers_make_one_journal.Goals as goal

pub returns : goal.returns
returns c = λ g well arrive few. one_journal c.journals_are_taken_over.ensures c.turns_make_journals.ensures.journal g well arrive few
