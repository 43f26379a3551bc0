use Rattle.trace_loop.proofs.journal_book.Heard.{events_are_few}
use Rattle.trace_loop.proofs.journal_book.Spelled.{events_are_spelled}
use Rattle.trace_loop.proofs.journal_book.Turns.{heard_can_come, turns_make_journals}
use Rattle.trace_loop.proofs.journal_book.laws.turns_make_journals.Goals as goal

pub returns-clause-heard : goal.returns-clause-heard
returns-clause-heard c = heard_can_come

pub returns-clause-spelled : goal.returns-clause-spelled
returns-clause-spelled c = events_are_spelled

pub returns-clause-few : goal.returns-clause-few
returns-clause-few c = events_are_few

pub returns-clause-journal : goal.returns-clause-journal
returns-clause-journal c = turns_make_journals c.heads_open_new_channels.ensures.new
