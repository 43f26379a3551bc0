use Rattle.trace_loop.proofs.journal_book.Channels.{one_answers, answer_in_order, runs_write_of_them}
use Rattle.trace_loop.proofs.journal_book.Orders.{answers_write_their_datagrams}
use Rattle.trace_loop.proofs.journal_book.laws.channels_answer_their_own.Goals as goal

pub returns-clause-one : goal.returns-clause-one
returns-clause-one c = one_answers

pub returns-clause-order : goal.returns-clause-order
returns-clause-order c = answer_in_order

pub returns-clause-texts : goal.returns-clause-texts
returns-clause-texts c = runs_write_of_them

pub returns-clause-datagrams : goal.returns-clause-datagrams
returns-clause-datagrams c = answers_write_their_datagrams
