use Rattle.trace_loop.proofs.journal_book.Served.{journals_replay, fronts_replay}
use Rattle.trace_loop.proofs.journal_book.laws.journals_replay.Goals as goal

pub returns-clause-replay : goal.returns-clause-replay
returns-clause-replay c = journals_replay

pub returns-clause-fronts : goal.returns-clause-fronts
returns-clause-fronts c = fronts_replay
