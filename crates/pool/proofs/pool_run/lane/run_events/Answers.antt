use Rattle.pool.proofs.pool_run.Sizing.{short_answer}
use Rattle.pool.proofs.pool_run.lane.run_events.Goals as goal

pub claim_answer-requires-clause-short : goal.claim_answer-requires-clause-short
claim_answer-requires-clause-short g c =
    short_answer c.take.new.self.settings c.loop-event.book.entries 0 c.in-Some.event c.in_ok-answer.answer c.take.new.self.entries c.in_ok-answer.ensures.added c.in_ok-answer.ensures.legal
