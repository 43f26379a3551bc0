use Rattle.client_table.proofs.Timing.{added_waiting}
use Rattle.client_table.proofs.due.add_pair.Goals as goal

pub returns-clause-waiting : goal.returns-clause-waiting
returns-clause-waiting c now later = added_waiting c.insert.result now (c.args.tick, c.args.client) c.args.pairs.now c.insert.new.self c.insert.ensures.keys c.insert.ensures.err later
