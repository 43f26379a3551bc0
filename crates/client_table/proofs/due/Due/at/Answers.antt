use Rattle.client_table.proofs.Ranged.{range_rises, range_has}
use Rattle.client_table.proofs.due.Due.at.Goals as goal

pub returns-clause-rising : goal.returns-clause-rising
returns-clause-rising c = range_rises c.args.tick c.args.self.now.pairs.keys c.range.result c.range.ensures.ordered (c.range.ensures.between tt)

pub returns-clause-all : goal.returns-clause-all
returns-clause-all c client has = range_has c.args.tick c.args.self.now.pairs c.range.result client (c.range.ensures.between tt) has
