use Rattle.std.proofs.Common.{arith, ◌∙◌}
use Rattle.client_table.specs.{entry_at}
use Rattle.client_table.proofs.Shown.{shown_count, shown_rising}
use Rattle.client_table.proofs.table.Table.count.Goals as goal

pub overflow_cast-result : goal.overflow_cast-result
overflow_cast-result c = omega (arith, c.self.invariant.few, c.self.invariant.small, c.len.ensures.len)

pub returns-clause-value : goal.returns-clause-value
returns-clause-value c =
    c.len.ensures.len ∙ shown_count c.self.inside.most (entry_at c.self.inside.tick c.self.inside.entries.slots) c.self.inside.index.entries _ c.self.view_is c.self.invariant.entries

pub returns-clause-rising : goal.returns-clause-rising
returns-clause-rising c = shown_rising c.self.inside.most (entry_at c.self.inside.tick c.self.inside.entries.slots) c.self.inside.index.entries _ c.self.view_is c.self.invariant.entries c.self.invariant.rising
