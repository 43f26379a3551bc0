use Rattle.std.proofs.Common.{None, ap, ◌∙◌}
use Rattle.tick_core.specs.{with_waiting, with_wanted}
use Rattle.tick_core.proofs.Piecewise.{none_wait}
use Rattle.tick_core.proofs.Spent.{first_none, first_is}
use Rattle.tick_core.proofs.repairs.Repairs.drop_first.Goals as goal

pub returns-in-empty-clause-first : goal.returns-in-empty-clause-first
returns-in-empty-clause-first c = first_none c.args._holding.now c.args.pending.now (with_waiting c.args.waiting c.args.self.now) c.in-empty.len_below

pub returns-in_ok-drop_gone-in-len1-up-clause-first : goal.returns-in_ok-drop_gone-in-len1-up-clause-first
returns-in_ok-drop_gone-in-len1-up-clause-first c =
    none_wait c.drop_gone.new.self
    ∙ first_is c.args._holding.now c.args.pending.now c.gone-item.result (with_waiting c.args.waiting c.args.self.now) c.drop_gone.new.self c.in-len1-up.len_at_least c.gone-item.is c.requires.gone
    (c.in_ok-drop_gone-in-len1-up.ensures ∙ ap (with_wanted c.gone-item.result None) c.in_ok-wait_all-in-len1-up.ensures)
