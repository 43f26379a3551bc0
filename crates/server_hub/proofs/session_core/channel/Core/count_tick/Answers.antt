use Rattle.std.proofs.Common.{ap, sym, ◌∙◌, subst}
use Rattle.tick_draft.specs.{sums_of}
use Rattle.server_hub.specs.session_core.{AreFew}
use Rattle.server_hub.proofs.session_core.TickSums.{work_few, work_small}
use Rattle.server_hub.proofs.session_core.channel.Core.count_tick.Goals as goal

pub sums_of-sums-requires : goal.sums_of-sums-requires
sums_of-sums-requires c =
    let core = c.self.invariant in
    work_small c.self.inside.parts core.events c.in_ok-work.work c.deref.result.now core.stands (c.in_ok-work.ensures.stands core.events core.stands) c.deref.ensures.value

pub returns-clause-few : goal.returns-clause-few
returns-clause-few c =
    let core = c.self.invariant in
    subst AreFew (sym (c.sums_of-sums.ensures ∙ ap sums_of c.deref.ensures.value)) (work_few c.self.inside.parts core.events c.in_ok-work.work core.stands (c.in_ok-work.ensures.stands core.events core.stands))
