use Rattle.std.proofs.Common.{sym, subst, arith}
use Rattle.server_hub.specs.{StandsFor}
use Rattle.server_hub.specs.Seen.{Seen}
use Rattle.server_hub.proofs.JoinTimes.{all_keep}
use Rattle.server_hub.proofs.Keeping.{written, kept, settings_kept, ticked}
use Rattle.server_hub.proofs.hub.Hub.tick.Goals as goal

pub invariant_of-self-2 : goal.invariant_of-self-2
invariant_of-self-2 c =
    let new = c.tick_all.new.cores in
    let ticks = ticked _ _ new _ c.deref_mut.ensures.value c.in_ok-answers.ensures.ticks in
    rw (written c.self.inside.cores.len new c.self.inside.cores.items (omega (arith, c.tick_all.auto.cores))) (kept _ _ _ _ new c.self.invariant ticks.keep)

pub returns-clause-stands : goal.returns-clause-stands
returns-clause-stands c = λ channels s.
    let new = c.tick_all.new.cores in
    let ticks = ticked _ _ new _ c.deref_mut.ensures.value c.in_ok-answers.ensures.ticks in
    rw (written c.self.inside.cores.len new c.self.inside.cores.items (omega (arith, c.tick_all.auto.cores)))
    (ticks.stands channels (subst (λ (v : Seen). StandsFor v channels) (sym c.self.view_is) s))

pub returns-clause-settings : goal.returns-clause-settings
returns-clause-settings c =
    let new = c.tick_all.new.cores in
    let ticks = ticked _ _ new _ c.deref_mut.ensures.value c.in_ok-answers.ensures.ticks in
    rw (← c.self.view_is, written c.self.inside.cores.len new c.self.inside.cores.items (omega (arith, c.tick_all.auto.cores))) (settings_kept _ new ticks.keep)

pub returns-clause-lawful : goal.returns-clause-lawful
returns-clause-lawful c =
    let new = c.tick_all.new.cores in
    let ticks = ticked _ _ new _ c.deref_mut.ensures.value c.in_ok-answers.ensures.ticks in
    rw (written c.self.inside.cores.len new c.self.inside.cores.items (omega (arith, c.tick_all.auto.cores))) ((kept _ _ _ _ new c.self.invariant ticks.keep).lawful)

pub returns-clause-join_times : goal.returns-clause-join_times
returns-clause-join_times c = λ channels s. all_keep channels
