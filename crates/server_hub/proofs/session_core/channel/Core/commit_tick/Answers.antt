use Rattle.std.specs.Prelude.{◌∷◌}
use Rattle.rams_model.specs.declared.Event.TheVariants.{Tick}
use Rattle.server_hub.proofs.session_core.Planned.{of_core, core_bounded}
use Rattle.server_hub.proofs.session_core.channel.Core.commit_tick.Goals as goal

pub invariant_of-self : goal.invariant_of-self
invariant_of-self c =
    let core = c.self.invariant in
    record { events = Tick ∷ core.events; stands = c.commit_tick.ensures.stands core.events core.stands (of_core _ _ core c.self.view_is c.args.plan c.requires.plan).work_is }

pub returns-clause-few : goal.returns-clause-few
returns-clause-few c = (core_bounded _ _ c.self.invariant c.self.view_is c.args.plan c.requires.plan).few

pub returns-clause-short : goal.returns-clause-short
returns-clause-short c = (core_bounded _ _ c.self.invariant c.self.view_is c.args.plan c.requires.plan).short
