use Rattle.std.proofs.Common.{subst}
use Rattle.rams_model.specs.Service.{Wanted, wanted}
use Rattle.tick_core.specs.{FitsNowhere}
use Rattle.tick_core.proofs.Spent.{none_fits_client}
use Rattle.tick_core.proofs.repairs.Repairs.repair.Goals as goal

pub pass-requires : goal.pass-requires
pass-requires c =
    subst (λ (w : Wanted). FitsNowhere c.args.holding.now w c.args.self.now) c.wanted.view_is
    (none_fits_client c.args.holding.now (wanted c.wanted.inside.client c.wanted.inside.n) c.args.self.now c.least_wire.result c.least_wire.ensures (c.has_less.ensures c.if-has_less.true))
