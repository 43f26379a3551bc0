use Rattle.std.proofs.Common.{Option, ℕ, sym, subst}
use Rattle.server_hub.specs.{channel_of}
use Rattle.server_hub.specs.Served.{Served}
use Rattle.meet_loop.specs.world_net.{EndsSo}
use Rattle.meet_loop.proofs.world_net.Steps.{none_of, ends_so}
use Rattle.meet_loop.proofs.world_net.parts.Parts.end_of_source.Goals as goal

pub returns-in_err-config : goal.returns-in_err-config
returns-in_err-config c = λ channels k.
    subst (λ (o : Option ℕ). EndsSo o (channel_of c.args.id channels)) (sym c.from_residual.ensures)
    (none_of (λ (x : Served). x.settings) (channel_of c.args.id channels) (c.in_err-config.ensures.stands channels k))

pub returns : goal.returns
returns c = λ channels k.
    ends_so (channel_of c.args.id channels) c.in_ok-config.config.now c.hi.result (c.in_ok-config.ensures.stands channels k) c.channel-channel.ensures.lawful.ring_least (c.hi.ensures.stands channels k)
