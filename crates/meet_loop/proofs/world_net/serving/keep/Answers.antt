use Rattle.std.proofs.Common.{ℕ, Option, sym, ◌∙◌, subst}
use Rattle.meet_loop.specs.world_net.{packet_in, Keeps}
use Rattle.meet_loop.proofs.world_net.serving.keep.Goals as goal

pub returns-in_ok-add : goal.returns-in_ok-add
returns-in_ok-add c =
    subst (λ (o : Option ℕ). Keeps c.args.id c.args.bytes.now o (packet_in c.args.packets.now) (packet_in c.add.new.self)) (sym c.in-Some.is ∙ c.number_taken.ensures) c.in_ok-add.ensures
