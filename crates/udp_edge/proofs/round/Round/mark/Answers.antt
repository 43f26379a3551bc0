use Rattle.std.specs.Int.{w128}
use Rattle.std.proofs.lemmas.Nat.Bits.{bit_at_set_same, bit_at_set_other}
use Rattle.udp_edge.proofs.round.Round.mark.Goals as goal

pub returns-clause-marked : goal.returns-clause-marked
returns-clause-marked c =
    record {
      changed = bit_at_set_same w128 c.args.self.now.ready c.args.place c.requires;
      others = λ other _ differs. bit_at_set_other w128 c.args.self.now.ready c.args.place c.requires other differs;
    }
