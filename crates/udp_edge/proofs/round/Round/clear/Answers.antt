use Rattle.std.specs.Int.{w128}
use Rattle.std.proofs.lemmas.Nat.Bits.{bit_at_clear_same, bit_at_clear_other}
use Rattle.udp_edge.proofs.round.Round.clear.Goals as goal

pub returns-clause-cleared : goal.returns-clause-cleared
returns-clause-cleared c =
    record {
      changed = bit_at_clear_same w128 c.args.self.now.ready c.args.place c.requires;
      others = bit_at_clear_other w128 c.args.self.now.ready c.args.place c.requires;
    }
