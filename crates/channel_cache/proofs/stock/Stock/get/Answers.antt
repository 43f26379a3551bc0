use Rattle.std.proofs.Common.{◌==◌}
use Rattle.channel_cache.specs.packet_ring.{packet_of}
use Rattle.channel_cache.proofs.Wholes.{found_whole, lent_whole}
use Rattle.channel_cache.proofs.stock.Stock.get.Goals as goal

pub returns-clause-whole : goal.returns-clause-whole
returns-clause-whole c =
    let held = c.self.inside.ring.held in
    lent_whole c.get.result (packet_of c.args.n held) c.get.ensures.value (found_whole (λ h. h.n == c.args.n) held c.self.invariant.whole)
