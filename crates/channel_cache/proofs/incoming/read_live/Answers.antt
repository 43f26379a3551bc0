use Rattle.std.proofs.Common.{arith}
use Rattle.channel_cache.proofs.Lengths.{stripped_fits}
use Rattle.channel_cache.proofs.incoming.read_live.Goals as goal

pub returns-clause-lawful : goal.returns-clause-lawful
returns-clause-lawful c = (c.in-Ok.ensures.found.0, omega (arith, stripped_fits c.in-Ok.packet c.args.bytes.now c.in-Ok.ensures.found.1))
