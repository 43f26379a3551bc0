use Rattle.channel_cache.proofs.ts_access.Bits.{bit_by_quotient}
use Rattle.channel_cache.proofs.ts_access.is_random_access.Goals as goal

pub returns : goal.returns
returns c = bit_by_quotient c.args.flags 6
