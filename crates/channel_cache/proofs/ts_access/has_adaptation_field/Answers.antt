use Rattle.channel_cache.proofs.ts_access.Bits.{bit_by_quotient}
use Rattle.channel_cache.proofs.ts_access.has_adaptation_field.Goals as goal

pub returns : goal.returns
returns c = bit_by_quotient c.args.control 5
