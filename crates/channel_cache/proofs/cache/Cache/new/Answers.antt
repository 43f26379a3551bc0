use Rattle.std.proofs.Common.{[], subst}
use Rattle.reckoning.specs.ext_seq.Numbers as numbers
use Rattle.channel_cache.specs.{StandsFor}
use Rattle.channel_cache.specs.Seen.{Seen}
use Rattle.channel_cache.proofs.Shown.{new_stands, new_is}
use Rattle.channel_cache.proofs.cache.Cache.new.Goals as goal

pub returns-clause-stands : goal.returns-clause-stands
returns-clause-stands c =
    let s = c.args.config.now in
    let stood = subst (λ (n : numbers.Seen). numbers.StandsFor n s.channel.window []) c.new.ensures.value (c.new.ensures.stands s.channel.window) in
    subst (λ (v : Seen). StandsFor v []) (new_is s c.channel-channel.result.now c.new.result c.in_ok-new.field-0 c.channel-channel.ensures.value c.new.ensures.value c.in_ok-new.ensures) (new_stands s stood)
