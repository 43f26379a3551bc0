use Rattle.channel_parts.proofs.Begun.{begun_stands}
use Rattle.channel_parts.proofs.parts.Parts.new.Goals as goal

pub returns-clause-stands : goal.returns-clause-stands
returns-clause-stands c =
    begun_stands c.args.config.now c.channel-channel.result.now c.in_ok-new.field-0 c.new-2.result c.in_ok-new-2.field-0 c.in_ok-new-3.field-0
    c.channel-channel.ensures.lawful c.channel-channel.ensures.value c.in_ok-new.ensures.value c.in_ok-new.ensures.stands c.new-2.ensures c.in_ok-new-2.ensures c.in_ok-new-3.ensures
