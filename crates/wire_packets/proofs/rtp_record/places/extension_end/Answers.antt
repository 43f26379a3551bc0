use Rattle.wire_packets.proofs.rtp_record.Reading.{ends_inside, ends_behind}
use Rattle.std.proofs.Common.{◌∙◌}
use Rattle.wire_packets.proofs.rtp_record.places.extension_end.Goals as goal

pub returns-then-behind-size : goal.returns-then-behind-size
returns-then-behind-size c =
    ends_inside c.args.bytes.now c.split_at.result.1.now c.args.at c.from.result c.requires.start c.split_at.ensures.back c.if-bytes-eq0.false (c.from.ensures ∙ c.short_at.ensures) c.if-behind-size.true

pub returns : goal.returns
returns c =
    ends_behind c.args.bytes.now c.split_at.result.1.now c.args.at c.from.result c.requires.start c.split_at.ensures.back c.if-bytes-eq0.false (c.from.ensures ∙ c.short_at.ensures) c.if-behind-size.false
