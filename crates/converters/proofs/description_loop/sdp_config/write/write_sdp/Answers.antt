use Rattle.std.proofs.Common.{◌+◌, ◌∙◌, ap, arith}
use Rattle.converters.specs.description_loop.sdp_config.{description, session_lines, media_lines, offer_lines, repair_lines, sdp_at}
use Rattle.converters.proofs.description_loop.sdp_config.Joined.{four}
use Rattle.converters.proofs.description_loop.sdp_config.ReadBack.{read_back}
use Rattle.converters.proofs.description_loop.sdp_config.write.write_sdp.Goals as goal

pub returns-clause-text : goal.returns-clause-text
unfolding description
returns-clause-text c =
    let ch = c.args.channel.now in
    four c.new-text.result.items c.put_session.new.text.items c.put_media.new.text.items c.put_offers.new.text.items c.put_repairs.new.text.items
    (session_lines ch.id) (media_lines c.args.port ch.pt) (offer_lines ch.pt ch.ssrc) (repair_lines (c.args.port + 1) ch.rtx ch.pt)
    c.new-text.ensures.items c.in_ok-put_session.ensures c.in_ok-put_media.ensures c.in_ok-put_offers.ensures c.in_ok-put_repairs.ensures

pub returns-clause-read : goal.returns-clause-read
returns-clause-read c =
    ap sdp_at (returns-clause-text c) ∙ read_back c.args.channel.now c.args.port (record { id = omega arith; ssrc = omega arith; pt = omega arith; rtx = omega arith; apart = c.requires.apart; near = omega arith })
