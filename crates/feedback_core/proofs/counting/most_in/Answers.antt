-- What the packets of a datagram that frames have, or its fault.
use Rattle.std.proofs.Common.{length, ap, sym, ◌∙◌, arith}
use Rattle.wire_packets.specs.rtcp_frame.{packets_left}
use Rattle.feedback_core.specs.{most_notes_of, most_orders_of}
use Rattle.feedback_core.specs.Counting.{most_notes_in, most_orders_in}
use Rattle.feedback_core.proofs.Framed.{most_framed, most_is_small}
use Rattle.feedback_core.proofs.counting.most_in.Goals as goal

pub most_of_packets-requires : goal.most_of_packets-requires
most_of_packets-requires c =
    let few = most_framed c.args.datagram.now (packets_left c.in-Ok.packets) c.in-Ok.ensures.ok in omega (arith, few, most_is_small (length c.args.datagram.now), c.requires)

pub returns-in-Ok-clause-notes : goal.returns-in-Ok-clause-notes
unfolding most_notes_in
returns-in-Ok-clause-notes c = c.most_of_packets.ensures.notes ∙ sym (ap most_notes_of c.in-Ok.ensures.ok)

pub returns-in-Ok-clause-orders : goal.returns-in-Ok-clause-orders
unfolding most_orders_in
returns-in-Ok-clause-orders c = c.most_of_packets.ensures.orders ∙ sym (ap most_orders_of c.in-Ok.ensures.ok)

pub returns-in-Err-clause-notes : goal.returns-in-Err-clause-notes
unfolding most_notes_in
returns-in-Err-clause-notes c = sym (ap most_notes_of c.in-Err.ensures.err)

pub returns-in-Err-clause-orders : goal.returns-in-Err-clause-orders
unfolding most_orders_in
returns-in-Err-clause-orders c = sym (ap most_orders_of c.in-Err.ensures.err)
