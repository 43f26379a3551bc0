-- A datagram that frames, or doesn't.
use Rattle.std.proofs.Common.{◌≡◌, length, ap, arith, ◌∙◌}
use Rattle.rams_model.specs.declared.Event.TheVariants.{Feedback}
use Rattle.rams_model.specs.Service.{Answered}
use Rattle.feedback_core.specs.{most_notes, most_orders, most_notes_of, most_orders_of, most_notes_for}
use Rattle.feedback_core.specs.Counting.{most_notes_in, most_orders_in}
use Rattle.feedback_core.proofs.Counts.{one_order}
use Rattle.feedback_core.proofs.Serving.{few_within}
use Rattle.wire_packets.specs.rtcp_frame.{packets_left}
use Rattle.feedback_core.proofs.Framed.{most_framed, most_is_small}
use Rattle.feedback_core.proofs.Closing.{stands_unframed, answer_unframed}
use Rattle.feedback_core.proofs.feedback.answer_feedback.Goals as goal

pub answer_framed-requires-clause-few : goal.answer_framed-requires-clause-few
answer_framed-requires-clause-few c =
    let few = most_framed c.args.datagram.now (packets_left c.in-Ok.packets) c.in-Ok.ensures.ok in
    omega (arith, few, most_is_small (length c.args.datagram.now), c.if-datagram-gt-LONGEST_DATAGRAM.false)

pub returns-else-datagram-gt-LONGEST_DATAGRAM-clause-few : goal.returns-else-datagram-gt-LONGEST_DATAGRAM-clause-few
returns-else-datagram-gt-LONGEST_DATAGRAM-clause-few c =
    let ps = packets_left c.in-Ok.packets in
    few_within c.answer_framed.result (most_notes ps) (most_orders ps) (most_notes_for (length c.args.datagram.now)) 1 (most_framed c.args.datagram.now ps c.in-Ok.ensures.ok) (one_order ps)
    c.answer_framed.ensures.few

pub returns-else-datagram-gt-LONGEST_DATAGRAM-clause-counted : goal.returns-else-datagram-gt-LONGEST_DATAGRAM-clause-counted
unfolding most_notes_in most_orders_in
returns-else-datagram-gt-LONGEST_DATAGRAM-clause-counted c =
    let bytes = c.args.datagram.now in
    let ps = packets_left c.in-Ok.packets in
    let notes : most_notes_in bytes ≡ most_notes ps = ap most_notes_of c.in-Ok.ensures.ok in
    let orders : most_orders_in bytes ≡ most_orders ps = ap most_orders_of c.in-Ok.ensures.ok in
    few_within c.answer_framed.result (most_notes ps) (most_orders ps) (most_notes_in bytes) (most_orders_in bytes) (omega (arith, notes)) (omega (arith, orders)) c.answer_framed.ensures.few

pub returns-in-Err-clause-counted : goal.returns-in-Err-clause-counted
unfolding most_notes_in
returns-in-Err-clause-counted c =
    let notes = ap (λ (a : Answered). length a.notes) c.one.ensures in
    let orders = ap (λ (a : Answered). length a.orders) c.one.ensures in
    let most : most_notes_in c.args.datagram.now ≡ 1 = ap most_notes_of c.in-Err.ensures.err in (omega (arith, notes, most), omega (arith, orders))

pub returns-in-Err-clause-stands : goal.returns-in-Err-clause-stands
returns-in-Err-clause-stands c = λ events st.
    let s = c.args.parts.now.config in
    let event = Feedback c.args.client c.args.datagram.now in (
      c.one.ensures ∙ answer_unframed s events c.args.client c.args.datagram.now c.in-Err.fault c.in-Err.ensures.err,
      stands_unframed c.args.parts.now events c.args.client c.args.datagram.now c.in-Err.fault st c.in-Err.ensures.err,
    )
