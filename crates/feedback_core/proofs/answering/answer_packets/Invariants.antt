-- The packets so far are answered.
use Rattle.std.proofs.Common.{◌≡◌, ◌+◌, ◌≤◌, length}
use Rattle.std.specs.Prelude.{max}
use Rattle.wire_packets.specs.rtcp_frame.{packets_left}
use Rattle.feedback_core.specs.{most_notes, most_orders, told_by, answered_of, IsFresh, IsPage, IsSameDesk, IsReadyDesk, Holds, ServesAt}
use Rattle.feedback_core.proofs.Turns.{IsPartway}
use Rattle.feedback_core.proofs.answering.answer_packets.Given as goal

abbrev pub invariant-loop-packet : goal.invariant-loop-packet
invariant-loop-packet l = record {
  can_next : (goal.iterator-loop-packet).can_next l.packet-iterator;
  is_finite : (goal.iterator-loop-packet).is_finite l.packet-iterator;
  same_queue : l.desk.queue.ghost_name ≡ l.fn.desk.queue.ghost_name;
  same : IsSameDesk l.fn.desk l.desk;
  ready : IsReadyDesk l.desk;
  fresh : IsFresh l.desk.page;
  room : length l.desk.page.notes.items + most_notes (packets_left l.packet-iterator) ≤ l.desk.page.notes.room;
  few : length l.desk.page.notes.items + most_notes (packets_left l.packet-iterator) ≤ length l.fn.desk.page.notes.items + most_notes (packets_left l.fn.packets);
  told : max (told_by l.desk.page) (most_orders (packets_left l.packet-iterator)) ≤ max (told_by l.fn.desk.page) (most_orders (packets_left l.fn.packets));
  answers : ServesAt l.fn.desk.config.now (Holds l.fn.desk.config.now l.fn.desk.cache.now.held) l.fn.desk.visitor l.fn.desk.queue.now (λ before history.
      IsPage l.fn.desk.config.now l.fn.desk.visitor.client history l.fn.desk.page
      → IsPartway l.fn.desk.config.now l.fn.desk.cache.now.held l.fn.desk.visitor.client before history (answered_of l.fn.desk.page.is_due (packets_left l.fn.packets)) l.desk.page.is_due
      (packets_left l.packet-iterator) l.desk.queue.now l.desk.visitor l.desk.page);
}
