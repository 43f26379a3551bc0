-- The numbers so far are answered.
use Rattle.std.proofs.Common.{◌≡◌, ◌+◌, ◌≤◌, length}
use Rattle.wire_packets.specs.rtcp_feedback.{numbers_left}
use Rattle.feedback_core.specs.{IsReadyDesk, IsSameDesk, IsHeard, ServesAt}
use Rattle.feedback_core.proofs.Writing.{IsUnderWay}
use Rattle.feedback_core.proofs.nack.answer_numbers.Given as goal

abbrev pub invariant-loop-low : goal.invariant-loop-low
invariant-loop-low l = record {
  can_next : (goal.iterator-loop-low).can_next l.low-iterator;
  is_finite : (goal.iterator-loop-low).is_finite l.low-iterator;
  ready : IsReadyDesk l.desk;
  same_queue : l.desk.queue.ghost_name ≡ l.fn.desk.queue.ghost_name;
  same : IsSameDesk l.fn.desk l.desk;
  page : l.desk.page ≡ record l.fn.desk.page { notes = l.desk.page.notes };
  room : length l.desk.page.notes.items + length (numbers_left l.low-iterator) ≤ l.desk.page.notes.room;
  few : length l.desk.page.notes.items + length (numbers_left l.low-iterator) ≤ length l.fn.desk.page.notes.items + length (numbers_left l.fn.numbers);
  kept : l.desk.page.notes.room ≡ l.fn.desk.page.notes.room;
  answers : ServesAt l.fn.desk.config.now (IsHeard l.fn.desk.config.now l.fn.desk.cache.now.held l.sender) l.fn.desk.visitor l.fn.desk.queue.now
      (λ before history. IsUnderWay l.fn.desk.config.now l.fn.desk.cache.now.held l.sender l.fn.desk.visitor.client before history (numbers_left l.fn.numbers) (numbers_left l.low-iterator)
      l.desk.queue.now l.desk.visitor l.fn.desk.page.notes.items l.desk.page.notes.items);
}
