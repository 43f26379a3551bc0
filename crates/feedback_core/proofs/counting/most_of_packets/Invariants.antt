-- What the packets so far have, and those that are left, is what all have.
use Rattle.std.proofs.Common.{◌≡◌, ◌+◌}
use Rattle.std.specs.Prelude.{max}
use Rattle.wire_packets.specs.rtcp_frame.{packets_left}
use Rattle.feedback_core.specs.{most_notes, most_orders}
use Rattle.feedback_core.proofs.counting.most_of_packets.Given as goal

abbrev pub invariant-loop-packet : goal.invariant-loop-packet
invariant-loop-packet l = record {
  can_next : (goal.iterator-loop-packet).can_next l.packet-iterator;
  is_finite : (goal.iterator-loop-packet).is_finite l.packet-iterator;
  notes : l.most.notes + most_notes (packets_left l.packet-iterator) ≡ most_notes (packets_left l.fn.packets);
  orders : max l.most.orders (most_orders (packets_left l.packet-iterator)) ≡ most_orders (packets_left l.fn.packets);
}
