-- The first RAMS-I of what is left is that of all.
use Rattle.std.proofs.Common.{◌≡◌}
use Rattle.rams_model.specs.Receiver.{first_info}
use Rattle.wire_packets.specs.rtcp_frame.{packets_left}
use Rattle.receiver_core.proofs.reading.first_info.Given as goal

abbrev pub invariant-loop-packet : goal.invariant-loop-packet
invariant-loop-packet l = record {
  can_next : (goal.iterator-loop-packet).can_next l.packet-iterator;
  is_finite : (goal.iterator-loop-packet).is_finite l.packet-iterator;
  same : first_info (packets_left l.packet-iterator) ≡ first_info (packets_left l.fn.packets);
}
