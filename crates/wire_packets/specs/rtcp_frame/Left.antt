-- Packets that are still to come.
use Rattle.std.specs.Prelude.{List, []}
use Rattle.std.specs.Result.{result_unwrap_or}
use Rattle.rams_model.specs.Formats.{Framed}
use Rattle.wire_packets.specs.declared.rtcp_frame.iter.Packets.{Packets}
use Rattle.wire_packets.specs.rtcp_frame.Datagram.{packets_in}

abbrev pub packets_left : Packets → List Framed
packets_left ps = result_unwrap_or (packets_in ps.bytes.now) []
