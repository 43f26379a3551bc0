-- The packets of a datagram.
use Rattle.std.specs.Prelude.{ℕ, List, Result}
use Rattle.rams_model.specs.declared.FrameFault.{FrameFault}
use Rattle.rams_model.specs.Formats.{pieces_of, Framed, packet_format}

-- the packets that the bytes are, none of them too
unfoldable pub packets_in : List ℕ → Result (List Framed) FrameFault
packets_in bytes = pieces_of packet_format bytes
