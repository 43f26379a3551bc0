-- RTP packets (RFC 3550, 5.1) and their retransmissions (RFC 4588, 4).
use Rattle.std.specs.Prelude.{ℕ, ◌+◌, ◌*◌, ◌/◌, ◌%◌, Bool, ◌&&◌, ◌==◌, nat_le, if◌then◌else◌, List, [], ◌∷◌, ◌++◌, length, drop, slice_index}
use Rattle.std.specs.Int.{w16, w32, to_be_bytes, from_be_bytes}
use Rattle.rams_model.specs.declared.wire.TheConstants.{RTX_OVERHEAD}

pub record Packet : Type 0 where
  pub marker : Bool
  pub payload_type : ℕ
  pub sequence : ℕ
  pub timestamp : ℕ
  pub ssrc : ℕ
  -- four bytes for each contributing source
  pub csrc : List ℕ
  -- with its own header of four bytes; empty where there is none
  pub extension : List ℕ
  pub payload : List ℕ
  -- its last byte counts its bytes; empty where there is none
  pub padding : List ℕ

-- 1 where there are bytes
abbrev pub flag : List ℕ → ℕ
flag [] = 0
flag (b ∷ bytes) = 1

--  0                   1                   2                   3
--  0 1 2 3 4 5 6 7 8 9 0 1 2 3 4 5 6 7 8 9 0 1 2 3 4 5 6 7 8 9 0 1
-- |V=2|P|X|  CC   |M|     PT      |       sequence number         |
-- |                           timestamp                           |
-- |                             SSRC                              |
unfoldable pub header : Packet → List ℕ
header p =
    (128 + 32 * flag p.padding + 16 * flag p.extension + length p.csrc / 4) ∷ ((if p.marker then 128 else 0) + p.payload_type) ∷
    (to_be_bytes w16 p.sequence ++ to_be_bytes w32 p.timestamp ++ to_be_bytes w32 p.ssrc)

unfoldable pub spelling : Packet → List ℕ
spelling p = header p ++ p.csrc ++ p.extension ++ p.payload ++ p.padding

-- the packet without its padding
abbrev pub stripped : Packet → List ℕ
stripped p = spelling (record p { padding = [] })

-- the bytes that the retransmission of a stripped packet takes on the wire
abbrev pub wire_size : List ℕ → ℕ
wire_size packet = length packet + RTX_OVERHEAD

-- the same packet under another type and number, its own number in front of its payload (RFC 4588, 4)
abbrev pub retransmission : Packet → ℕ → ℕ → List ℕ
retransmission p payload_type sequence =
    stripped (record p { payload_type = payload_type; sequence = sequence; payload = to_be_bytes w16 p.sequence ++ p.payload })

-- the bytes begin as a packet with a fixed header alone does: version 2, no padding, no extension, no contributing source
abbrev pub is_plain : List ℕ → Bool
is_plain bytes = nat_le 12 (length bytes) && slice_index bytes 0 == 128

-- the packet that plain bytes are
unfoldable pub packet_of : List ℕ → Packet
packet_of bytes = record {
  marker = slice_index bytes 1 / 128 == 1;
  payload_type = slice_index bytes 1 % 128;
  sequence = from_be_bytes w16 (drop 2 bytes);
  timestamp = from_be_bytes w32 (drop 4 bytes);
  ssrc = from_be_bytes w32 (drop 8 bytes);
  csrc = [];
  extension = [];
  payload = drop 12 bytes;
  padding = [];
}
