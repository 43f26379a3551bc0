-- Packets as they are held.
use Rattle.std.specs.Prelude.{◌≡◌, ℕ, ◌≤◌, List, [], ◌∷◌, length, Ok}
use Rattle.rams_model.specs.declared.{Held.Held, wire.TheConstants.MOST_PACKET}
use Rattle.rams_model.specs.Formats.{Packet, wire_size, packet_at}

-- The bytes are an RTP packet without padding (RFC 3550, 5.1), at most 1,470 of them.
pub record IsBare (bytes : List ℕ) : Type 0 where
  pub packet : Packet
  pub read : packet_at bytes ≡ Ok packet
  pub unpadded : packet.padding ≡ []
  pub short : length bytes ≤ MOST_PACKET

-- so are those of a held packet, which is counted with its size on the wire
pub record IsWhole (h : Held) : Type 0 where
  pub bare : IsBare h.packet
  pub wire : h.wire ≡ wire_size h.packet

abbrev pub AreWhole : List Held → Type 0
AreWhole [] = Unit {0}
AreWhole (h ∷ hs) = IsWhole h × AreWhole hs
