-- Retransmissions, and what is restored of them (RFC 4588, 4).
use Rattle.std.specs.Prelude.{◌≡◌, ℕ, ◌≤◌, ◌<◌, ◌^◌, length, Ok}
use Rattle.rams_model.specs.Formats.{Packet, spelling, stripped, retransmission, IsPacket, packet_at, original, original_number}

-- A packet that was read of a retransmission of p: it brings the number and the bytes of p.
pub record Brings (p r : Packet) : Type 0 where
  pub long : 2 ≤ length r.payload
  pub number : original_number r ≡ p.sequence
  pub text : spelling (original r p.payload_type) ≡ stripped p

-- The retransmission of a packet is read as one packet, which brings the number and the bytes of the other.
abbrev pub RestoringGivesTheOriginal : Type 0
RestoringGivesTheOriginal =
    (p : Packet) (rtx seq : ℕ) → IsPacket p → rtx < 128 → seq < 2 ^ 16 → (r : Packet) × (packet_at (retransmission p rtx seq) ≡ Ok r) × Brings p r
