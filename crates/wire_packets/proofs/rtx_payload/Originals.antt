-- What is restored of a retransmission.
use Rattle.std.proofs.Common.{◌≡◌, ℕ, ◌<◌, ◌^◌, [], ◌++◌, refl, ap, arith, inl, Ok}
use Rattle.std.specs.Int.{w16, to_be_bytes, from_be_bytes}
use Rattle.std.proofs.lemmas.Nat.{from_be_bytes-to_be_bytes_2}
use Rattle.rams_model.specs.Formats.{Packet, stripped, retransmission, IsPacket, packet_at}
use Rattle.rams_model.proofs.RtpPackets.{read_so}
use Rattle.wire_packets.specs.rtx_payload.{Brings}

-- the fields of the retransmission
abbrev again : Packet → ℕ → ℕ → Packet
again p rtx seq = record p { payload_type = rtx; sequence = seq; payload = to_be_bytes w16 p.sequence ++ p.payload; padding = [] }

again_is_packet : (p : Packet) (rtx seq : ℕ) → IsPacket p → rtx < 128 → seq < 2 ^ 16 → IsPacket (again p rtx seq)
again_is_packet p rtx seq h small fits = record {
  payload_type = small;
  sequence = fits;
  timestamp = h.timestamp;
  ssrc = h.ssrc;
  csrc = h.csrc;
  extension = h.extension;
  padding = inl refl;
}

brings : (p : Packet) (rtx seq : ℕ) → IsPacket p → Brings p (again p rtx seq)
brings p rtx seq h =
    let number : from_be_bytes w16 (to_be_bytes w16 p.sequence) ≡ p.sequence = from_be_bytes-to_be_bytes_2 p.sequence h.sequence in
    record {
      long = omega arith;
      number = number;
      text = ap (λ (n : ℕ). stripped (record p { sequence = n })) number;
    }

pub restored : (p : Packet) (rtx seq : ℕ) → IsPacket p → rtx < 128 → seq < 2 ^ 16 → (r : Packet) × (packet_at (retransmission p rtx seq) ≡ Ok r) × Brings p r
restored p rtx seq h small fits = (again p rtx seq, read_so (again p rtx seq) (again_is_packet p rtx seq h small fits), brings p rtx seq h)
