-- The retransmission of a packet with a fixed header alone, out of the packet's bytes.
use Rattle.std.proofs.Common.{◌≡◌, ℕ, ◌+◌, ◌-◌, ◌*◌, ◌/◌, ◌<◌, ◌≤◌, true, List, [], ◌∷◌, ◌++◌, length, take, drop, get_or, refl, sym, ap, ◌∙◌, arith, eqb, leb, Ok}
use Rattle.std.specs.Prelude.{if◌then◌else◌, ◌==◌}
use Rattle.std.proofs.lemmas.Bool.{eqb-true, and_parts, leb-true}
use Rattle.std.proofs.lemmas.List.{append-nil, take_all, length-drop, length-append, nil_from_length}
use Rattle.std.proofs.lemmas.Bool.Decides.{nat_tests}
use Rattle.rams_model.specs.Formats.{Packet, header, spelling, retransmission, is_plain, packet_of, packet_at, fields_of}
use Rattle.rams_model.specs.Service.{sent_again}
use Rattle.rams_model.proofs.PlainPackets.{two_again, four_again}
use Rattle.rams_model.proofs.RtpPackets.{read_without_fault}
use Rattle.wire_packets.specs.rtx_payload.{plain_head}

record IsPlain (bytes : List ℕ) : Type 0 where
  whole : 12 ≤ length bytes
  first : get_or bytes 0 0 ≡ 128

is_plain_is : (bytes : List ℕ) → is_plain bytes ≡ true → IsPlain bytes
is_plain_is bytes p =
    let both = and_parts (leb 12 (length bytes)) (eqb (get_or bytes 0 0) 128) p in
    record { whole = leb-true 12 (length bytes) both.0; first = eqb-true (get_or bytes 0 0) 128 both.1 }

marker_again : (b : ℕ) → b < 256 → b / 128 * 128 ≡ (if b / 128 == 1 then 128 else 0)
marker_again b h = grind (arith, nat_tests)

again : (bytes : List ℕ) (payload_type sequence : ℕ) → ((i : ℕ) → get_or bytes i 0 < 256) → IsPlain bytes
    → plain_head (take 12 bytes) payload_type sequence ++ drop 12 bytes ≡ retransmission (packet_of bytes) payload_type sequence
unfolding spelling header packet_of
again (a0 ∷ a1 ∷ a2 ∷ a3 ∷ a4 ∷ a5 ∷ a6 ∷ a7 ∷ a8 ∷ a9 ∷ a10 ∷ a11 ∷ rest) payload_type sequence h p =
    let marker = marker_again a1 (h 1) in
    let number = two_again a2 a3 (a4 ∷ a5 ∷ a6 ∷ a7 ∷ a8 ∷ a9 ∷ a10 ∷ a11 ∷ rest) (h 2) (h 3) in
    let timestamp = four_again a4 a5 a6 a7 (a8 ∷ a9 ∷ a10 ∷ a11 ∷ rest) (h 4) (h 5) (h 6) (h 7) in
    let ssrc = four_again a8 a9 a10 a11 rest (h 8) (h 9) (h 10) (h 11) in
    let end = append-nil rest in
    cc
again short payload_type sequence h p = absurd (omega (arith, p.whole))

fields_again : (bytes : List ℕ) → IsPlain bytes → fields_of bytes ≡ packet_of bytes
unfolding fields_of packet_of
fields_again bytes p =
    let payload = drop 12 bytes in
    let all : take (length payload - 0) payload ≡ payload = take_all (length payload - 0) payload (omega arith) in
    let none : drop (length payload - 0) payload ≡ [] = nil_from_length (drop (length payload - 0) payload) (omega (arith, length-drop (length payload - 0) payload)) in
    rw p.first cc

read_plain : (bytes : List ℕ) → IsPlain bytes → packet_at bytes ≡ Ok (packet_of bytes)
read_plain bytes p =
    let fine = read_without_fault bytes (record { short = p.whole; version = omega (arith, p.first); csrc = omega (arith, p.first, p.whole); extension = rw p.first refl; padding = rw p.first refl }) in
    fine ∙ ap (λ (q : Packet). Ok q) (fields_again bytes p)

pub plain_again : (bytes : List ℕ) (payload_type sequence : ℕ) → ((i : ℕ) → get_or bytes i 0 < 256) → is_plain bytes ≡ true
    → plain_head (take 12 bytes) payload_type sequence ++ drop 12 bytes ≡ sent_again payload_type sequence (packet_at bytes)
plain_again bytes payload_type sequence h is =
    let p = is_plain_is bytes is in
    again bytes payload_type sequence h p ∙ ap (λ r. sent_again payload_type sequence r) (sym (read_plain bytes p))

pub plain_long : (bytes : List ℕ) (payload_type sequence : ℕ) → ((i : ℕ) → get_or bytes i 0 < 256) → is_plain bytes ≡ true
    → length (sent_again payload_type sequence (packet_at bytes)) ≡ length bytes + 2
plain_long bytes payload_type sequence h is =
    let p = is_plain_is bytes is in
    let head : length (plain_head (take 12 bytes) payload_type sequence) ≡ 14 = refl in
    let whole = p.whole in
    omega (arith, ap length (plain_again bytes payload_type sequence h is), length-append (plain_head (take 12 bytes) payload_type sequence) (drop 12 bytes), length-drop 12 bytes)
