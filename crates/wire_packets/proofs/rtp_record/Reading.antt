-- The places of a packet's parts.
use Rattle.std.proofs.Common.{◌≡◌, ℕ, ◌+◌, ◌-◌, ◌*◌, ◌/◌, ◌%◌, ◌<◌, ◌≤◌, ◌≢◌, Bool, true, false, cond, ◌&&◌, ◌||◌, eqb, ltb, List, length, take, drop, get_or, refl, sym, ap, ◌∙◌, arith, Result, Ok, Err}
use Rattle.std.specs.Prelude.{IfOk}
use Rattle.std.specs.Int.{w16, from_be_bytes}
use Rattle.std.proofs.lemmas.Bool.Decides.{nat_tests}
use Rattle.std.proofs.lemmas.List.{drop-drop, length-drop}
use Rattle.rams_model.specs.declared.{RtpFault.RtpFault, RtpFault.TheVariants.Extension, RtpFault.TheVariants.Padding}
use Rattle.rams_model.specs.Formats.{Packet, spelling, version, has_padding, has_extension, csrc_size, behind_csrc, extension_size, behind_extension, lacks_extension, padding_size, miscounts_padding, fields_of, packet_at, IsPacket}
use Rattle.rams_model.proofs.RtpPackets.{read_without_fault, spelled_so}
use Rattle.wire_packets.specs.rtp_record.{ArePlaces}

pub behind_csrc_at : (bytes : List ℕ) (at : ℕ) → at ≡ 12 + csrc_size bytes → drop at bytes ≡ behind_csrc bytes
behind_csrc_at bytes at is = ap (λ (n : ℕ). drop n bytes) is ∙ sym (drop-drop (csrc_size bytes) 12 bytes)

pub behind_extension_at : (bytes : List ℕ) (from at : ℕ) → from ≡ 12 + csrc_size bytes → at ≡ from + extension_size bytes → drop at bytes ≡ behind_extension bytes
behind_extension_at bytes from at start is =
    ap (λ (n : ℕ). drop n bytes) is ∙ sym (drop-drop (extension_size bytes) from bytes) ∙ ap (λ (rest : List ℕ). drop (extension_size bytes) rest) (behind_csrc_at bytes from start)

-- ---- the header extension

abbrev extension_end : Bool → ℕ → Result ℕ RtpFault
extension_end lacks at = cond lacks (Err Extension) (Ok at)

-- the first byte announces a header extension of so many words
record Announces (bytes behind : List ℕ) (w : ℕ) : Type 0 where
  pub bit : has_extension bytes ≡ true
  pub behind_is : behind ≡ behind_csrc bytes
  pub size : extension_size bytes ≡ 4 + 4 * w

announces : (bytes behind : List ℕ) (at w : ℕ) → at ≡ 12 + csrc_size bytes → behind ≡ drop at bytes → get_or bytes 0 0 / 16 % 2 ≢ 0
    → w ≡ from_be_bytes w16 (drop 2 behind) → Announces bytes behind w
announces bytes behind at w start is set words =
    let x : has_extension bytes ≡ true = grind (arith, nat_tests) in
    let same : behind ≡ behind_csrc bytes = is ∙ behind_csrc_at bytes at start in
    let size : extension_size bytes ≡ 4 + 4 * w = rw (x, words, same) refl in
    record { bit = x; behind_is = same; size = size }

lacks_more : (n size : ℕ) → n < size → (ltb n 4 || ltb n size) ≡ true
lacks_more n size h = grind (arith, nat_tests)

lacks_none : (n size : ℕ) → 4 ≤ n → size ≤ n → (ltb n 4 || ltb n size) ≡ false
lacks_none n size four h = grind (arith, nat_tests)

pub ends_inside : (bytes behind : List ℕ) (at w : ℕ) → at ≡ 12 + csrc_size bytes → behind ≡ drop at bytes → get_or bytes 0 0 / 16 % 2 ≢ 0
    → w ≡ from_be_bytes w16 (drop 2 behind) → length behind < 4 + 4 * w → extension_end true 0 ≡ extension_end (lacks_extension bytes) (at + extension_size bytes)
ends_inside bytes behind at w start is set words short =
    let a = announces bytes behind at w start is set words in
    let less : length (behind_csrc bytes) < extension_size bytes = omega (arith, a.size, ap length a.behind_is) in
    let lacks : lacks_extension bytes ≡ true = ap (λ (x : Bool). x && (ltb (length (behind_csrc bytes)) 4 || ltb (length (behind_csrc bytes)) (extension_size bytes))) a.bit ∙ lacks_more (length (behind_csrc bytes)) (extension_size bytes) less in
    ap (λ (lacks : Bool). extension_end lacks (at + extension_size bytes)) (sym lacks)

pub ends_behind : (bytes behind : List ℕ) (at w : ℕ) → at ≡ 12 + csrc_size bytes → behind ≡ drop at bytes → get_or bytes 0 0 / 16 % 2 ≢ 0
    → w ≡ from_be_bytes w16 (drop 2 behind) → 4 + 4 * w ≤ length behind → extension_end false (at + (4 + 4 * w)) ≡ extension_end (lacks_extension bytes) (at + extension_size bytes)
ends_behind bytes behind at w start is set words long =
    let a = announces bytes behind at w start is set words in
    let four : 4 ≤ length (behind_csrc bytes) = omega (arith, ap length a.behind_is) in
    let all : extension_size bytes ≤ length (behind_csrc bytes) = omega (arith, a.size, ap length a.behind_is) in
    let lacks : lacks_extension bytes ≡ false = ap (λ (x : Bool). x && (ltb (length (behind_csrc bytes)) 4 || ltb (length (behind_csrc bytes)) (extension_size bytes))) a.bit ∙ lacks_none (length (behind_csrc bytes)) (extension_size bytes) four all in
    ap (λ (n : ℕ). extension_end false (at + n)) (sym a.size) ∙ ap (λ (lacks : Bool). extension_end lacks (at + extension_size bytes)) (sym lacks)

-- ---- the places

end_is : {A : Type 0} (lacks : Bool) (fault : RtpFault) (x y : A) → Ok x ≡ cond lacks (Err fault) (Ok y) → (lacks ≡ false) × (x ≡ y)
end_is true fault x y h = absurd cc
end_is false fault x y h = (refl, cc)

-- padding that isn't miscounted ends where the header extension does, or behind
padding_fits : (x : Bool) (size n : ℕ) → (x && (eqb (cond x size 0) 0 || ltb n (cond x size 0))) ≡ false → cond x size 0 ≤ n
padding_fits true size n h = grind (arith, nat_tests)
padding_fits false size n h = omega arith

-- a header extension that isn't missing ends where the bytes do, or before
extension_fits : (x : Bool) (size n : ℕ) → (x && (ltb n 4 || ltb n (cond x size 0))) ≡ false → cond x size 0 ≤ n
extension_fits true size n h = grind (arith, nat_tests)
extension_fits false size n h = omega arith

pub are_places : (bytes : List ℕ) (extension payload padding : ℕ) → ((i : ℕ) → get_or bytes i 0 < 256) → 12 ≤ length bytes → get_or bytes 0 0 / 64 ≡ 2
    → extension ≡ 12 + csrc_size bytes → extension ≤ length bytes
    → Ok payload ≡ extension_end (lacks_extension bytes) (extension + extension_size bytes)
    → Ok padding ≡ cond (miscounts_padding bytes) (Err Padding) (Ok (length bytes - padding_size bytes))
    → ArePlaces bytes extension payload padding
are_places bytes extension payload padding fits whole version start csrc first second =
    let x = end_is (lacks_extension bytes) Extension payload (extension + extension_size bytes) first in
    let p = end_is (miscounts_padding bytes) Padding padding (length bytes - padding_size bytes) second in
    let behind : length (behind_csrc bytes) ≡ length bytes - extension = ap length (sym (behind_csrc_at bytes extension start)) ∙ length-drop extension bytes in
    let there : extension_size bytes ≤ length (behind_csrc bytes) =
    extension_fits (has_extension bytes) (4 + 4 * from_be_bytes w16 (drop 2 (behind_csrc bytes))) (length (behind_csrc bytes)) x.0 in
    let left : padding_size bytes ≤ length (behind_extension bytes) = padding_fits (has_padding bytes) (get_or bytes (length bytes - 1) 0) (length (behind_extension bytes)) p.0 in
    let long : length (behind_extension bytes) ≡ length bytes - payload = ap length (sym (behind_extension_at bytes extension payload start x.1)) ∙ length-drop payload bytes in
    let read = read_without_fault bytes (record { short = whole; version = version; csrc = omega arith; extension = x.0; padding = p.0 }) in
    let so = spelled_so bytes (fields_of bytes) fits read in
    record {
      is_packet = so.0;
      is_spelled = so.1;
      extension_is = start;
      payload_is = x.1;
      padding_is = omega (arith, p.1);
      in_order = omega (arith, p.1);
    }

-- the parts between the places
pub extension_between : (bytes : List ℕ) (extension payload padding : ℕ) → ArePlaces bytes extension payload padding → take (payload - extension) (drop extension bytes) ≡ (fields_of bytes).extension
unfolding fields_of
extension_between bytes extension payload padding h =
    let n : payload - extension ≡ extension_size bytes = omega (arith, h.payload_is) in
    ap (λ (n : ℕ). take n (drop extension bytes)) n ∙ ap (λ (rest : List ℕ). take (extension_size bytes) rest) (behind_csrc_at bytes extension h.extension_is)

pub payload_between : (bytes : List ℕ) (extension payload padding : ℕ) → ArePlaces bytes extension payload padding → take (padding - payload) (drop payload bytes) ≡ (fields_of bytes).payload
unfolding fields_of
payload_between bytes extension payload padding h =
    let behind = behind_extension_at bytes extension payload h.extension_is h.payload_is in
    let long : length (behind_extension bytes) ≡ length bytes - payload = ap length (sym behind) ∙ length-drop payload bytes in
    let n : padding - payload ≡ length (behind_extension bytes) - padding_size bytes = omega (arith, h.padding_is, h.in_order) in
    ap (λ (n : ℕ). take n (drop payload bytes)) n ∙ ap (λ (rest : List ℕ). take (length (behind_extension bytes) - padding_size bytes) rest) behind

-- what was read is a packet, and its spelling the bytes
pub found_from : (bytes : List ℕ) (r : Result Packet RtpFault) → ((i : ℕ) → get_or bytes i 0 < 256) → r ≡ packet_at bytes
    → IfOk r (λ p. IsPacket p × (spelling p ≡ bytes))
found_from bytes (Ok p) fits is = spelled_so bytes p fits (sym is)
found_from bytes (Err f) fits is = tt
