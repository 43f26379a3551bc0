-- A packet that was read is read again without its padding, whatever numbers its bytes are.
use Rattle.std.proofs.Common.{◌≡◌, ℕ, suc, ◌+◌, ◌*◌, ◌/◌, ◌%◌, ◌<◌, ◌≤◌, Bool, true, false, cond, ◌&&◌, ◌||◌, List, [], ◌∷◌, ◌++◌, length, take, drop, get_or, refl, ap, ◌∙◌, subst, arith, eqb, ltb, Ok, append_assoc}
use Rattle.std.specs.Prelude.{IsOk, is_ok}
use Rattle.std.specs.Int.{w16, from_be_bytes}
use Rattle.std.proofs.lemmas.Bool.{le-ltb}
use Rattle.std.proofs.lemmas.Bool.Decides.{nat_tests}
use Rattle.std.proofs.lemmas.List.{append-nil, drop_at, length-append, length-drop, length-take}
use Rattle.rams_model.specs.Formats.{Packet, flag, header, spelling, stripped, has_padding, has_extension, csrc_size, behind_header, behind_csrc, fields_of, packet_at}
use Rattle.rams_model.proofs.RtpPackets.{flag_below, HasNoFault, read_has_no_fault, read_without_fault}

-- the bytes, with an extension where x says so, end inside it
abbrev lacks : Bool → List ℕ → Bool
lacks x bytes = x && (ltb (length bytes) 4 || ltb (length bytes) (cond x (4 + 4 * from_be_bytes w16 (drop 2 bytes)) 0))

-- the extension at the front of the bytes
abbrev extension_of : Bool → List ℕ → List ℕ
extension_of x bytes = take (cond x (4 + 4 * from_be_bytes w16 (drop 2 bytes)) 0) bytes

-- an extension that is whole is so with other bytes behind it
whole : (bytes rest : List ℕ) → 4 ≤ length bytes → 4 + 4 * from_be_bytes w16 (drop 2 bytes) ≤ length bytes
    → lacks (eqb (flag (extension_of true bytes)) 1) (extension_of true bytes ++ rest) ≡ false
whole (a ∷ b ∷ c ∷ d ∷ more) rest four within =
    let w : ℕ = from_be_bytes w16 (c ∷ d ∷ more) in
    let size : 4 + 4 * w ≡ suc (suc (suc (suc (4 * w)))) = omega arith in
    let long : length (take (4 * w) more ++ rest) ≡ 4 * w + length rest =
    omega (arith, within, length-append (take (4 * w) more) rest, length-take (4 * w) more) in
    let all : List ℕ = a ∷ b ∷ c ∷ d ∷ (take (4 * w) more ++ rest) in
    rw size (rw (le-ltb (length all) 4 (omega (arith, long)), le-ltb (length all) (4 + 4 * w) (omega (arith, long))) refl)
whole short rest four within = absurd (omega arith)

still_whole : (x : Bool) (bytes rest : List ℕ) → lacks x bytes ≡ false → lacks (eqb (flag (extension_of x bytes)) 1) (extension_of x bytes ++ rest) ≡ false
still_whole true bytes rest h = whole bytes rest (grind (arith, nat_tests)) (grind (arith, nat_tests))
still_whole false bytes rest h = refl

-- how the spelling of a packet without padding begins, and what stands behind its fixed header
record Begins (bytes : List ℕ) (p : Packet) : Type 0 where
  first : get_or bytes 0 0 ≡ 128 + 16 * flag p.extension + length p.csrc / 4
  body : drop 12 bytes ≡ p.csrc ++ (p.extension ++ p.payload)
  long : length bytes ≡ 12 + length (p.csrc ++ (p.extension ++ p.payload))

begins : (p : Packet) → Begins (stripped p) p
unfolding spelling header
begins p =
    let body : p.csrc ++ p.extension ++ p.payload ++ [] ≡ p.csrc ++ (p.extension ++ p.payload) =
    append-nil (p.csrc ++ p.extension ++ p.payload) ∙ append_assoc p.csrc p.extension p.payload in
    record { first = refl; body = body; long = omega (arith, ap length body) }

-- four bytes for each of the contributing sources, and a header extension that is whole
record HasWholeParts (p : Packet) : Type 0 where
  count : ℕ
  few : count < 16
  csrc : length p.csrc ≡ 4 * count
  extension : (rest : List ℕ) → lacks (eqb (flag p.extension) 1) (p.extension ++ rest) ≡ false

no_fault_again : (bytes : List ℕ) (p : Packet) → Begins bytes p → HasWholeParts p → HasNoFault bytes
no_fault_again bytes p b w =
    let flags = flag_below p.extension in
    let total = length-append p.csrc (p.extension ++ p.payload) in
    let sources : get_or bytes 0 0 % 16 ≡ w.count = omega (arith, b.first, w.csrc, w.few, flags) in
    let no_padding : has_padding bytes ≡ false =
    let bit : get_or bytes 0 0 / 32 % 2 ≡ 0 = omega (arith, b.first, w.csrc, w.few, flags) in ap (λ (n : ℕ). eqb n 1) bit in
    let some : has_extension bytes ≡ eqb (flag p.extension) 1 =
    let bit : get_or bytes 0 0 / 16 % 2 ≡ flag p.extension = omega (arith, b.first, w.csrc, w.few, flags) in ap (λ (n : ℕ). eqb n 1) bit in
    let behind : behind_csrc bytes ≡ p.extension ++ p.payload =
    ap (λ (body : List ℕ). drop (csrc_size bytes) body) b.body ∙ drop_at p.csrc (p.extension ++ p.payload) (csrc_size bytes) (omega (arith, sources, w.csrc)) in
    record {
      short = omega (arith, b.long);
      version = omega (arith, b.first, w.csrc, w.few, flags);
      csrc = omega (arith, b.long, total, sources, w.csrc);
      extension = rw (some, behind) (w.extension p.payload);
      padding = rw no_padding refl;
    }

whole_parts : (bytes : List ℕ) → HasNoFault bytes → HasWholeParts (fields_of bytes)
unfolding fields_of
whole_parts bytes h = record {
  count = get_or bytes 0 0 % 16;
  few = omega arith;
  csrc = omega (arith, h.csrc, length-take (csrc_size bytes) (behind_header bytes), length-drop 12 bytes);
  extension = λ rest. still_whole (has_extension bytes) (behind_csrc bytes) rest h.extension;
}

-- what is read of a packet without its padding is a packet
pub read_again : (bytes : List ℕ) (p : Packet) → packet_at bytes ≡ Ok p → IsOk (packet_at (stripped p))
read_again bytes p e =
    let r = read_has_no_fault bytes p e in
    let parts : HasWholeParts p = subst HasWholeParts r.1 (whole_parts bytes r.0) in
    ap is_ok (read_without_fault (stripped p) (no_fault_again (stripped p) p (begins p) parts))
