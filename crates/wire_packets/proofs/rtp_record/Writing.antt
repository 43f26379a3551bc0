-- The text of a packet, piece behind piece.
use Rattle.std.proofs.Common.{◌≡◌, ℕ, ◌+◌, List, [], ◌++◌, length, refl, sym, ap, ◌∙◌, arith, append_assoc}
use Rattle.std.proofs.lemmas.List.{append-nil, length-append}
use Rattle.rams_model.specs.Formats.{Packet, header, spelling}
use Rattle.wire_packets.specs.rtp_record.{behind}

-- the pieces, without padding
spelled : (p : Packet) → p.padding ≡ [] → spelling p ≡ header p ++ p.csrc ++ p.extension ++ p.payload
unfolding spelling
spelled p none = ap (λ (padding : List ℕ). header p ++ p.csrc ++ p.extension ++ p.payload ++ padding) none ∙ append-nil (header p ++ p.csrc ++ p.extension ++ p.payload)

header_long : (p : Packet) → length (header p) ≡ 12
unfolding header
header_long p = refl

-- how long they are together
pub spelled_length : (p : Packet) → p.padding ≡ [] → length (spelling p) ≡ 12 + length p.csrc + length p.extension + length p.payload
spelled_length p none =
    ap length (spelled p none)
    ∙ omega (arith, header_long p, length-append (header p ++ p.csrc ++ p.extension) p.payload, length-append (header p ++ p.csrc) p.extension, length-append (header p) p.csrc)

-- put one behind another
pub put_together : (p : Packet) (old head front rest : List ℕ) → p.padding ≡ [] → head ≡ header p → p.payload ≡ front ++ rest
    → old ++ head ++ p.csrc ++ p.extension ++ front ++ rest ≡ old ++ spelling p
put_together p old head front rest none is payload =
    ap (λ (h : List ℕ). old ++ h ++ p.csrc ++ p.extension ++ front ++ rest) is
    ∙ (simp append_assoc)
    ∙ ap (λ (text : List ℕ). old ++ (header p ++ (p.csrc ++ (p.extension ++ text)))) (sym payload)
    ∙ sym (ap (λ (text : List ℕ). old ++ text) (spelled p none ∙ (simp append_assoc)))

-- the fixed header doesn't depend on the payload
pub header_behind : (front : List ℕ) (p : Packet) → header p ≡ header (behind front p)
unfolding header
header_behind front p = refl
