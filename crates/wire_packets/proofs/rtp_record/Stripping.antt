-- A packet without its padding is the front of its bytes with one bit cleared.
use Rattle.std.proofs.Common.{◌≡◌, ◌≢◌, ℕ, suc, ◌+◌, ◌-◌, ◌*◌, ◌/◌, ◌<◌, List, [], ◌∷◌, ◌++◌, length, take, get_or, set, refl, sym, ap, ◌∙◌, arith}
use Rattle.std.specs.Prelude.{if◌then◌else◌}
use Rattle.std.specs.Int.{w16, w32, to_be_bytes}
use Rattle.std.proofs.lemmas.List.{append-nil, nil_from_length, length-append, length-drop, length-set, length-take, take_at, set-append_right}
use Rattle.rams_model.specs.Formats.{Packet, flag, header, spelling, stripped, AreCsrc, behind_extension, padding_size, fields_of}
use Rattle.rams_model.proofs.RtpPackets.{flag_below}
use Rattle.wire_packets.specs.rtp_record.{ArePlaces, without_padding_bit}
use Rattle.wire_packets.proofs.rtp_record.Reading.{behind_extension_at}

-- all but the first byte, without padding
abbrev tail : Packet → List ℕ
tail p = ((if p.marker then 128 else 0) + p.payload_type) ∷ (to_be_bytes w16 p.sequence ++ to_be_bytes w32 p.timestamp ++ to_be_bytes w32 p.ssrc ++ p.csrc ++ p.extension ++ p.payload)

abbrev first : Packet → ℕ
first p = 128 + 32 * flag p.padding + 16 * flag p.extension + length p.csrc / 4

spelling_is : (p : Packet) → spelling p ≡ first p ∷ (tail p ++ p.padding)
unfolding spelling header
spelling_is p = refl

stripped_is : (p : Packet) → stripped p ≡ (128 + 16 * flag p.extension + length p.csrc / 4) ∷ tail p
unfolding spelling header
stripped_is p = ap (λ (rest : List ℕ). (128 + 16 * flag p.extension + length p.csrc / 4) ∷ rest) (append-nil (tail p))

cleared : (p : Packet) → AreCsrc p.csrc → without_padding_bit (first p) ≡ 128 + 16 * flag p.extension + length p.csrc / 4
cleared p h =
    let x = flag_below p.extension in
    let y = flag_below p.padding in
    let count : length p.csrc / 4 < 16 = omega (arith, h.1, h.2) in
    omega arith

-- what is left of the spelling without as many bytes as the padding has, its first byte cleared
stripped_front : (p : Packet) → AreCsrc p.csrc → (bytes : List ℕ) (n : ℕ) → spelling p ≡ bytes → n + length p.padding ≡ length bytes
    → stripped p ≡ set (take n bytes) 0 (without_padding_bit (get_or bytes 0 0))
stripped_front p h bytes n is long =
    let all : first p ∷ (tail p ++ p.padding) ≡ bytes = sym (spelling_is p) ∙ is in
    let size : n ≡ suc (length (tail p)) = omega (arith, ap length all, length-append (tail p) p.padding) in
    let front : take (length (tail p)) (tail p ++ p.padding) ≡ tail p = take_at (tail p) p.padding (length (tail p)) refl in
    stripped_is p
    ∙ ap (λ (b : ℕ). b ∷ tail p) (sym (cleared p h))
    ∙ ap (λ (rest : List ℕ). without_padding_bit (first p) ∷ rest) (sym front)
    ∙ ap (λ (k : ℕ). set (take k (first p ∷ (tail p ++ p.padding))) 0 (without_padding_bit (first p))) (sym size)
    ∙ ap (λ (text : List ℕ). set (take n text) 0 (without_padding_bit (get_or text 0 0))) all

-- as long as the padding is what the last byte counts
padding_counted : (bytes : List ℕ) (extension payload padding : ℕ) → ArePlaces bytes extension payload padding → length (fields_of bytes).padding ≡ padding_size bytes
unfolding fields_of
padding_counted bytes extension payload padding h =
    let long : length (behind_extension bytes) ≡ length bytes - payload = ap length (sym (behind_extension_at bytes extension payload h.extension_is h.payload_is)) ∙ length-drop payload bytes in
    omega (arith, long, h.padding_is, h.in_order, length-drop (length (behind_extension bytes) - padding_size bytes) (behind_extension bytes))

pub stripped_at : (bytes : List ℕ) (extension payload padding : ℕ) → ArePlaces bytes extension payload padding
    → stripped (fields_of bytes) ≡ set (take padding bytes) 0 (without_padding_bit (get_or bytes 0 0))
stripped_at bytes extension payload padding h =
    stripped_front (fields_of bytes) h.is_packet.csrc bytes padding h.is_spelled (omega (arith, padding_counted bytes extension payload padding h, h.padding_is))

pub stripped_length : (bytes : List ℕ) (extension payload padding : ℕ) → ArePlaces bytes extension payload padding
    → length (stripped (fields_of bytes)) ≡ padding
stripped_length bytes extension payload padding h =
    ap length (stripped_at bytes extension payload padding h)
    ∙ length-set (take padding bytes) 0 (without_padding_bit (get_or bytes 0 0))
    ∙ (omega (arith, length-take padding bytes, h.padding_is))

-- bytes that end where the padding would begin are the packet without it
pub none_at : (bytes : List ℕ) (extension payload padding : ℕ) → ArePlaces bytes extension payload padding → padding ≡ length bytes → (fields_of bytes).padding ≡ []
none_at bytes extension payload padding h ends =
    nil_from_length (fields_of bytes).padding (omega (arith, padding_counted bytes extension payload padding h, h.padding_is, ends))

pub bare_at : (bytes : List ℕ) (extension payload padding : ℕ) → ArePlaces bytes extension payload padding → padding ≡ length bytes → stripped (fields_of bytes) ≡ bytes
bare_at bytes extension payload padding h ends =
    sym (ap (λ (x : List ℕ). spelling (record (fields_of bytes) { padding = x })) (none_at bytes extension payload padding h ends)) ∙ h.is_spelled

-- and where they go on there is some
pub some_at : (bytes : List ℕ) (extension payload padding : ℕ) → ArePlaces bytes extension payload padding → padding ≢ length bytes → (fields_of bytes).padding ≢ []
some_at bytes extension payload padding h goes_on none =
    goes_on (omega (arith, padding_counted bytes extension payload padding h, h.padding_is, ap length none))

-- a byte written behind what was there
pub written_behind : (old piece : List ℕ) (n b : ℕ) → n ≡ length old → set (old ++ piece) n b ≡ old ++ set piece 0 b
written_behind old piece n b is =
    set-append_right old piece n n b (sym is) (omega arith) ∙ ap (λ (i : ℕ). old ++ set piece i b) (omega arith)
