-- What is read is spelled so, and what is spelled so is read.
use Rattle.std.proofs.Common.{◌≡◌, ℕ, suc, ◌+◌, ◌-◌, ◌*◌, ◌/◌, ◌%◌, ◌^◌, ◌<◌, ◌≤◌, Bool, true, false, cond, not, ◌&&◌, ◌||◌, List, [], ◌∷◌, ◌++◌, length, take, drop, get_or, refl, sym, ap, ◌∙◌, subst, arith, eqb, ltb, inl, inr, Result, Ok, Err, append_assoc}
use Rattle.std.specs.Prelude.{if◌then◌else◌, ◌==◌, ◌⊎◌}
use Rattle.std.specs.Int.{w16, w32, to_be_bytes, from_be_bytes}
use Rattle.std.proofs.lemmas.Nat.{from_be_bytes-to_be_bytes_2, from_be_bytes-to_be_bytes_4}
use Rattle.std.proofs.lemmas.Bool.{eqb-true, ltb-false, le-ltb, eq-eqb}
use Rattle.std.proofs.lemmas.List.{take_at, drop_at, take-append-drop, length-append, length-take, length-drop, nil_from_length, get_or-drop, take_more, take_all, length_push, get_or_push, get_or-append_right}
use Rattle.std.proofs.lemmas.Bool.Decides.{nat_tests}
use Rattle.rams_model.specs.declared.fault.RtpFault.{RtpFault}
use Rattle.rams_model.specs.declared.fault.RtpFault.TheVariants.{Short, Version, Csrc, Extension, Padding}
use Rattle.rams_model.specs.Formats.{Packet, flag, header, spelling, version, has_padding, has_extension, csrc_size, behind_header, behind_csrc, extension_size, behind_extension, padding_size, lacks_extension, miscounts_padding, fields_of, packet_at, AreCsrc, IsWholeExtension, IsWholePadding, IsPacket}
use Rattle.rams_model.proofs.PlainPackets.{two_again, four_again, marker_and_type}

-- ---- which tests a packet passed

-- none of the faults is true of the bytes
pub record HasNoFault (bytes : List ℕ) : Type 0 where
  pub short : 12 ≤ length bytes
  pub version : version bytes ≡ 2
  pub csrc : 12 + csrc_size bytes ≤ length bytes
  pub extension : lacks_extension bytes ≡ false
  pub padding : miscounts_padding bytes ≡ false

abbrev table : {A : Type 0} → Bool → Bool → Bool → Bool → Bool → A → Result A RtpFault
table a b c d e x = cond a (Err Short) (cond (not b) (Err Version) (cond c (Err Csrc) (cond d (Err Extension) (cond e (Err Padding) (Ok x)))))

table_ok : {A : Type 0} (a b c d e : Bool) (x y : A) → table a b c d e x ≡ Ok y → (a ≡ false) × (b ≡ true) × (c ≡ false) × (d ≡ false) × (e ≡ false) × (x ≡ y)
table_ok true b c d e x y h = absurd cc
table_ok false false c d e x y h = absurd cc
table_ok false true true d e x y h = absurd cc
table_ok false true false true e x y h = absurd cc
table_ok false true false false true x y h = absurd cc
table_ok false true false false false x y h = (refl, refl, refl, refl, refl, cc)

pub read_has_no_fault : (bytes : List ℕ) (p : Packet) → packet_at bytes ≡ Ok p → HasNoFault bytes × (fields_of bytes ≡ p)
unfolding packet_at
read_has_no_fault bytes p h =
    let t = table_ok (ltb (length bytes) 12) (eqb (version bytes) 2) (ltb (length bytes) (12 + csrc_size bytes)) (lacks_extension bytes) (miscounts_padding bytes) (fields_of bytes) p h in (
      record {
        short = ltb-false _ _ t.0;
        version = eqb-true _ _ t.1;
        csrc = ltb-false _ _ t.2;
        extension = t.3;
        padding = t.4;
      },
      t.5,
    )

pub read_without_fault : (bytes : List ℕ) → HasNoFault bytes → packet_at bytes ≡ Ok (fields_of bytes)
unfolding packet_at
read_without_fault bytes h =
    rw (le-ltb _ _ h.short, eq-eqb _ _ h.version, le-ltb _ _ h.csrc, h.extension, h.padding) refl

-- ---- what is read is spelled so

abbrev IsBytes : List ℕ → Type 0
IsBytes bytes = (i : ℕ) → get_or bytes i 0 < 256

flag_is_1 : (xs : List ℕ) → 0 < length xs → flag xs ≡ 1
flag_is_1 [] h = absurd (omega arith)
flag_is_1 (x ∷ xs) h = refl

flag_is_0 : (xs : List ℕ) → length xs ≡ 0 → flag xs ≡ 0
flag_is_0 [] h = refl
flag_is_0 (x ∷ xs) h = absurd (omega arith)

-- the cut parts, glued again
glued : (h : List ℕ) (a b n : ℕ) (body : List ℕ)
    → h ++ take a body ++ take b (drop a body) ++ take n (drop b (drop a body)) ++ drop n (drop b (drop a body)) ≡ h ++ body
glued h a b n body = simp (append_assoc, take-append-drop {A = ℕ})

-- a list, and its last element
last_apart : (xs : List ℕ) → 0 < length xs → xs ≡ take (length xs - 1) xs ++ get_or xs (length xs - 1) 0 ∷ []
last_apart xs h =
    let i : ℕ = length xs - 1 in
    let more : take (i + 1) xs ≡ take i xs ++ get_or xs i 0 ∷ [] = take_more xs i 0 (omega arith) in
    sym (take_all (i + 1) xs (omega arith)) ∙ more

-- the last so many bytes are padding where the last says how many they are
whole_padding : (size : ℕ) (rest : List ℕ) → 0 < size → size < 256 → size ≤ length rest → get_or rest (length rest - 1) 0 ≡ size
    → IsWholePadding (drop (length rest - size) rest)
whole_padding size rest some fits within last =
    let start : ℕ = length rest - size in
    let long : length (drop start rest) ≡ size = omega (arith, length-drop start rest) in
    let at : get_or (drop start rest) (size - 1) 0 ≡ size = get_or-drop start rest (size - 1) 0 ∙ ap (λ (i : ℕ). get_or rest i 0) (omega arith) ∙ last in
    let front : List ℕ = take (size - 1) (drop start rest) in
    let front_long : length front + 1 ≡ size = omega (arith, length-take (size - 1) (drop start rest)) in
    record {
      front = front;
      fits = omega arith;
      text = rw (front_long) (subst (λ (n : ℕ). drop start rest ≡ take (n - 1) (drop start rest) ++ get_or (drop start rest) (n - 1) 0 ∷ []) long (last_apart (drop start rest) (omega arith)) ∙ ap (λ (n : ℕ). take (size - 1) (drop start rest) ++ n ∷ []) at);
    }

-- what is told of the padding, where it isn't miscounted
pub record PaddingIs (x : Bool) (padding : List ℕ) : Type 0 where
  pub bit : flag padding ≡ cond x 1 0
  pub whole : (padding ≡ []) ⊎ IsWholePadding padding

no_padding : (rest : List ℕ) → drop (length rest - 0) rest ≡ []
no_padding rest = nil_from_length _ (omega (arith, length-drop (length rest - 0) rest))

some_padding : (last : ℕ) (rest : List ℕ) → last < 256 → (get_or rest (length rest - 1) 0 ≡ last) → (eqb last 0 || ltb (length rest) last) ≡ false
    → PaddingIs true (drop (length rest - last) rest)
some_padding last rest fits at h =
    let some : 0 < last = grind (arith, nat_tests) in
    let within : last ≤ length rest = grind (arith, nat_tests) in
    record {
      bit = flag_is_1 _ (omega (arith, length-drop (length rest - last) rest));
      whole = inr (whole_padding last rest some fits within at);
    }

padding_is : (x : Bool) (last : ℕ) (rest : List ℕ) → last < 256 → (0 < length rest → get_or rest (length rest - 1) 0 ≡ last)
    → (x && (eqb (cond x last 0) 0 || ltb (length rest) (cond x last 0))) ≡ false → PaddingIs x (drop (length rest - cond x last 0) rest)
padding_is true last [] fits at h = absurd (grind (arith, nat_tests))
padding_is true last (b ∷ rest) fits at h = some_padding last (b ∷ rest) fits (at (omega arith)) h
padding_is false last rest fits at h = record { bit = flag_is_0 _ (ap length (no_padding rest)); whole = inl (no_padding rest) }

-- what is told of the header extension, where none is missing
pub record ExtensionIs (x : Bool) (extension : List ℕ) : Type 0 where
  pub bit : flag extension ≡ cond x 1 0
  pub whole : (extension ≡ []) ⊎ IsWholeExtension extension

whole_extension : (behind : List ℕ) → IsBytes behind → 4 ≤ length behind → 4 + 4 * from_be_bytes w16 (drop 2 behind) ≤ length behind
    → ExtensionIs true (take (4 + 4 * from_be_bytes w16 (drop 2 behind)) behind)
whole_extension (a ∷ b ∷ c ∷ d ∷ rest) fits four within =
    let w : ℕ = from_be_bytes w16 (c ∷ d ∷ rest) in
    let size : 4 + 4 * w ≡ suc (suc (suc (suc (4 * w)))) = omega arith in
    rw size (record {
      bit = refl;
      whole = inr (record {
        profile = a ∷ b ∷ [];
        words = take (4 * w) rest;
        count = w;
        short = refl;
        fits = omega (arith, fits 2, fits 3);
        long = omega (arith, length-take (4 * w) rest);
        text = ap (λ (length : List ℕ). a ∷ b ∷ [] ++ length ++ take (4 * w) rest) (sym (two_again c d rest (fits 2) (fits 3)));
      });
    })
whole_extension short fits four within = absurd (omega arith)

extension_is : (x : Bool) (behind : List ℕ) → IsBytes behind
    → (x && (ltb (length behind) 4 || ltb (length behind) (cond x (4 + 4 * from_be_bytes w16 (drop 2 behind)) 0))) ≡ false
    → ExtensionIs x (take (cond x (4 + 4 * from_be_bytes w16 (drop 2 behind)) 0) behind)
extension_is true behind fits h =
    let size : ℕ = 4 + 4 * from_be_bytes w16 (drop 2 behind) in
    whole_extension behind fits (grind (arith, nat_tests)) (grind (arith, nat_tests))
extension_is false behind fits h = record { bit = refl; whole = inl refl }

-- the bits of the first byte
first_again : (b : ℕ) → b < 256 → b / 64 ≡ 2 → 128 + 32 * (cond (b / 32 % 2 == 1) 1 0) + 16 * (cond (b / 16 % 2 == 1) 1 0) + b % 16 ≡ b
first_again b h v = grind (arith, nat_tests)

two_below : (bytes : List ℕ) → IsBytes bytes → from_be_bytes w16 bytes < 2 ^ 16
two_below bytes fits = omega (arith, fits 0, fits 1)

four_below_32 : (bytes : List ℕ) → IsBytes bytes → from_be_bytes w32 bytes < 2 ^ 32
four_below_32 bytes fits = omega (arith, fits 0, fits 1, fits 2, fits 3)

-- the fixed header, from what is read of it
header_again : (bytes : List ℕ) (p : Packet) → IsBytes bytes → 12 ≤ length bytes
    → 128 + 32 * flag p.padding + 16 * flag p.extension + length p.csrc / 4 ≡ get_or bytes 0 0
    → p.marker ≡ (get_or bytes 1 0 / 128 == 1) → p.payload_type ≡ get_or bytes 1 0 % 128 → p.sequence ≡ from_be_bytes w16 (drop 2 bytes)
    → p.timestamp ≡ from_be_bytes w32 (drop 4 bytes) → p.ssrc ≡ from_be_bytes w32 (drop 8 bytes)
    → header p ≡ take 12 bytes
unfolding header
header_again (a0 ∷ a1 ∷ a2 ∷ a3 ∷ a4 ∷ a5 ∷ a6 ∷ a7 ∷ a8 ∷ a9 ∷ a10 ∷ a11 ∷ rest) p fits long first marker type sequence timestamp ssrc =
    let second = marker_and_type a1 (fits 1) in
    let two = two_again a2 a3 (a4 ∷ a5 ∷ a6 ∷ a7 ∷ a8 ∷ a9 ∷ a10 ∷ a11 ∷ rest) (fits 2) (fits 3) in
    let four = four_again a4 a5 a6 a7 (a8 ∷ a9 ∷ a10 ∷ a11 ∷ rest) (fits 4) (fits 5) (fits 6) (fits 7) in
    let last = four_again a8 a9 a10 a11 rest (fits 8) (fits 9) (fits 10) (fits 11) in
    cc
header_again short p fits long first marker type sequence timestamp ssrc = absurd (omega arith)

IsBytes-drop : (n : ℕ) (bytes : List ℕ) → IsBytes bytes → IsBytes (drop n bytes)
IsBytes-drop n bytes h i = rw get_or-drop (h (n + i))

-- the last byte of what stands behind is the last byte
last_of_rest : (a b c : ℕ) (bytes : List ℕ) → let rest = drop c (drop b (drop a bytes)) in
    0 < length rest → get_or rest (length rest - 1) 0 ≡ get_or bytes (length bytes - 1) 0
last_of_rest a b c bytes some =
    let i : ℕ = length (drop c (drop b (drop a bytes))) - 1 in
    let at : a + (b + (c + i)) ≡ length bytes - 1 = omega (arith, length-drop c (drop b (drop a bytes)), length-drop b (drop a bytes), length-drop a bytes) in
    get_or-drop c (drop b (drop a bytes)) i 0 ∙ get_or-drop b (drop a bytes) (c + i) 0 ∙ get_or-drop a bytes (b + (c + i)) 0 ∙ ap (λ (k : ℕ). get_or bytes k 0) at

-- what is told of the fields of bytes that have no fault
record FieldsAre (bytes : List ℕ) (p : Packet) : Type 0 where
  pub csrc : length p.csrc ≡ csrc_size bytes
  pub extension : ExtensionIs (has_extension bytes) p.extension
  pub padding : PaddingIs (has_padding bytes) p.padding

fields_are : (bytes : List ℕ) → IsBytes bytes → HasNoFault bytes → FieldsAre bytes (fields_of bytes)
unfolding fields_of
fields_are bytes fits h = record {
  csrc = omega (arith, h.csrc, length-take (csrc_size bytes) (behind_header bytes), length-drop 12 bytes);
  extension = extension_is (has_extension bytes) (behind_csrc bytes) (IsBytes-drop (csrc_size bytes) (behind_header bytes) (IsBytes-drop 12 bytes fits)) h.extension;
  padding = padding_is (has_padding bytes) (get_or bytes (length bytes - 1) 0) (behind_extension bytes) (fits (length bytes - 1)) (last_of_rest 12 (csrc_size bytes) (extension_size bytes) bytes) h.padding;
}

fields_first : (bytes : List ℕ) → IsBytes bytes → HasNoFault bytes → (p : Packet) → FieldsAre bytes p
    → 128 + 32 * flag p.padding + 16 * flag p.extension + length p.csrc / 4 ≡ get_or bytes 0 0
fields_first bytes fits h p are =
    let count : length p.csrc / 4 ≡ get_or bytes 0 0 % 16 = omega (arith, are.csrc) in
    rw (are.padding.bit, are.extension.bit, count) (first_again (get_or bytes 0 0) (fits 0) h.version)

fields_header : (bytes : List ℕ) → IsBytes bytes → HasNoFault bytes → header (fields_of bytes) ≡ take 12 bytes
unfolding fields_of
fields_header bytes fits h =
    header_again bytes (fields_of bytes) fits h.short (fields_first bytes fits h (fields_of bytes) (fields_are bytes fits h)) refl refl refl refl refl

fields_spelled : (bytes : List ℕ) → IsBytes bytes → HasNoFault bytes → spelling (fields_of bytes) ≡ bytes
unfolding spelling fields_of
fields_spelled bytes fits h =
    let size : ℕ = length (behind_extension bytes) - padding_size bytes in
    ap (λ (front : List ℕ). front ++ take (csrc_size bytes) (behind_header bytes) ++ take (extension_size bytes) (behind_csrc bytes) ++ take size (behind_extension bytes) ++ drop size (behind_extension bytes))
    (fields_header bytes fits h)
    ∙ glued (take 12 bytes) (csrc_size bytes) (extension_size bytes) size (behind_header bytes)
    ∙ take-append-drop 12 bytes

fields_packet : (bytes : List ℕ) → IsBytes bytes → (p : Packet) → FieldsAre bytes p
    → p.payload_type ≡ get_or bytes 1 0 % 128 → p.sequence ≡ from_be_bytes w16 (drop 2 bytes)
    → p.timestamp ≡ from_be_bytes w32 (drop 4 bytes) → p.ssrc ≡ from_be_bytes w32 (drop 8 bytes) → IsPacket p
fields_packet bytes fits p are type sequence timestamp ssrc = record {
  payload_type = omega (arith, type);
  sequence = rw sequence (two_below (drop 2 bytes) (IsBytes-drop 2 bytes fits));
  timestamp = rw timestamp (four_below_32 (drop 4 bytes) (IsBytes-drop 4 bytes fits));
  ssrc = rw ssrc (four_below_32 (drop 8 bytes) (IsBytes-drop 8 bytes fits));
  csrc = (get_or bytes 0 0 % 16, omega arith, are.csrc);
  extension = are.extension.whole;
  padding = are.padding.whole;
}

pub spelled_so : (bytes : List ℕ) (p : Packet) → IsBytes bytes → packet_at bytes ≡ Ok p → IsPacket p × (spelling p ≡ bytes)
unfolding fields_of
spelled_so bytes p fits h =
    let r = read_has_no_fault bytes p h in
    let packet : IsPacket (fields_of bytes) = fields_packet bytes fits (fields_of bytes) (fields_are bytes fits r.0) refl refl refl refl in
    subst (λ (q : Packet). IsPacket q × (spelling q ≡ bytes)) r.1 (packet, fields_spelled bytes fits r.0)

-- ---- what is spelled so is read

-- how the spelling of a packet begins, and what stands behind its fixed header
record Begins (bytes : List ℕ) (p : Packet) : Type 0 where
  pub first : get_or bytes 0 0 ≡ 128 + 32 * flag p.padding + 16 * flag p.extension + length p.csrc / 4
  pub second : get_or bytes 1 0 ≡ (if p.marker then 128 else 0) + p.payload_type
  pub sequence : from_be_bytes w16 (drop 2 bytes) ≡ from_be_bytes w16 (to_be_bytes w16 p.sequence)
  pub timestamp : from_be_bytes w32 (drop 4 bytes) ≡ from_be_bytes w32 (to_be_bytes w32 p.timestamp)
  pub ssrc : from_be_bytes w32 (drop 8 bytes) ≡ from_be_bytes w32 (to_be_bytes w32 p.ssrc)
  pub body : drop 12 bytes ≡ p.csrc ++ (p.extension ++ (p.payload ++ p.padding))
  pub long : 12 ≤ length bytes

begins : (p : Packet) → Begins (spelling p) p
unfolding spelling header
begins p = record {
  first = refl;
  second = refl;
  sequence = refl;
  timestamp = refl;
  ssrc = refl;
  body = append_assoc (p.csrc ++ p.extension) p.payload p.padding ∙ append_assoc p.csrc p.extension (p.payload ++ p.padding);
  long = omega arith;
}

pub flag_below : (xs : List ℕ) → flag xs < 2
flag_below [] = omega arith
flag_below (x ∷ xs) = omega arith

-- the bits of a first byte
record Bits (b p x n : ℕ) : Type 0 where
  pub version : b / 64 ≡ 2
  pub padding : b / 32 % 2 ≡ p
  pub extension : b / 16 % 2 ≡ x
  pub count : b % 16 ≡ n

bits_of : (b p x n : ℕ) → p < 2 → x < 2 → n < 16 → b ≡ 128 + 32 * p + 16 * x + n → Bits b p x n
bits_of b p x n hp hx hn is = record { version = omega arith; padding = omega arith; extension = omega arith; count = omega arith }

-- the extension that is there is as long as it says
record ExtensionAgain (x : Bool) (extension rest : List ℕ) : Type 0 where
  pub size : cond x (4 + 4 * from_be_bytes w16 (drop 2 (extension ++ rest))) 0 ≡ length extension
  pub there : (x && (ltb (length (extension ++ rest)) 4 || ltb (length (extension ++ rest)) (cond x (4 + 4 * from_be_bytes w16 (drop 2 (extension ++ rest))) 0))) ≡ false

extension_within : (size : ℕ) (extension rest : List ℕ) → 4 ≤ length extension → size ≡ length extension
    → (ltb (length (extension ++ rest)) 4 || ltb (length (extension ++ rest)) size) ≡ false
extension_within size extension rest long is =
    let total = length-append extension rest in
    rw (le-ltb (length (extension ++ rest)) 4 (omega arith), le-ltb (length (extension ++ rest)) size (omega arith)) refl

whole_again : (a b : ℕ) (words : List ℕ) (count : ℕ) (rest : List ℕ) → count < 2 ^ 16 → length words ≡ 4 * count
    → ExtensionAgain true (a ∷ b ∷ (to_be_bytes w16 count ++ words)) rest
whole_again a b words count rest fits long =
    let back : from_be_bytes w16 (to_be_bytes w16 count) ≡ count = from_be_bytes-to_be_bytes_2 count fits in
    let size : 4 + 4 * from_be_bytes w16 (to_be_bytes w16 count) ≡ length (a ∷ b ∷ (to_be_bytes w16 count ++ words)) = omega arith in
    record {
      size = size;
      there = extension_within (4 + 4 * from_be_bytes w16 (to_be_bytes w16 count)) (a ∷ b ∷ (to_be_bytes w16 count ++ words)) rest (omega arith) size;
    }

two_cells : (xs : List ℕ) → length xs ≡ 2 → (a b : ℕ) × (xs ≡ a ∷ b ∷ [])
two_cells [] h = absurd (omega arith)
two_cells (a ∷ []) h = absurd (omega arith)
two_cells (a ∷ b ∷ []) h = (a, b, refl)
two_cells (a ∷ b ∷ c ∷ xs) h = absurd (omega arith)

extension_again : (extension rest : List ℕ) → (extension ≡ []) ⊎ IsWholeExtension extension → ExtensionAgain (eqb (flag extension) 1) extension rest
extension_again [] rest h = record { size = refl; there = refl }
extension_again (b ∷ extension) rest (inl h) = absurd cc
extension_again (b ∷ extension) rest (inr h) =
    let two = two_cells h.profile h.short in
    let whole = whole_again two.0 two.1 h.words h.count rest h.fits h.long in
    let text : two.0 ∷ two.1 ∷ (to_be_bytes w16 h.count ++ h.words) ≡ b ∷ extension = ap (λ (profile : List ℕ). profile ++ to_be_bytes w16 h.count ++ h.words) (sym two.2) ∙ sym h.text in
    subst (λ (e : List ℕ). ExtensionAgain true e rest) text whole

-- the padding that is there is counted by the last byte
record PaddingAgain (x : Bool) (last : ℕ) (payload padding : List ℕ) : Type 0 where
  pub size : cond x last 0 ≡ length padding
  pub there : (x && (eqb (cond x last 0) 0 || ltb (length (payload ++ padding)) (cond x last 0))) ≡ false

padding_again : (last : ℕ) (payload padding : List ℕ) → (0 < length padding → last ≡ get_or padding (length padding - 1) 0)
    → (padding ≡ []) ⊎ IsWholePadding padding → PaddingAgain (eqb (flag padding) 1) last payload padding
padding_again last payload [] at h = record { size = refl; there = refl }
padding_again last payload (b ∷ padding) at (inl h) = absurd cc
padding_again last payload (b ∷ padding) at (inr h) =
    let all : List ℕ = b ∷ padding in
    let long : length all ≡ length h.front + 1 = ap length h.text ∙ length_push h.front (length h.front + 1) in
    let counted : get_or all (length all - 1) 0 ≡ length h.front + 1 =
    ap (λ (xs : List ℕ). get_or xs (length all - 1) 0) h.text ∙ get_or_push h.front (length h.front + 1) 0 (length all - 1) (omega arith) in
    let size : last ≡ length all = at (omega arith) ∙ counted ∙ sym long in
    let total = length-append payload all in
    let some : eqb last 0 ≡ false = grind (arith, nat_tests) in
    record { size = size; there = rw (some, le-ltb (length (payload ++ all)) last (omega arith)) refl }

-- the parts, as they are read again
record Parts (bytes : List ℕ) (p : Packet) : Type 0 where
  pub version : version bytes ≡ 2
  pub has_padding : has_padding bytes ≡ eqb (flag p.padding) 1
  pub has_extension : has_extension bytes ≡ eqb (flag p.extension) 1
  pub csrc : csrc_size bytes ≡ length p.csrc
  pub behind_csrc : behind_csrc bytes ≡ p.extension ++ (p.payload ++ p.padding)
  pub extension : extension_size bytes ≡ length p.extension
  pub there : lacks_extension bytes ≡ false
  pub behind_extension : behind_extension bytes ≡ p.payload ++ p.padding

count_again : (bytes : List ℕ) → AreCsrc bytes → (length bytes / 4 < 16) × (4 * (length bytes / 4) ≡ length bytes)
count_again bytes h = (omega (arith, h.1, h.2), omega (arith, h.2))

parts_again : (bytes : List ℕ) (p : Packet) → Begins bytes p → IsPacket p → Parts bytes p
parts_again bytes p h is =
    let count = count_again p.csrc is.csrc in
    let bits = bits_of (get_or bytes 0 0) (flag p.padding) (flag p.extension) (length p.csrc / 4) (flag_below p.padding) (flag_below p.extension) count.0 h.first in
    let has_padding : has_padding bytes ≡ eqb (flag p.padding) 1 = ap (λ (n : ℕ). eqb n 1) bits.padding in
    let has_extension : has_extension bytes ≡ eqb (flag p.extension) 1 = ap (λ (n : ℕ). eqb n 1) bits.extension in
    let csrc : csrc_size bytes ≡ length p.csrc = ap (λ (n : ℕ). 4 * n) bits.count ∙ count.1 in
    let behind : behind_csrc bytes ≡ p.extension ++ (p.payload ++ p.padding) =
    ap (λ (body : List ℕ). drop (csrc_size bytes) body) h.body ∙ drop_at p.csrc (p.extension ++ (p.payload ++ p.padding)) (csrc_size bytes) (sym csrc) in
    let again = extension_again p.extension (p.payload ++ p.padding) is.extension in
    let size : extension_size bytes ≡ length p.extension = rw (has_extension, behind) again.size in
    record {
      version = bits.version;
      has_padding = has_padding;
      has_extension = has_extension;
      csrc = csrc;
      behind_csrc = behind;
      extension = size;
      there = rw (has_extension, behind) again.there;
      behind_extension = ap (λ (rest : List ℕ). drop (extension_size bytes) rest) behind ∙ drop_at p.extension (p.payload ++ p.padding) (extension_size bytes) (sym size);
    }

-- the last byte of the padding is the last byte
last_again : (bytes : List ℕ) (p : Packet) → Parts bytes p → 0 < length p.padding → get_or bytes (length bytes - 1) 0 ≡ get_or p.padding (length p.padding - 1) 0
last_again bytes p parts some =
    let total = length-append p.payload p.padding in
    let long : length (behind_extension bytes) ≡ length p.payload + length p.padding = ap length parts.behind_extension ∙ total in
    let last = last_of_rest 12 (csrc_size bytes) (extension_size bytes) bytes (omega arith) in
    sym last
    ∙ ap (λ (rest : List ℕ). get_or rest (length rest - 1) 0) parts.behind_extension
    ∙ get_or-append_right p.payload p.padding (length p.payload) (length (p.payload ++ p.padding) - 1) 0 refl (omega arith)
    ∙ ap (λ (i : ℕ). get_or p.padding i 0) (omega arith)

second_again : (m : Bool) (t b : ℕ) → t < 128 → b ≡ (if m then 128 else 0) + t → ((b / 128 == 1) ≡ m) × (b % 128 ≡ t)
second_again true t b h is = (eq-eqb _ _ (omega arith), omega arith)
second_again false t b h is = (let zero_high : b / 128 ≡ 0 = omega arith in rw zero_high refl, omega arith)

abbrev packet : Bool → ℕ → ℕ → ℕ → ℕ → List ℕ → List ℕ → List ℕ → List ℕ → Packet
packet m t s n i c x y z = record { marker = m; payload_type = t; sequence = s; timestamp = n; ssrc = i; csrc = c; extension = x; payload = y; padding = z }

same_packet : (p q : Packet) → p.marker ≡ q.marker → p.payload_type ≡ q.payload_type → p.sequence ≡ q.sequence → p.timestamp ≡ q.timestamp
    → p.ssrc ≡ q.ssrc → p.csrc ≡ q.csrc → p.extension ≡ q.extension → p.payload ≡ q.payload → p.padding ≡ q.padding → p ≡ q
same_packet p q marker type sequence timestamp ssrc csrc extension payload padding =
    let all : packet p.marker p.payload_type p.sequence p.timestamp p.ssrc p.csrc p.extension p.payload p.padding
    ≡ packet q.marker q.payload_type q.sequence q.timestamp q.ssrc q.csrc q.extension q.payload q.padding = cc in
    all

-- what stands behind the header extension, cut where the padding begins
padding_size_again : (bytes : List ℕ) (p : Packet) → Parts bytes p → PaddingAgain (eqb (flag p.padding) 1) (get_or bytes (length bytes - 1) 0) p.payload p.padding
    → padding_size bytes ≡ length p.padding
padding_size_again bytes p parts again = rw parts.has_padding again.size

payload_size_again : (bytes : List ℕ) (p : Packet) → Parts bytes p → padding_size bytes ≡ length p.padding
    → length (behind_extension bytes) - padding_size bytes ≡ length p.payload
payload_size_again bytes p parts size =
    let total = length-append p.payload p.padding in
    let long : length (behind_extension bytes) ≡ length p.payload + length p.padding = ap length parts.behind_extension ∙ total in
    omega arith

fields_again : (bytes : List ℕ) (p : Packet) → Begins bytes p → IsPacket p → Parts bytes p → padding_size bytes ≡ length p.padding → fields_of bytes ≡ p
unfolding fields_of
fields_again bytes p h is parts size =
    let second = second_again p.marker p.payload_type (get_or bytes 1 0) is.payload_type h.second in
    let rest = payload_size_again bytes p parts size in
    let n : ℕ = length (behind_extension bytes) - padding_size bytes in
    same_packet (fields_of bytes) p
    second.0
    second.1
    (h.sequence ∙ from_be_bytes-to_be_bytes_2 p.sequence is.sequence)
    (h.timestamp ∙ from_be_bytes-to_be_bytes_4 p.timestamp is.timestamp)
    (h.ssrc ∙ from_be_bytes-to_be_bytes_4 p.ssrc is.ssrc)
    (ap (λ (body : List ℕ). take (csrc_size bytes) body) h.body ∙ take_at p.csrc (p.extension ++ (p.payload ++ p.padding)) (csrc_size bytes) (sym parts.csrc))
    (ap (λ (body : List ℕ). take (extension_size bytes) body) parts.behind_csrc ∙ take_at p.extension (p.payload ++ p.padding) (extension_size bytes) (sym parts.extension))
    (ap (λ (body : List ℕ). take n body) parts.behind_extension ∙ take_at p.payload p.padding n (sym rest))
    (ap (λ (body : List ℕ). drop n body) parts.behind_extension ∙ drop_at p.payload p.padding n (sym rest))

no_fault_again : (bytes : List ℕ) (p : Packet) → Begins bytes p → Parts bytes p
    → PaddingAgain (eqb (flag p.padding) 1) (get_or bytes (length bytes - 1) 0) p.payload p.padding → HasNoFault bytes
no_fault_again bytes p h parts again = record {
  short = h.long;
  version = parts.version;
  csrc = omega (arith, parts.csrc, ap length h.body, length-append p.csrc (p.extension ++ (p.payload ++ p.padding)), length-drop 12 bytes, h.long);
  extension = parts.there;
  padding = rw (parts.has_padding, parts.behind_extension) again.there;
}

read_again : (bytes : List ℕ) (p : Packet) → Begins bytes p → IsPacket p → packet_at bytes ≡ Ok p
read_again bytes p h is =
    let parts = parts_again bytes p h is in
    let again = padding_again (get_or bytes (length bytes - 1) 0) p.payload p.padding (last_again bytes p parts) is.padding in
    let size = padding_size_again bytes p parts again in
    read_without_fault bytes (no_fault_again bytes p h parts again) ∙ ap (λ (q : Packet). Ok q) (fields_again bytes p h is parts size)

-- the spelling of a packet is read as this packet
pub read_so : (p : Packet) → IsPacket p → packet_at (spelling p) ≡ Ok p
read_so p is = read_again (spelling p) p (begins p) is
