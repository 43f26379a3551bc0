-- RTCP packets are read as they are spelled.
use Rattle.std.proofs.Common.{◌≡◌, ℕ, suc, ◌+◌, ◌-◌, ◌*◌, ◌/◌, ◌%◌, ◌^◌, ◌≤◌, ◌<◌, ◌⊎◌, inl, inr, Bool, true, false, List, [], ◌∷◌, ◌++◌, length, take, drop, get_or, Option, None, Some, Ok, refl, sym, ◌∙◌, ap, subst, arith, length-take, length-drop, length-append, get_or-drop, get_or-take, get_or-append-add, lt-ltb, append_assoc, append-nil, take_at, take-add, ltb, eq-eqb, le-ltb, leb, le-leb}
use Rattle.std.specs.Prelude.{if◌then◌else◌, ◌||◌, ◌&&◌, ◌==◌, not, nat_lt, nat_le}
use Rattle.std.specs.Int.{w16, w32, to_be_bytes, from_be_bytes}
use Rattle.std.proofs.lemmas.Nat.{be_bytes_2, from_be_bytes-to_be_bytes_2, from_be_bytes-to_be_bytes_4}
use Rattle.std.proofs.lemmas.List.{get_or_append_left}
use Rattle.std.proofs.lemmas.Bool.{ne_eqb, and_parts, eqb-true, eqb-false, ltb-true, leb-true}
use Rattle.std.proofs.lemmas.Bool.Decides.{nat_tests}
use Rattle.rams_model.specs.Formats.{Joins, flag, Framed, IsRtcpPacket, packet_text, packet_format, packet_fault, packet_size, rtcp_padding, is_padded, is_padding_right, least_body, framed_first, framed, IsCompound, transport_feedback, Feedback, FramesAs}
use Rattle.rams_model.proofs.JoinedLaws.{joins_one, Spells, ReadsAs, spelled_as_read, read_as_spelled}
use Rattle.rams_model.proofs.PlainPackets.{pair_below}

-- a packet in which nothing is wrong
record IsWhole (bytes : List ℕ) : Type 0 where
  header : 4 ≤ length bytes
  version : get_or bytes 0 0 / 64 ≡ 2
  within : packet_size bytes ≤ length bytes
  padding : is_padding_right bytes ≡ true
  body : least_body (get_or bytes 1 0) (get_or bytes 0 0 % 32) ≤ packet_size bytes - rtcp_padding bytes - 4

whole_packet : (bytes : List ℕ) → packet_fault bytes ≡ None → IsWhole bytes
whole_packet bytes h = record {
  header = grind (arith, nat_tests, h);
  version = grind (arith, nat_tests, h);
  within = grind (arith, nat_tests, h);
  padding = grind (arith, nat_tests, h);
  body = grind (arith, nat_tests, h);
}

-- What the padding bit and the last byte say: p bytes of padding, none or whole words.
record Pads (a size last p : ℕ) : Type 0 where
  most : p ≤ size - 4
  whole : p % 4 ≡ 0
  counted : 0 < p → last ≡ p
  first : ((p ≡ 0) × (a ≡ 128 + a % 32)) ⊎ ((0 < p) × (a ≡ 160 + a % 32))

padding_said : (b : Bool) (a size last : ℕ) → (a / 32 % 2 == 1) ≡ b → a / 64 ≡ 2 → a < 256
    → (not b || (nat_lt 0 (if b then last else 0) && (if b then last else 0) % 4 == 0 && nat_le (if b then last else 0) (size - 4))) ≡ true → Pads a size last (if b then last else 0)
padding_said false a size last e v h ok =
    let bit : a / 32 % 2 ≡ 1 → ⊥ = eqb-false (a / 32 % 2) 1 e in
    record { most = omega arith; whole = refl; counted = λ (k : 0 < 0). absurd (omega arith); first = inl (refl, omega arith) }
padding_said true a size last e v h ok =
    let bit : a / 32 % 2 ≡ 1 = eqb-true (a / 32 % 2) 1 e in
    let parts = and_parts (ltb 0 last && last % 4 == 0) (leb last (size - 4)) ok in
    let some = and_parts (ltb 0 last) (last % 4 == 0) parts.0 in
    let positive = ltb-true 0 last some.0 in
    record {
      most = leb-true last (size - 4) parts.1;
      whole = eqb-true (last % 4) 0 some.1;
      counted = λ k. refl;
      first = inr (positive, omega arith);
    }

-- the first byte, by its parts
first_byte : (a p : ℕ) (padding : List ℕ) → ((p ≡ 0) × (a ≡ 128 + a % 32)) ⊎ ((0 < p) × (a ≡ 160 + a % 32)) → length padding ≡ p → 128 + 32 * flag padding + a % 32 ≡ a
first_byte a p [] (inl (e, h)) l = omega arith
first_byte a p [] (inr (e, h)) l = absurd (omega arith)
first_byte a p (x ∷ padding) (inl (e, h)) l = absurd (omega arith)
first_byte a p (x ∷ padding) (inr (e, h)) l = omega arith

-- the bytes behind the first word
take_words : (w a k h l : ℕ) (rest : List ℕ) → take (4 * (w + 1)) (a ∷ k ∷ h ∷ l ∷ rest) ≡ a ∷ k ∷ h ∷ l ∷ take (4 * w) rest
take_words w a k h l rest = let four : 4 * (w + 1) ≡ suc (suc (suc (suc (4 * w)))) = omega arith in ap (λ (j : ℕ). take j (a ∷ k ∷ h ∷ l ∷ rest)) four

two_parts : (rest : List ℕ) (n p size : ℕ) → size ≡ n + p → take size rest ≡ take n rest ++ take p (drop n rest)
two_parts rest n p size e = ap (λ (j : ℕ). take j rest) e ∙ take-add n p rest

-- the last byte of the packet is the last of its padding
last_of_padding : (a k h l w n p : ℕ) (rest : List ℕ) → n + p ≡ 4 * w → 0 < p → get_or (take p (drop n rest)) (p - 1) 0 ≡ get_or (a ∷ k ∷ h ∷ l ∷ rest) (4 * (w + 1) - 1) 0
last_of_padding a k h l w n p rest fits some =
    let place : 4 * (w + 1) - 1 ≡ suc (suc (suc (suc (n + (p - 1))))) = omega arith in
    get_or-take p (drop n rest) (p - 1) 0 (omega arith) ∙ get_or-drop n rest (p - 1) 0 ∙ ap (λ (j : ℕ). get_or (a ∷ k ∷ h ∷ l ∷ rest) j 0) (sym place)

text_of : (a k h l w n p : ℕ) (rest : List ℕ) → n + p ≡ 4 * w → to_be_bytes w16 w ≡ h ∷ l ∷ [] → length (take n rest) ≡ n → length (take p (drop n rest)) ≡ p
    → 128 + 32 * flag (take p (drop n rest)) + a % 32 ≡ a
    → take (4 * (w + 1)) (a ∷ k ∷ h ∷ l ∷ rest) ≡ packet_text (record { kind = k; count = a % 32; body = take n rest }) (take p (drop n rest))
text_of a k h l w n p rest fits again body_len padding_len first =
    let body = take n rest in
    let padding = take p (drop n rest) in
    let words : (length body + length padding) / 4 ≡ w = omega arith in
    take_words w a k h l rest ∙ ap (λ (r : List ℕ). a ∷ k ∷ h ∷ l ∷ r) (two_parts rest n p (4 * w) (sym fits))
    ∙ ap (λ (b : ℕ). b ∷ k ∷ h ∷ l ∷ (body ++ padding)) (sym first)
    ∙ ap (λ (m : List ℕ). (128 + 32 * flag padding + a % 32) ∷ k ∷ (m ++ body ++ padding)) (sym (ap (to_be_bytes w16) words ∙ again))

packet_is : (a k h l w n p last : ℕ) (rest : List ℕ) → Pads a (4 * (w + 1)) last p → n + p ≡ 4 * w → 4 * w ≤ length rest → to_be_bytes w16 w ≡ h ∷ l ∷ [] → w < 65536
    → last ≡ get_or (a ∷ k ∷ h ∷ l ∷ rest) (4 * (w + 1) - 1) 0 → least_body k (a % 32) ≤ n
    → IsRtcpPacket (take (4 * (w + 1)) (a ∷ k ∷ h ∷ l ∷ rest)) (record { kind = k; count = a % 32; body = take n rest })
packet_is a k h l w n p last rest pads fits within again few el least =
    let body_len : length (take n rest) ≡ n = simp length-take (omega arith) in
    let padding_len : length (take p (drop n rest)) ≡ p = simp (length-take, length-drop) (omega arith) in
    record {
      padding = take p (drop n rest);
      text = text_of a k h l w n p rest fits again body_len padding_len (first_byte a p (take p (drop n rest)) pads.first padding_len);
      count = omega arith;
      words = omega arith;
      size = omega arith;
      whole = omega (arith, pads.whole);
      counted = λ some.
          let positive : 0 < p = omega arith in
          ap (λ (j : ℕ). get_or (take p (drop n rest)) (j - 1) 0) padding_len ∙ last_of_padding a k h l w n p rest fits positive ∙ sym el ∙ pads.counted positive ∙ sym padding_len;
      body = omega (arith, least);
    }

spelled_packet : (bytes : List ℕ) → ((i : ℕ) → get_or bytes i 0 < 256) → packet_fault bytes ≡ None → IsRtcpPacket (take (packet_size bytes) bytes) (framed_first bytes)
spelled_packet (a ∷ k ∷ h ∷ l ∷ rest) small ok =
    let bytes = a ∷ k ∷ h ∷ l ∷ rest in
    let whole = whole_packet bytes ok in
    let w = from_be_bytes w16 (h ∷ l ∷ []) in
    let p = rtcp_padding bytes in
    let last = get_or bytes (packet_size bytes - 1) 0 in
    let pads = padding_said (is_padded bytes) a (packet_size bytes) last refl whole.version (small 0) whole.padding in
    let again = be_bytes_2 (h ∷ l ∷ []) w refl (pair_below h l (small 2) (small 3)) refl in
    packet_is a k h l w (packet_size bytes - p - 4) p last rest pads (omega (arith, pads.most)) (omega (arith, whole.within)) again (omega (arith, small 2, small 3)) refl whole.body
spelled_packet [] small ok = absurd (omega (arith, (whole_packet [] ok).header))
spelled_packet (a ∷ []) small ok = absurd (omega (arith, (whole_packet (a ∷ []) ok).header))
spelled_packet (a ∷ k ∷ []) small ok = absurd (omega (arith, (whole_packet (a ∷ k ∷ []) ok).header))
spelled_packet (a ∷ k ∷ h ∷ []) small ok = absurd (omega (arith, (whole_packet (a ∷ k ∷ h ∷ []) ok).header))

no_fault : (bytes : List ℕ) → 4 ≤ length bytes → get_or bytes 0 0 / 64 ≡ 2 → packet_size bytes ≤ length bytes → is_padding_right bytes ≡ true
    → least_body (get_or bytes 1 0) (get_or bytes 0 0 % 32) ≤ packet_size bytes - rtcp_padding bytes - 4 → packet_fault bytes ≡ None
no_fault bytes header version within padding body =
    let a : ltb (length bytes) 4 ≡ false = le-ltb (length bytes) 4 header in
    let b : (get_or bytes 0 0 / 64 == 2) ≡ true = eq-eqb (get_or bytes 0 0 / 64) 2 version in
    let c : ltb (length bytes) (packet_size bytes) ≡ false = le-ltb (length bytes) (packet_size bytes) within in
    let d : ltb (packet_size bytes - rtcp_padding bytes - 4) (least_body (get_or bytes 1 0) (get_or bytes 0 0 % 32)) ≡ false =
    le-ltb (packet_size bytes - rtcp_padding bytes - 4) (least_body (get_or bytes 1 0) (get_or bytes 0 0 % 32)) body in
    rw (a, b, c, padding, d) refl

-- the last byte of the padding is the last of the packet
last_said : (a k h l size : ℕ) (body padding rest : List ℕ) → size ≡ 4 + length body + length padding → 0 < length padding
    → get_or (a ∷ k ∷ h ∷ l ∷ (body ++ padding ++ rest)) (size - 1) 0 ≡ get_or padding (length padding - 1) 0
last_said a k h l size body padding rest e some =
    let place : size - 1 ≡ suc (suc (suc (suc (length body + (length padding - 1))))) = omega arith in
    ap (λ (j : ℕ). get_or (a ∷ k ∷ h ∷ l ∷ (body ++ padding ++ rest)) j 0) place
    ∙ get_or_append_left (body ++ padding) rest 0 (length body + (length padding - 1)) (omega (arith, length-append body padding))
    ∙ get_or-append-add body padding (length padding - 1) 0

-- what is said of the padding of a packet that is spelled so
padding_read : (count kind h l : ℕ) (body padding rest : List ℕ) → count < 32 → length padding % 4 ≡ 0 → (0 < length padding → get_or padding (length padding - 1) 0 ≡ length padding)
    → packet_size ((128 + 32 * flag padding + count) ∷ kind ∷ h ∷ l ∷ (body ++ padding ++ rest)) ≡ 4 + length body + length padding
    → (rtcp_padding ((128 + 32 * flag padding + count) ∷ kind ∷ h ∷ l ∷ (body ++ padding ++ rest)) ≡ length padding)
    × (is_padding_right ((128 + 32 * flag padding + count) ∷ kind ∷ h ∷ l ∷ (body ++ padding ++ rest)) ≡ true)
padding_read count kind h l body [] rest few whole counted size =
    let bit : ((128 + 32 * 0 + count) / 32 % 2 == 1) ≡ false = ne_eqb ((128 + 32 * 0 + count) / 32 % 2) 1 (λ e. omega arith) in
    (rw bit refl, rw bit refl)
padding_read count kind h l body (x ∷ padding) rest few whole counted size =
    let m = length (x ∷ padding) in
    let all = (128 + 32 * 1 + count) ∷ kind ∷ h ∷ l ∷ (body ++ x ∷ padding ++ rest) in
    let bit : ((128 + 32 * 1 + count) / 32 % 2 == 1) ≡ true = eq-eqb ((128 + 32 * 1 + count) / 32 % 2) 1 (omega arith) in
    let last : get_or all (packet_size all - 1) 0 ≡ m = last_said (128 + 32 * 1 + count) kind h l (packet_size all) body (x ∷ padding) rest size (omega arith) ∙ counted (omega arith) in
    let said : rtcp_padding all ≡ m = ap (λ (b : Bool). if b then get_or all (packet_size all - 1) 0 else 0) bit ∙ last in
    let some : ltb 0 m ≡ true = lt-ltb 0 m (omega arith) in
    let words : (m % 4 == 0) ≡ true = eq-eqb (m % 4) 0 whole in
    let most : leb m (packet_size all - 4) ≡ true = le-leb m (packet_size all - 4) (omega arith) in
    let right : (nat_lt 0 m && m % 4 == 0 && nat_le m (packet_size all - 4)) ≡ true = rw (some, words, most) refl in (
      said,
      ap (λ (b : Bool). not b || (nat_lt 0 (rtcp_padding all) && rtcp_padding all % 4 == 0 && nat_le (rtcp_padding all) (packet_size all - 4))) bit
          ∙ ap (λ (q : ℕ). nat_lt 0 q && q % 4 == 0 && nat_le q (packet_size all - 4)) said ∙ right,
    )

flag_below : (padding : List ℕ) → flag padding ≤ 1
flag_below [] = omega arith
flag_below (x ∷ padding) = omega arith

same_framed : (kind : ℕ) {c d : ℕ} {xs ys : List ℕ} → c ≡ d → xs ≡ ys → ◌≡◌ {A = Framed} (record { kind = kind; count = c; body = xs }) (record { kind = kind; count = d; body = ys })
same_framed kind e h = cc

-- bytes are no packets only where there are none
not_none : (b : ℕ) (bytes : List ℕ) (ps : List Framed) → Joins IsRtcpPacket (b ∷ bytes) ps → 0 < length ps
not_none b bytes [] h = cc
not_none b bytes (p ∷ ps) h = omega arith

packet_read : (kind count : ℕ) (body padding rest : List ℕ) → count < 32 → (length body + length padding) % 4 ≡ 0 → length body + length padding < 262144 → length padding % 4 ≡ 0
    → (0 < length padding → get_or padding (length padding - 1) 0 ≡ length padding) → least_body kind count ≤ length body
    → ReadsAs packet_format (packet_text (record { kind = kind; count = count; body = body }) padding) rest (record { kind = kind; count = count; body = body })
packet_read kind count body padding rest few words short whole counted least =
    let n = length body in
    let m = length padding in
    let w = (n + m) / 4 in
    let p : Framed = record { kind = kind; count = count; body = body } in
    let text = packet_text p padding in
    let all = text ++ rest in
    let first = 128 + 32 * flag padding + count in
    let named : from_be_bytes w16 (to_be_bytes w16 w) ≡ w = from_be_bytes-to_be_bytes_2 w (omega arith) in
    let size : packet_size all ≡ 4 + n + m = omega (arith, named) in
    let pads = padding_read count kind (w / 256 % 256) (w % 256) body padding rest few whole counted size in
    let kept = flag_below padding in
    let low : first % 32 ≡ count = omega arith in
    let long : length all ≡ 4 + n + m + length rest = omega (arith, length-append (body ++ padding) rest, length-append body padding) in
    let behind : packet_size all - rtcp_padding all - 4 ≡ n = omega (arith, pads.0) in
    record {
      fault = no_fault all (omega arith) (omega arith) (omega arith) pads.1 (rw (low, behind) least);
      piece = same_framed kind low
          (ap (λ (j : ℕ). take j (body ++ padding ++ rest)) behind ∙ ap (take n) (append_assoc body padding rest) ∙ take_at body (padding ++ rest) n refl);
      size = size ∙ omega (arith, length-append body padding);
      long = omega arith;
    }

-- a packet in front of other bytes is read, and nothing of what follows it
pub packets_are_spelled : Spells packet_format IsRtcpPacket
packets_are_spelled = record {
  long = λ bytes. omega arith;
  spelled = spelled_packet;
  read = λ front rest p h. subst (λ (f : List ℕ). ReadsAs packet_format f rest p) (sym h.text) (packet_read p.kind p.count p.body h.padding rest h.count h.words h.size h.whole h.counted h.body);
}

-- what is read of a datagram is spelled so
pub datagram_spelled : (datagram : List ℕ) (ps : List Framed) → ((i : ℕ) → get_or datagram i 0 < 256) → framed datagram ≡ Ok ps → IsCompound datagram ps
datagram_spelled [] ps small h = cc
datagram_spelled (b ∷ bytes) ps small h =
    let joins = spelled_as_read packet_format IsRtcpPacket packets_are_spelled (b ∷ bytes) small ps h in
    (not_none b bytes ps joins, joins)

-- what is spelled so is read
pub datagram_read : (datagram : List ℕ) (ps : List Framed) → IsCompound datagram ps → framed datagram ≡ Ok ps
datagram_read [] [] h = absurd (omega (arith, h.0))
datagram_read [] (p ∷ ps) (some, (front, rest, packet, e, joins)) = absurd (omega (arith, (packets_are_spelled.read front rest p packet).long, ap length e, length-append front rest))
datagram_read (b ∷ bytes) ps h = read_as_spelled packet_format IsRtcpPacket packets_are_spelled (b ∷ bytes) ps h.1

-- ---- what is written is read back

same_feedback : (format : ℕ) (fci : List ℕ) {a b c d : ℕ} → a ≡ b → c ≡ d
    → ◌≡◌ {A = Option Feedback} (Some (record { sender = a; media = c; format = format; fci = fci })) (Some (record { sender = b; media = d; format = format; fci = fci }))
same_feedback format fci h k = cc

pub packet_written_back : (p : Framed) → p.count < 32 → length p.body % 4 ≡ 0 → length p.body < 262144 → least_body p.kind p.count ≤ length p.body → framed (packet_text p []) ≡ Ok (p ∷ [])
packet_written_back p few words short least =
    let is : IsRtcpPacket (packet_text p []) p = record {
      padding = [];
      text = refl;
      count = few;
      words = omega (arith, words);
      size = omega (arith, short);
      whole = refl;
      counted = λ h. absurd (omega arith);
      body = least;
    } in
    datagram_read (packet_text p []) (p ∷ []) (omega arith, joins_one IsRtcpPacket (packet_text p []) p is)

-- feedback as it is framed
pub feedback_written_back : (format sender media : ℕ) (fci : List ℕ) → format < 32 → sender < 2 ^ 32 → media < 2 ^ 32 → length fci % 4 ≡ 0 → length fci < 262136
    → FramesAs format sender media fci
feedback_written_back format sender media fci few hs hm words short =
    let body = to_be_bytes w32 sender ++ to_be_bytes w32 media ++ fci in
    let p : Framed = record { kind = 205; count = format; body = body } in
    let size : (length body + 0) / 4 ≡ 2 + length fci / 4 = omega arith in
    let long : leb 8 (length body) ≡ true = le-leb 8 (length body) (omega arith) in
    let zero : 128 + 32 * 0 + format ≡ 128 + format = omega arith in
    let text : packet_text p [] ≡ transport_feedback format sender media fci =
    ap (λ (j : ℕ). (128 + 32 * 0 + format) ∷ 205 ∷ (to_be_bytes w16 j ++ body ++ [])) size ∙ ap (λ (l : List ℕ). (128 + 32 * 0 + format) ∷ 205 ∷ (to_be_bytes w16 (2 + length fci / 4) ++ l)) (append-nil body)
    ∙ ap (λ (b : ℕ). b ∷ 205 ∷ (to_be_bytes w16 (2 + length fci / 4) ++ body)) zero in
    record {
      packet = p;
      framed = ap framed (sym text) ∙ packet_written_back p few (omega arith) (omega arith) (omega arith);
      feedback = rw long (same_feedback format fci (from_be_bytes-to_be_bytes_4 sender hs) (from_be_bytes-to_be_bytes_4 media hm));
    }
