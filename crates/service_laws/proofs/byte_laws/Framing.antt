-- Packets and TLVs as the laws have them are those of the formats.
use Rattle.std.proofs.Common.{◌≡◌, ℕ, ◌+◌, ◌*◌, ◌/◌, ◌%◌, ◌≤◌, inl, inr, ⊎_elim, ◌⊎◌, Bool, true, false, cond, ◌||◌, List, [], ◌∷◌, ◌++◌, length, refl, ap, sym, ◌∙◌, subst, arith, eqb}
use Rattle.std.specs.Int.{w16, to_be_bytes}
use Rattle.std.proofs.lemmas.Bool.{cond_both, or_cases, eqb-true}
use Rattle.rams_model.specs.Formats.{flag, Joins, Framed, least_body, IsRtcpPacket, IsCompound, Tlv, IsTlv, IsMessage, request_length, stop_length}
use Rattle.service_laws.specs.byte_laws.{padding_bit, IsRtcp, IsDatagram, is_length_in_request, is_length_in_stop}

-- pieces of one kind that are of another
joins_too : {Piece : Type 0} (P Q : List ℕ → Piece → Type 0) → ((front : List ℕ) (p : Piece) → P front p → Q front p) → (bytes : List ℕ) (ps : List Piece) → Joins P bytes ps → Joins Q bytes ps
joins_too P Q each bytes [] j = j
joins_too P Q each bytes (p ∷ ps) (front, rest, piece, e, j) = (front, rest, each front p piece, e, joins_too P Q each rest ps j)

-- ---- packets

bit_is : (padding : List ℕ) (count : ℕ) → 128 + padding_bit padding + count ≡ 128 + 32 * flag padding + count
bit_is [] count = refl
bit_is (b ∷ padding) count = refl

-- what stands behind the first byte
abbrev tail : Framed → List ℕ → List ℕ
tail p padding = p.kind ∷ (to_be_bytes w16 ((length p.body + length padding) / 4) ++ p.body ++ padding)

least_is : (p : Framed) → (p.kind ≡ 203 → 4 * p.count ≤ length p.body) → ((p.kind ≡ 205) ⊎ (p.kind ≡ 206) → 8 ≤ length p.body) → least_body p.kind p.count ≤ length p.body
least_is p sources ssrcs =
    cond_both (eqb p.kind 203) (4 * p.count) (cond (eqb p.kind 205 || eqb p.kind 206) 8 0) (λ n. n ≤ length p.body) (λ t. sources (eqb-true p.kind 203 t))
    (λ f. cond_both (eqb p.kind 205 || eqb p.kind 206) 8 0 (λ n. n ≤ length p.body)
    (λ t. ⊎_elim (λ a. ssrcs (inl (eqb-true p.kind 205 a))) (λ b. ssrcs (inr (eqb-true p.kind 206 b))) (or_cases (eqb p.kind 205) (eqb p.kind 206) t)) (λ g. omega arith))

packet_is : (front : List ℕ) (p : Framed) → IsRtcp front p → IsRtcpPacket front p
packet_is front p is = record {
  padding = is.padding;
  text = is.text ∙ ap (λ (b : ℕ). b ∷ tail p is.padding) (bit_is is.padding p.count);
  count = is.count;
  words = is.words;
  size = is.size;
  whole = is.whole;
  counted = is.counted;
  body = least_is p is.sources is.ssrcs;
}

is_packet : (front : List ℕ) (p : Framed) → IsRtcpPacket front p → IsRtcp front p
is_packet front p is = record {
  padding = is.padding;
  text = is.text ∙ ap (λ (b : ℕ). b ∷ tail p is.padding) (sym (bit_is is.padding p.count));
  count = is.count;
  words = is.words;
  size = is.size;
  whole = is.whole;
  counted = is.counted;
  sources = λ e. subst (λ (k : ℕ). least_body k p.count ≤ length p.body) e is.body;
  ssrcs = ⊎_elim (λ e. subst (λ (k : ℕ). least_body k p.count ≤ length p.body) e is.body) (λ e. subst (λ (k : ℕ). least_body k p.count ≤ length p.body) e is.body);
}

pub datagram_is : (bytes : List ℕ) (ps : List Framed) → IsDatagram bytes ps → IsCompound bytes ps
datagram_is bytes ps d = (d.0, joins_too IsRtcp IsRtcpPacket packet_is bytes ps d.1)

pub is_datagram : (bytes : List ℕ) (ps : List Framed) → IsCompound bytes ps → IsDatagram bytes ps
is_datagram bytes ps d = (d.0, joins_too IsRtcpPacket IsRtcp is_packet bytes ps d.1)

-- ---- TLVs

either : (a b x y : Bool) → cond a x (cond b x y) ≡ cond (a || b) x y
either true b x y = refl
either false b x y = refl

request_same : (kind n : ℕ) → is_length_in_request kind n ≡ request_length kind n
request_same kind n =
    ap (λ (rest : Bool). cond (eqb kind 1) (eqb (n % 4) 0) rest) (either (eqb kind 2) (eqb kind 3) (eqb n 4) (cond (eqb kind 4) (eqb n 8) (cond (eqb kind 5) (eqb n 0) true)))

tlv_too : (l m : ℕ → ℕ → Bool) → ((kind n : ℕ) → l kind n ≡ m kind n) → (front : List ℕ) (t : Tlv) → IsTlv l front t → IsTlv m front t
tlv_too l m same front t is = record {
  reserved = is.reserved;
  filling = is.filling;
  text = is.text;
  size = is.size;
  fills = is.fills;
  lawful = sym (same t.kind (length t.value)) ∙ is.lawful;
}

message_too : (sfmt : ℕ) (l m : ℕ → ℕ → Bool) → ((kind n : ℕ) → l kind n ≡ m kind n) → (fci : List ℕ) (ts : List Tlv) → IsMessage sfmt l fci ts → IsMessage sfmt m fci ts
message_too sfmt l m same fci ts (a, b, c, rest, e, j) = (a, b, c, rest, e, joins_too (IsTlv l) (IsTlv m) (tlv_too l m same) rest ts j)

pub request_message : (fci : List ℕ) (ts : List Tlv) → IsMessage 1 is_length_in_request fci ts → IsMessage 1 request_length fci ts
request_message = message_too 1 is_length_in_request request_length request_same

pub message_request : (fci : List ℕ) (ts : List Tlv) → IsMessage 1 request_length fci ts → IsMessage 1 is_length_in_request fci ts
message_request = message_too 1 request_length is_length_in_request (λ kind n. sym (request_same kind n))

pub stop_message : (fci : List ℕ) (ts : List Tlv) → IsMessage 3 is_length_in_stop fci ts → IsMessage 3 stop_length fci ts
stop_message = message_too 3 is_length_in_stop stop_length (λ kind n. refl)

pub message_stop : (fci : List ℕ) (ts : List Tlv) → IsMessage 3 stop_length fci ts → IsMessage 3 is_length_in_stop fci ts
message_stop = message_too 3 stop_length is_length_in_stop (λ kind n. refl)
