-- The retransmission of a packet without padding brings the packet again byte for byte.
use Rattle.std.proofs.Common.{◌≡◌, ℕ, ◌<◌, ◌^◌, Bool, true, false, cond, inl, List, [], ◌++◌, length, Ok, refl, ap, sym, ◌∙◌, arith, eqb, ltb, length-append}
use Rattle.std.specs.Int.{w16, to_be_bytes}
use Rattle.std.proofs.lemmas.Bool.{and_parts, and_from, eq-eqb, eqb-true, le-ltb}
use Rattle.std.proofs.lemmas.List.{nil_from_length}
use Rattle.std.proofs.lemmas.Nat.{from_be_bytes-to_be_bytes_2}
use Rattle.rams_model.specs.declared.MediaCame.TheVariants as came
use Rattle.rams_model.specs.declared.Tuned.{Tuned}
use Rattle.rams_model.specs.Formats.{Packet, header, spelling, stripped, packet_at, original, original_number, IsPacket}
use Rattle.rams_model.specs.Receiver.{Media, again, unfit, is_of, again_of, read_again, brought_again}
use Rattle.rams_model.specs.Service.{sent_again}
use Rattle.rams_model.proofs.RtpPackets.{read_so}

abbrev bare : Packet → Packet
bare p = record p { padding = [] }

heads_are_long : (p : Packet) → length (header p) ≡ length (header (bare p))
unfolding header
heads_are_long p = refl

-- a packet that is no longer than without its padding has none
no_padding : (p : Packet) → length (stripped p) ≡ length (spelling p) → p.padding ≡ []
unfolding spelling
no_padding p same =
    let none : List ℕ = [] in
    let h = header p in
    let k = header (bare p) in
    let long : length (k ++ p.csrc ++ p.extension ++ p.payload ++ none) ≡ length (h ++ p.csrc ++ p.extension ++ p.payload ++ p.padding) = same in
    nil_from_length p.padding (omega (
      arith,
      long,
      heads_are_long p,
      length-append (h ++ p.csrc ++ p.extension ++ p.payload) p.padding,
      length-append (k ++ p.csrc ++ p.extension ++ p.payload) none,
      length-append (h ++ p.csrc ++ p.extension) p.payload,
      length-append (k ++ p.csrc ++ p.extension) p.payload,
      length-append (h ++ p.csrc) p.extension,
      length-append (k ++ p.csrc) p.extension,
      length-append h p.csrc,
      length-append k p.csrc,
    ))

stripped_is : (p : Packet) → p.padding ≡ [] → stripped p ≡ spelling p
stripped_is p none = sym (ap (λ (x : List ℕ). spelling (record p { padding = x })) none)

-- the retransmission of a packet
abbrev sent_packet : Packet → ℕ → ℕ → Packet
sent_packet p rtx q = record p { payload_type = rtx; sequence = q; payload = to_be_bytes w16 p.sequence ++ p.payload; padding = [] }

sent_is : (p : Packet) (rtx q : ℕ) → IsPacket p → rtx < 128 → q < 65536 → IsPacket (sent_packet p rtx q)
sent_is p rtx q is low few = record {
  payload_type = low;
  sequence = few;
  timestamp = is.timestamp;
  ssrc = is.ssrc;
  csrc = is.csrc;
  extension = is.extension;
  padding = inl refl;
}

sent_read : (t : Tuned) (p : Packet) (q : ℕ) → is_of t t.pt p ≡ true → p.sequence < 2 ^ 16 → again_of t (sent_packet p t.rtx q) ≡ again q p.sequence (stripped p)
sent_read t p q its small =
    let r = sent_packet p t.rtx q in
    let both = and_parts (eqb p.ssrc t.media) (eqb p.payload_type t.pt) its in
    let number : original_number r ≡ p.sequence = from_be_bytes-to_be_bytes_2 p.sequence small in
    let passes : is_of t t.rtx r ≡ true = and_from (eqb p.ssrc t.media) (eqb t.rtx t.rtx) both.0 (eq-eqb t.rtx t.rtx refl) in
    let origin : original r t.pt ≡ bare p =
    ap (λ (n : ℕ). record p { payload_type = t.pt; sequence = n; padding = [] }) number
    ∙ ap (λ (x : ℕ). record p { payload_type = x; padding = [] }) (sym (eqb-true p.payload_type t.pt both.1)) in
    let own : Media = again q (original_number r) (spelling (original r t.pt)) in
    let long : ltb (length r.payload) 2 ≡ false = le-ltb (length r.payload) 2 (omega arith) in
    ap (λ (b : Bool). cond b (unfit came.Bad) (cond (is_of t t.rtx r) own (unfit came.Foreign))) long
    ∙ (ap (λ (b : Bool). cond b own (unfit came.Foreign)) passes
    ∙ (ap (λ (n : ℕ). again q n (spelling (original r t.pt))) number ∙ ap (λ (x : Packet). again q p.sequence (spelling x)) origin))

pub brings_again : (t : Tuned) (bytes : List ℕ) (p : Packet) (rtx q : ℕ) → packet_at bytes ≡ Ok p → IsPacket p → spelling p ≡ bytes → length (stripped p) ≡ length bytes
    → rtx ≡ t.rtx → rtx < 128 → is_of t t.pt p ≡ true → q < 65536 → again q p.sequence bytes ≡ brought_again t (sent_again rtx q (packet_at bytes))
brings_again t bytes p rtx q read is spelled same kind low its few =
    let r = sent_packet p rtx q in
    let whole : stripped p ≡ bytes = stripped_is p (no_padding p (same ∙ ap length (sym spelled))) ∙ spelled in
    let text : sent_again rtx q (packet_at bytes) ≡ spelling r = ap (sent_again rtx q) read in
    sym (ap (brought_again t) text
    ∙ (ap (read_again t) (read_so r (sent_is p rtx q is low few))
    ∙ (ap (λ (x : ℕ). again_of t (sent_packet p x q)) kind
    ∙ (sent_read t p q its is.sequence ∙ ap (again q p.sequence) whole))))
