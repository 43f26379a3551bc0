-- What receivers read of the source's packets: by multicast as they came, or as retransmissions.
use Rattle.std.proofs.Common.{◌≡◌, ℕ, ◌<◌, ◌%◌, Bool, true, false, cond, inl, List, [], ◌++◌, length, Option, Some, refl, ap, sym, ◌∙◌, arith, eqb, ltb}
use Rattle.std.specs.Prelude.{◌^◌, unwrap_or}
use Rattle.std.specs.Int.{w16, to_be_bytes}
use Rattle.std.proofs.lemmas.Bool.{and_from, eq-eqb, le-ltb}
use Rattle.std.proofs.lemmas.Nat.{from_be_bytes-to_be_bytes_2}
use Rattle.rams_model.specs.declared.Order.TheVariants as order
use Rattle.rams_model.specs.declared.{Channel.Channel, Held.Held, Tuned.Tuned}
use Rattle.rams_model.specs.declared.MediaCame.TheVariants as came
use Rattle.rams_model.specs.Formats.{Packet, spelling, stripped, packet_at, original, original_number, IsPacket}
use Rattle.rams_model.specs.Receiver.{Media, again, multicast, unfit, is_of, again_of, read_again, read_multicast, brought_again, brought_by_multicast}
use Rattle.rams_model.specs.Service.{Settings, sent_again, datagram}
use Rattle.rams_model.proofs.PlainPackets.{below_at}
use Rattle.rams_model.proofs.RtpPackets.{spelled_so, read_so}
use Rattle.meet_loop.specs.world_laws.{IsTunedTo}
use Rattle.meet_loop.proofs.world_laws.Kept.{IsKept}

of_its : (t : Tuned) (kind : ℕ) (p : Packet) → p.ssrc ≡ t.media → p.payload_type ≡ kind → is_of t kind p ≡ true
of_its t kind p m k = and_from (eqb p.ssrc t.media) (eqb p.payload_type kind) (eq-eqb p.ssrc t.media m) (eq-eqb p.payload_type kind k)

-- a packet as it came is read as the source's
pub multicast_read : (c : Channel) (look : ℕ → Option (List ℕ)) (h : Held) (t : Tuned) (bytes : List ℕ) → IsKept c look h → IsTunedTo c t → look h.n ≡ Some bytes
    → brought_by_multicast t bytes ≡ multicast (h.n % 65536) h.packet
multicast_read c look h t bytes k tuned e =
    let p = k.packet in
    let same : bytes ≡ k.bytes = ap (λ (o : Option (List ℕ)). unwrap_or o []) (sym e ∙ k.came) in
    let passes = of_its t t.pt p (k.media ∙ sym tuned.media) (k.kind ∙ sym tuned.pt) in
    ap (λ (x : List ℕ). read_multicast t (packet_at x)) same
    ∙ (ap (read_multicast t) k.is_read
    ∙ (ap (λ (b : Bool). cond b (multicast p.sequence (stripped p)) (unfit came.Foreign)) passes
    ∙ (ap (λ (q : ℕ). multicast q (stripped p)) (sym k.low) ∙ ap (multicast (h.n % 65536)) (sym k.is_it))))

-- the retransmission of a packet
abbrev sent_packet : Packet → ℕ → ℕ → Packet
sent_packet p rtx q = record p { payload_type = rtx; sequence = q; payload = to_be_bytes w16 p.sequence ++ p.payload; padding = [] }

retransmission_read : (t : Tuned) (p : Packet) (q : ℕ) → p.ssrc ≡ t.media → p.payload_type ≡ t.pt → p.sequence < 2 ^ 16
    → again_of t (sent_packet p t.rtx q) ≡ again q p.sequence (stripped p)
retransmission_read t p q m k small =
    let r = sent_packet p t.rtx q in
    let number : original_number r ≡ p.sequence = from_be_bytes-to_be_bytes_2 p.sequence small in
    let passes = of_its t t.rtx r m refl in
    let origin : original r t.pt ≡ record p { padding = [] } =
    ap (λ (n : ℕ). record p { payload_type = t.pt; sequence = n; padding = [] }) number ∙ ap (λ (x : ℕ). record p { payload_type = x; padding = [] }) (sym k) in
    let own : Media = again q (original_number r) (spelling (original r t.pt)) in
    let long : ltb (length r.payload) 2 ≡ false = le-ltb (length r.payload) 2 (omega arith) in
    ap (λ (b : Bool). cond b (unfit came.Bad) (cond (is_of t t.rtx r) own (unfit came.Foreign))) long
    ∙ (ap (λ (b : Bool). cond b own (unfit came.Foreign)) passes
    ∙ (ap (λ (n : ℕ). again q n (spelling (original r t.pt))) number ∙ ap (λ (x : Packet). again q p.sequence (spelling x)) origin))

pub again_read : (s : Settings) (look : ℕ → Option (List ℕ)) (h : Held) (t : Tuned) (client n q : ℕ) → IsKept s.channel look h → IsTunedTo s.channel t → q < 65536 → s.channel.rtx < 128
    → brought_again t (datagram s (order.Rtx client n q h.packet)) ≡ again q (h.n % 65536) h.packet
unfolding datagram
again_read s look h t client n q k tuned few low =
    let p = k.packet in
    let is = (spelled_so k.bytes p (below_at k.bytes k.small) k.is_read).0 in
    let bare : Packet = record p { padding = [] } in
    let plain : IsPacket bare = record {
      payload_type = is.payload_type;
      sequence = is.sequence;
      timestamp = is.timestamp;
      ssrc = is.ssrc;
      csrc = is.csrc;
      extension = is.extension;
      padding = inl refl;
    } in
    let rtx = s.channel.rtx in
    let r = sent_packet p rtx q in
    let sends : IsPacket r = record {
      payload_type = low;
      sequence = few;
      timestamp = is.timestamp;
      ssrc = is.ssrc;
      csrc = is.csrc;
      extension = is.extension;
      padding = inl refl;
    } in
    let text : sent_again rtx q (packet_at h.packet) ≡ spelling r = ap (λ (x : List ℕ). sent_again rtx q (packet_at x)) k.is_it ∙ ap (sent_again rtx q) (read_so bare plain) in
    ap (brought_again t) text
    ∙ (ap (read_again t) (read_so r sends)
    ∙ (ap (λ (x : ℕ). again_of t (sent_packet p x q)) (sym tuned.rtx)
    ∙ (retransmission_read t p q (k.media ∙ sym tuned.media) (k.kind ∙ sym tuned.pt) is.sequence
    ∙ (ap (λ (x : ℕ). again q x (stripped p)) (sym k.low) ∙ ap (again q (h.n % 65536)) (sym k.is_it)))))
