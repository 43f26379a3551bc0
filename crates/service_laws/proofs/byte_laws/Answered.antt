-- Each datagram's messages, and no others, are answered, in order.
use Rattle.std.proofs.Common.{◌≡◌, ◌≢◌, ℕ, ◌+◌, ◌*◌, ◌/◌, ◌%◌, ◌<◌, ◌≤◌, ◌⊎◌, inl, inr, Bool, true, false, not, ◌&&◌, List, [], ◌∷◌, ◌++◌, length, drop, map, Option, Some, None, refl, ap, sym, ◌∙◌, subst, arith, append_assoc, append-nil, eqb, leb}
use Rattle.std.specs.Prelude.{filter, filter_map, All, Result, Ok, Err, slice_index}
use Rattle.std.specs.List.{cons_option}
use Rattle.std.specs.Int.{w16, w32, to_be_bytes, from_be_bytes}
use Rattle.std.proofs.lemmas.Bool.{cond_both, both_ways, and_from, not-true, not-false, eqb-true, eqb-false, eq-eqb, le-leb}
use Rattle.std.proofs.lemmas.List.{get_or-drop, length-drop}
use Rattle.std.proofs.lemmas.List.Elements.{All-nil, All-cons, All-head, All-tail, All-drop}
use Rattle.rams_model.specs.declared.{Event.Event, Event.TheVariants.Feedback, FrameFault.FrameFault}
use Rattle.rams_model.specs.Formats.{flag, Joins, Framed, least_body, IsRtcpPacket, framed, Feedback as FeedbackParts, feedback_of, nack_numbers, request_at, stop_at}
use Rattle.rams_model.specs.Service.{Settings, Message, bye, nack, asks, stops, named, rams_message, feedback_message, message_of, is_rams, with_one_rams, messages, feedback, heard_feedback, heard_of, began, told, noted, History, after_message, after_messages, after_hearing, history_of}
use Rattle.rams_model.proofs.Items.{AreOfKind, is_note, message_puts}
use Rattle.rams_model.proofs.PacketLaws.{datagram_spelled, datagram_read}
use Rattle.rams_model.proofs.PlainPackets.{below_at}
use Rattle.service_laws.specs.byte_laws.{number32, IsMessageOf, IsNoMessage, IsRams, seen_after, AreMessages, no_more, skipped, second, counted, told_in, IsAnsweredWhole, IsRefusedWhole}
use Rattle.service_laws.proofs.byte_laws.Naming.{nack_named, request_is, stop_is}
use Rattle.service_laws.proofs.byte_laws.Framing.{datagram_is, is_datagram}

-- ---- what is known of each packet

abbrev IsByte : ℕ → Type 0
IsByte b = b < 256

record IsFit (p : Framed) : Type 0 where
  bytes : All IsByte p.body
  words : length p.body % 4 ≡ 0
  body : least_body p.kind p.count ≤ length p.body

left_bytes : (xs ys : List ℕ) → All IsByte (xs ++ ys) → All IsByte xs
left_bytes [] ys a = All-nil IsByte
left_bytes (x ∷ xs) ys a = All-cons IsByte x xs (All-head IsByte x (xs ++ ys) a) (left_bytes xs ys (All-tail IsByte x (xs ++ ys) a))

right_bytes : (xs ys : List ℕ) → All IsByte (xs ++ ys) → All IsByte ys
right_bytes [] ys a = a
right_bytes (x ∷ xs) ys a = right_bytes xs ys (All-tail IsByte x (xs ++ ys) a)

packet_fit : (front : List ℕ) (p : Framed) → IsRtcpPacket front p → All IsByte front → IsFit p
packet_fit front p is a =
    let text = subst (All IsByte) is.text a in
    let head : List ℕ = (128 + 32 * flag is.padding + p.count) ∷ p.kind ∷ to_be_bytes w16 ((length p.body + length is.padding) / 4) in
    let words = is.words in
    let whole = is.whole in
    record {
      bytes = left_bytes p.body is.padding (right_bytes head (p.body ++ is.padding) text);
      words = omega (arith, words, whole);
      body = is.body;
    }

abbrev AreFit : List Framed → Type 0
AreFit [] = Unit {0}
AreFit (p ∷ ps) = IsFit p × AreFit ps

all_fit : (bytes : List ℕ) (ps : List Framed) → Joins IsRtcpPacket bytes ps → All IsByte bytes → AreFit ps
all_fit bytes [] j a = tt
all_fit bytes (p ∷ ps) (front, rest, packet, e, j) a =
    let both = subst (All IsByte) e a in (packet_fit front p packet (left_bytes front rest both), all_fit rest ps j (right_bytes front rest both))

-- ---- what each packet says

abbrev SaysSo : Framed → Option Message → Type 0
SaysSo p None = IsNoMessage p
SaysSo p (Some m) = IsMessageOf p m

-- feedback with the parts of a packet
abbrev parts_of : Framed → FeedbackParts
parts_of p = record { sender = from_be_bytes w32 p.body; media = from_be_bytes w32 (drop 4 p.body); format = p.count; fci = drop 8 p.body }

module _ (p : Framed) (fit : IsFit p) (is : p.kind ≡ 205) where
  sender_is : from_be_bytes w32 p.body ≡ number32 0 p.body
  sender_is = omega arith

  media_is : from_be_bytes w32 (drop 4 p.body) ≡ number32 4 p.body
  media_is = omega (arith, get_or-drop 4 p.body 0 0, get_or-drop 4 p.body 1 0, get_or-drop 4 p.body 2 0, get_or-drop 4 p.body 3 0)

  kind_is : slice_index (drop 8 p.body) 0 ≡ slice_index p.body 8
  kind_is = get_or-drop 8 p.body 0 0

  small : (i : ℕ) → slice_index (drop 8 p.body) i < 256
  small = below_at (drop 8 p.body) (All-drop IsByte 8 p.body fit.bytes)

  no_bye : p.kind ≢ 203
  no_bye e = omega (arith, e, is)

  long : 8 ≤ length p.body
  long = subst (λ (k : ℕ). least_body k p.count ≤ length p.body) is fit.body

  whole : length (drop 8 p.body) % 4 ≡ 0
  whole = let words = fit.words in let le = long in omega (arith, words, le, length-drop 8 p.body)

  rams_says : p.count ≡ 6 → p.count ≢ 1 → SaysSo p (rams_message (parts_of p))
  rams_says six other =
      cond_both (eqb (slice_index (drop 8 p.body) 0) 1) (Some (asks (from_be_bytes w32 p.body) (request_at (drop 8 p.body)))) _ (SaysSo p)
      (λ t. (is, six, sym kind_is ∙ eqb-true (slice_index (drop 8 p.body) 0) 1 t, sender_is, request_is (drop 8 p.body) small))
      (λ f. cond_both (eqb (slice_index (drop 8 p.body) 0) 3) (Some (stops (stop_at (drop 8 p.body)))) None (SaysSo p)
      (λ t. (is, six, sym kind_is ∙ eqb-true (slice_index (drop 8 p.body) 0) 3 t, stop_is (drop 8 p.body) small))
      (λ g. record {
        bye = no_bye;
        nack = λ e. other;
        rams = λ e e6. (λ e1. eqb-false (slice_index (drop 8 p.body) 0) 1 f (kind_is ∙ e1), λ e3. eqb-false (slice_index (drop 8 p.body) 0) 3 g (kind_is ∙ e3));
      }))

  parts_say : SaysSo p (feedback_message (Some (parts_of p)))
  parts_say =
      cond_both (eqb p.count 1) (Some (nack (from_be_bytes w32 (drop 4 p.body)) (from_be_bytes w32 p.body) (named (nack_numbers (drop 8 p.body))))) _ (SaysSo p)
      (λ t. (is, eqb-true p.count 1 t, sender_is, media_is, nack_named (drop 8 p.body) whole))
      (λ f. let other = eqb-false p.count 1 f in
      cond_both (eqb p.count 6) (rams_message (parts_of p)) None (SaysSo p) (λ t. rams_says (eqb-true p.count 6 t) other)
      (λ g. record { bye = no_bye; nack = λ e. other; rams = λ e six. absurd (eqb-false p.count 6 g six) }))

  is_long : leb 8 (length p.body) ≡ true
  is_long = le-leb 8 (length p.body) long

packet_says : (p : Framed) → IsFit p → SaysSo p (message_of p)
unfolding message_of
packet_says p fit =
    cond_both (eqb p.kind 203) (Some (bye p)) (feedback_message (feedback_of p)) (SaysSo p) (λ t. (eqb-true p.kind 203 t, refl))
    (λ f. cond_both (eqb p.kind 205 && leb 8 (length p.body)) (Some (parts_of p)) None (λ o. SaysSo p (feedback_message o)) (λ t. by_kind t (eqb p.kind 205) refl)
    (λ g. record {
      bye = eqb-false p.kind 203 f;
      nack = λ e. absurd (feedback_there g e);
      rams = λ e six. absurd (feedback_there g e);
    }))
  where
    feedback_there : (eqb p.kind 205 && leb 8 (length p.body)) ≡ false → p.kind ≡ 205 → ⊥
    feedback_there g e = both_ways (eqb p.kind 205 && leb 8 (length p.body)) g (and_from (eqb p.kind 205) (leb 8 (length p.body)) (eq-eqb p.kind 205 e) (is_long p fit e))

    by_kind : (eqb p.kind 205 && leb 8 (length p.body)) ≡ true → (b : Bool) → eqb p.kind 205 ≡ b → SaysSo p (feedback_message (Some (parts_of p)))
    by_kind t true e = parts_say p fit (eqb-true p.kind 205 e)
    by_kind t false e = absurd (both_ways (eqb p.kind 205 && leb 8 (length p.body)) (ap (λ (b : Bool). b && leb 8 (length p.body)) e) t)

-- ---- the messages of all packets

rams_so : (m : Message) → is_rams m ≡ true → IsRams m
rams_so (asks sender request) e = tt
rams_so (stops stop) e = tt
rams_so (bye p) e = cc
rams_so (nack media sender numbers) e = cc

no_rams : (m : Message) → is_rams m ≡ false → IsRams m → ⊥
no_rams (asks sender request) e i = cc
no_rams (stops stop) e i = cc
no_rams (bye p) e i = i
no_rams (nack media sender numbers) e i = i

seen_rams : (m : Message) (seen : Bool) → is_rams m ≡ true → seen_after m seen ≡ true
seen_rams (asks sender request) seen e = refl
seen_rams (stops stop) seen e = refl
seen_rams (bye p) seen e = cc
seen_rams (nack media sender numbers) seen e = cc

unseen : (m : Message) (seen : Bool) → is_rams m ≡ false → seen_after m seen ≡ seen
unseen (asks sender request) seen e = cc
unseen (stops stop) seen e = cc
unseen (bye p) seen e = refl
unseen (nack media sender numbers) seen e = refl

abbrev others : List Message → List Message
others ms = filter (λ n. not (is_rams n)) ms

-- behind a RAMS message
rest_are : (ps : List Framed) → AreFit ps → AreMessages true ps (others (filter_map message_of ps))
rest_are [] fit = no_more true
rest_are (p ∷ ps) fit = by_message (message_of p) (packet_says p fit.0) (rest_are ps fit.1)
  where
    by_message : (o : Option Message) → SaysSo p o → AreMessages true ps (others (filter_map message_of ps)) → AreMessages true (p ∷ ps) (others (cons_option o (filter_map message_of ps)))
    by_message None says rest = skipped true p ps (others (filter_map message_of ps)) says rest
    by_message (Some m) says rest =
        cond_both (not (is_rams m)) (m ∷ others (filter_map message_of ps)) (others (filter_map message_of ps)) (AreMessages true (p ∷ ps))
        (λ t. let other = not-true (is_rams m) t in
        counted true p ps m (others (filter_map message_of ps)) says (λ e i. no_rams m other i)
        (subst (λ (b : Bool). AreMessages b ps (others (filter_map message_of ps))) (sym (unseen m true other)) rest))
        (λ f. second p ps m (others (filter_map message_of ps)) says (rams_so m (not-false (is_rams m) f)) rest)

messages_are : (ps : List Framed) → AreFit ps → AreMessages false ps (with_one_rams (filter_map message_of ps))
messages_are [] fit = no_more false
messages_are (p ∷ ps) fit = by_message (message_of p) (packet_says p fit.0) (messages_are ps fit.1) (rest_are ps fit.1)
  where
    by_message : (o : Option Message) → SaysSo p o → AreMessages false ps (with_one_rams (filter_map message_of ps)) → AreMessages true ps (others (filter_map message_of ps))
        → AreMessages false (p ∷ ps) (with_one_rams (cons_option o (filter_map message_of ps)))
    by_message None says rest after = skipped false p ps (with_one_rams (filter_map message_of ps)) says rest
    by_message (Some m) says rest after =
        cond_both (is_rams m) (m ∷ others (filter_map message_of ps)) (m ∷ with_one_rams (filter_map message_of ps)) (AreMessages false (p ∷ ps))
        (λ t. counted false p ps m (others (filter_map message_of ps)) says (λ e i. cc)
        (subst (λ (b : Bool). AreMessages b ps (others (filter_map message_of ps))) (sym (seen_rams m false t)) after))
        (λ f. counted false p ps m (with_one_rams (filter_map message_of ps)) says (λ e i. cc)
        (subst (λ (b : Bool). AreMessages b ps (with_one_rams (filter_map message_of ps))) (sym (unseen m false f)) rest))

-- ---- what is told

told_both : (xs ys : History) → told_in (xs ++ ys) ≡ told_in ys ++ told_in xs
told_both [] ys = sym (append-nil (told_in ys))
told_both (told client m ∷ xs) ys = ap (λ (l : List (ℕ × Message)). l ++ ((client, m) ∷ [])) (told_both xs ys) ∙ append_assoc (told_in ys) (told_in xs) ((client, m) ∷ [])
told_both (began heard ∷ xs) ys = told_both xs ys
told_both (noted n packet ∷ xs) ys = told_both xs ys

none_told : (items : History) → AreOfKind is_note items → told_in items ≡ []
none_told [] a = refl
none_told (noted n packet ∷ items) a = none_told items a.1
none_told (began heard ∷ items) a = absurd a
none_told (told client m ∷ items) a = absurd a

record TellsAll (k : ℕ) (ms : List Message) (before after : History) : Type 0 where
  now : History
  splits : after ≡ now ++ before
  told : told_in now ≡ map (λ m. (k, m)) ms

all_told : (s : Settings) (k : ℕ) (ms : List Message) (history : History) → TellsAll k ms history (after_messages s k ms history)
unfolding after_messages
all_told s k [] history = record { now = []; splits = refl; told = refl }
all_told s k (m ∷ ms) history =
    let start : History = told k m ∷ history in
    let answered = after_message s k m start in
    let p = message_puts s k m start in
    let rest = all_told s k ms answered in
    let own : History = p.items ++ told k m ∷ [] in
    let split : answered ≡ own ++ history = p.splits ∙ sym (append_assoc p.items (told k m ∷ []) history) in
    let mine : told_in own ≡ (k, m) ∷ [] = told_both p.items (told k m ∷ []) ∙ ap (λ (l : List (ℕ × Message)). (k, m) ∷ l) (none_told p.items p.notes) in
    record {
      now = rest.now ++ own;
      splits = rest.splits ∙ ap (λ (h : History). rest.now ++ h) split ∙ sym (append_assoc rest.now own history);
      told = told_both rest.now own ∙ ap (λ (l : List (ℕ × Message)). l ++ told_in rest.now) mine ∙ ap (λ (l : List (ℕ × Message)). (k, m) ∷ l) rest.told;
    }

-- ---- each datagram

by_frame : (s : Settings) (events : List Event) (client : ℕ) (bytes : List ℕ) (r : Result (List Framed) FrameFault) → All IsByte bytes → framed bytes ≡ r
    → history_of s (Feedback client bytes ∷ events) ≡ after_hearing s (heard_feedback client r) (history_of s events)
    → IsAnsweredWhole s events client bytes ⊎ IsRefusedWhole s events client bytes
unfolding after_hearing messages
by_frame s events client bytes (Ok ps) small e is =
    let compound = datagram_spelled bytes ps (below_at bytes small) e in
    let ms = with_one_rams (filter_map message_of ps) in
    let all = all_told s client ms (began (feedback client ms) ∷ history_of s events) in
    inl (record {
      packets = ps;
      compound = is_datagram bytes ps compound;
      messages = ms;
      are = messages_are ps (all_fit bytes ps compound.1 small);
      now = all.now;
      splits = is ∙ all.splits;
      answered = all.told;
    })
by_frame s events client bytes (Err fault) small e is =
    inr (record {
      fault = fault;
      none = λ ps compound. let both : Err fault ≡ Ok ps = sym e ∙ datagram_read bytes ps (datagram_is bytes ps compound) in cc;
      alone = is;
    })

history_is : (s : Settings) (events : List Event) (client : ℕ) (bytes : List ℕ)
    → history_of s (Feedback client bytes ∷ events) ≡ after_hearing s (heard_feedback client (framed bytes)) (history_of s events)
unfolding history_of heard_of
history_is s events client bytes = refl

pub answered_whole : (s : Settings) (events : List Event) (client : ℕ) (bytes : List ℕ) → All (λ b. b < 256) bytes → IsAnsweredWhole s events client bytes ⊎ IsRefusedWhole s events client bytes
answered_whole s events client bytes small = by_frame s events client bytes (framed bytes) small refl (history_is s events client bytes)
