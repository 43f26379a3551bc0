-- How many notes the packets of a datagram get at most.
use Rattle.std.proofs.Common.{◌≡◌, ℕ, ◌+◌, ◌-◌, ◌*◌, ◌/◌, ◌≤◌, ◌<◌, not, ◌&&◌, zero, suc, List, [], ◌∷◌, length, drop, Option, Some, None, Result, Ok, Err, refl, subst, arith, eqb, ltb, length-drop, length-take}
use Rattle.std.specs.Int.{w16, w32, from_be_bytes}
use Rattle.std.specs.Prelude.{◌==◌, nat_le, slice_index, if◌then◌else◌}
use Rattle.std.proofs.lemmas.Bool.{cond_both, ltb-true, ltb-false}
use Rattle.rams_model.specs.declared.{FrameFault.FrameFault, rams.TheConstants.SFMT_RAMS_R, rams.TheConstants.SFMT_RAMS_T}
use Rattle.rams_model.specs.declared.rtcp.TheConstants.{BYE, FMT_NACK, FMT_RAMS, RTPFB}
use Rattle.rams_model.specs.Formats.{unless_fault, onto, pieces_from, Framed, packet_size, rtcp_padding, framed_first, packet_fault, packet_format, framed, Feedback, feedback_of, nack_numbers, request_at, stop_at}
use Rattle.rams_model.specs.Service.{Message, named, message_of, feedback_message, rams_message}
use Rattle.rams_model.specs.Service.Messages.{bye, nack, asks, stops}
use Rattle.feedback_core.specs.{most_of, most_of_found, most_notes, most_notes_for}
use Rattle.feedback_core.proofs.Nacks.{named_few}

-- the packet in front is whole
whole : (bytes : List ℕ) → packet_fault bytes ≡ None → packet_size bytes ≤ length bytes
whole bytes e =
    let P : Option FrameFault → Type 0 = λ o. o ≡ None → packet_size bytes ≤ length bytes in
    cond_both (ltb (length bytes) 4) _ _ P (λ t q. absurd cc)
    (λ a. cond_both (not (eqb (slice_index bytes 0 / 64) 2)) _ _ P (λ t q. absurd cc)
    (λ b. cond_both (ltb (length bytes) (packet_size bytes)) _ _ P (λ t q. absurd cc) (λ c q. ltb-false (length bytes) (packet_size bytes) c))) e

body_within : (bytes : List ℕ) → length (framed_first bytes).body ≤ packet_size bytes - 4
body_within bytes = omega (arith, length-take (packet_size bytes - rtcp_padding bytes - 4) (drop 4 bytes))

most_rams : (f : Feedback) → most_of_found (rams_message f) ≤ 2
most_rams f =
    cond_both (slice_index f.fci 0 == SFMT_RAMS_R) (Some (asks f.sender (request_at f.fci))) (if slice_index f.fci 0 == SFMT_RAMS_T then Some (stops (stop_at f.fci)) else None)
    (λ o. most_of_found o ≤ 2) (λ t. omega arith)
    (λ r. cond_both (slice_index f.fci 0 == SFMT_RAMS_T) (Some (stops (stop_at f.fci))) None (λ o. most_of_found o ≤ 2) (λ t. omega arith) (λ n. omega arith))

most_feedback : (f : Feedback) → most_of_found (feedback_message (Some f)) ≤ 17 * (length f.fci / 4) + 2
most_feedback f =
    let P : Option Message → Type 0 = λ o. most_of_found o ≤ 17 * (length f.fci / 4) + 2 in
    cond_both (f.format == FMT_NACK) (Some (nack f.media f.sender (named (nack_numbers f.fci)))) (if f.format == FMT_RAMS then rams_message f else None) P
    (λ t. omega (arith, named_few f.fci)) (λ g. cond_both (f.format == FMT_RAMS) (rams_message f) None P (λ t. omega (arith, most_rams f)) (λ n. omega arith))

most_one : (p : Framed) → most_of p ≤ 17 * ((length p.body - 8) / 4) + 2
unfolding message_of
most_one p =
    let f : Feedback = record { sender = from_be_bytes w32 p.body; media = from_be_bytes w32 (drop 4 p.body); format = p.count; fci = drop 8 p.body } in
    let most = 17 * ((length p.body - 8) / 4) + 2 in
    cond_both (p.kind == BYE) (Some (bye p)) (feedback_message (feedback_of p)) (λ o. most_of_found o ≤ most) (λ t. omega arith)
    (λ n. cond_both (p.kind == RTPFB && nat_le 8 (length p.body)) (Some f) None (λ o. most_of_found (feedback_message o) ≤ most)
    (λ t. omega (arith, most_feedback f, length-drop 8 p.body)) (λ m. omega arith))

most_first : (bytes : List ℕ) → most_of (framed_first bytes) ≤ 17 * ((packet_size bytes - 12) / 4) + 2
most_first bytes = omega (arith, body_within bytes, most_one (framed_first bytes))

-- packets of so many bytes get at most so many notes: up to three of them have no entry
record AreFew (most bytes : ℕ) : Type 0 where
  long : most ≤ 17 * ((bytes - 12) / 4) + 6
  short : most ≤ 17 * ((bytes - 12) / 4) + 2 * (bytes / 4)

-- a packet of whole words in front
few_more : (words first most left : ℕ) → 0 < words → first ≤ 17 * ((4 * words - 12) / 4) + 2 → AreFew most left → AreFew (first + most) (4 * words + left)
few_more words first most left some one few = record { long = omega (arith, some, one, few.long, few.short); short = omega (arith, some, one, few.long, few.short) }

most_pieces : (n : ℕ) (bytes : List ℕ) (ps : List Framed) → pieces_from packet_format n bytes ≡ Ok ps → AreFew (most_notes ps) (length bytes)
unfolding pieces_from
most_pieces zero bytes ps e = let none : [] ≡ ps = cc in subst (λ (qs : List Framed). AreFew (most_notes qs) (length bytes)) none (record { long = omega arith; short = omega arith })
most_pieces (suc n) [] ps e = let none : [] ≡ ps = cc in subst (λ (qs : List Framed). AreFew (most_notes qs) 0) none (record { long = omega arith; short = omega arith })
most_pieces (suc n) (b ∷ bytes) ps e =
    by_fault (packet_fault (b ∷ bytes)) refl (pieces_from packet_format n (drop (packet_size (b ∷ bytes)) (b ∷ bytes))) refl
    (λ qs. most_pieces n (drop (packet_size (b ∷ bytes)) (b ∷ bytes)) qs) e
  where
    by_fault : (o : Option FrameFault) → packet_fault (b ∷ bytes) ≡ o → (r : Result (List Framed) FrameFault)
        → pieces_from packet_format n (drop (packet_size (b ∷ bytes)) (b ∷ bytes)) ≡ r
        → ((qs : List Framed) → pieces_from packet_format n (drop (packet_size (b ∷ bytes)) (b ∷ bytes)) ≡ Ok qs
        → AreFew (most_notes qs) (length (drop (packet_size (b ∷ bytes)) (b ∷ bytes))))
        → unless_fault (onto (framed_first (b ∷ bytes)) r) o ≡ Ok ps → AreFew (most_notes ps) (length (b ∷ bytes))
    by_fault (Some fault) fe r re rec q = absurd cc
    by_fault None fe (Err fault) re rec q = absurd cc
    by_fault None fe (Ok qs) re rec q =
        let all : framed_first (b ∷ bytes) ∷ qs ≡ ps = cc in
        let left = length (drop (packet_size (b ∷ bytes)) (b ∷ bytes)) in
        let within = whole (b ∷ bytes) fe in
        let words = from_be_bytes w16 (drop 2 (b ∷ bytes)) + 1 in
        let split : packet_size (b ∷ bytes) + left ≡ length (b ∷ bytes) = omega (arith, within, length-drop (packet_size (b ∷ bytes)) (b ∷ bytes)) in
        subst (λ (xs : List Framed). AreFew (most_notes xs) (length (b ∷ bytes))) all
        (subst (AreFew (most_of (framed_first (b ∷ bytes)) + most_notes qs)) split
        (few_more words (most_of (framed_first (b ∷ bytes))) (most_notes qs) left (omega arith) (most_first (b ∷ bytes)) (rec qs re)))

few_within : (most bytes : ℕ) → AreFew most bytes → most ≤ most_notes_for bytes
few_within most bytes few =
    cond_both (ltb bytes 12) (bytes / 2 + 1) (17 * ((bytes - 12) / 4) + 6) (λ n. most ≤ n) (λ t. let less = ltb-true bytes 12 t in omega (arith, less, few.short)) (λ f. few.long)

-- the packets of a datagram
pub most_framed : (bytes : List ℕ) (ps : List Framed) → framed bytes ≡ Ok ps → most_notes ps ≤ most_notes_for (length bytes)
most_framed [] ps e = absurd cc
most_framed (b ∷ bytes) ps e = few_within (most_notes ps) (length (b ∷ bytes)) (most_pieces (length (b ∷ bytes)) (b ∷ bytes) ps e)

-- no more than five for each byte and four
pub most_is_small : (bytes : ℕ) → most_notes_for bytes ≤ 5 * bytes + 4
most_is_small bytes =
    cond_both (ltb bytes 12) (bytes / 2 + 1) (17 * ((bytes - 12) / 4) + 6) (λ n. n ≤ 5 * bytes + 4) (λ t. omega arith) (λ f. let more = ltb-false bytes 12 f in omega (arith, more))
