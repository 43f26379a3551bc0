-- How a run goes on, packet by packet.
use Rattle.std.proofs.Common.{◌≡◌, ℕ, ◌+◌, ◌-◌, ◌<◌, ◌≤◌, Bool, true, false, cond, ◌&&◌, ◌||◌, not, List, [], ◌∷◌, Option, Some, None, MatchOption, refl, ap, sym, ◌∙◌, subst, eqb, leb, ltb, is_some}
use Rattle.std.specs.Option.{option_copied}
use Rattle.std.specs.Borrow.{Bor}
use Rattle.std.proofs.lemmas.Bool.{cond_both, cond-true, cond-false, eq-eqb, leb-true, and_parts, and_left}
use Rattle.rams_model.specs.declared.{Held.Held, Note.TheVariants.Burst}
use Rattle.rams_model.specs.Packets.{lo, hi, from_number, has_number, following}
use Rattle.rams_model.specs.Service.{is_before, run, is_lost}
use Rattle.channel_cache.proofs.packet_ring.Following.{stand_in_order}
use Rattle.channel_cache.specs.packet_ring.{packet_of}
use Rattle.tick_core.specs.declared.runs.Sent.{Sent}
use Rattle.tick_draft.specs.{Drafted, with_packet}
use Rattle.tick_core.specs.{AreInOrder, IsNext, run_from, after_packet, sent_after, with_run}

-- a packet of another number isn't sent
other_stops : (stop : Option ℕ) (n left : ℕ) (h : Held) (hs : List Held) → eqb h.n n ≡ false → run stop n left (h ∷ hs) ≡ []
unfolding run
other_stops stop n left h hs other =
    cond-false (eqb h.n n && is_before stop n && leb h.wire left) _ _
    (and_left (eqb h.n n && is_before stop n) (leb h.wire left) (and_left (eqb h.n n) (is_before stop n) other))

-- nothing is sent where no packet has the number
pub none_there : (stop : Option ℕ) (n left : ℕ) (held : List Held) → packet_of n held ≡ None → run stop n left (from_number n held) ≡ []
unfolding run
none_there stop n left [] none = refl
none_there stop n left (h ∷ hs) none =
    cond_both (eqb h.n n) (Some h) (packet_of n hs) (λ found. found ≡ None → run stop n left (from_number n (h ∷ hs)) ≡ [])
    (λ t is. cc)
    (λ other is. cond_both (leb n h.n) (h ∷ from_number n hs) (from_number n hs) (λ l. run stop n left l ≡ [])
    (λ t. other_stops stop n left h (from_number n hs) other)
    (λ f. none_there stop n left hs is)) none

-- or where the packet isn't before the stop, or doesn't fit
pub stops_there : (stop : Option ℕ) (n left : ℕ) (h : Held) (held : List Held) → AreInOrder held → packet_of n held ≡ Some h → lo held ≤ n → h.n ≡ n
    → (is_before stop n && leb h.wire left) ≡ false → run stop n left (from_number n held) ≡ []
unfolding run
stops_there stop n left h held order found from number stops =
    let split : from_number n held ≡ h ∷ from_number (n + 1) held = subst (λ (o : Option Held). MatchOption o (from_number n held ≡ []) (λ k. from_number n held ≡ k ∷ from_number (n + 1) held)) found (stand_in_order held n order.follows from) in
    ap (run stop n left) split ∙ cond-false (eqb h.n n && is_before stop n && leb h.wire left) _ _ (rw (eq-eqb h.n n number) stops)

pub goes_on : (stop : Option ℕ) (at : Sent) (h : Held) (held : List Held) → AreInOrder held → packet_of at.next held ≡ Some h → lo held ≤ at.next → at.next < hi held → h.n ≡ at.next
    → (is_before stop at.next && leb h.wire at.left) ≡ true → IsNext held stop at h
unfolding run
goes_on stop at h held order found from below number goes =
    let split : from_number at.next held ≡ h ∷ from_number (at.next + 1) held = subst (λ (o : Option Held). MatchOption o (from_number at.next held ≡ []) (λ k. from_number at.next held ≡ k ∷ from_number (at.next + 1) held)) found (stand_in_order held at.next order.follows from) in
    record {
      goes = ap (run stop at.next at.left) split ∙ cond-true (eqb h.n at.next && is_before stop at.next && leb h.wire at.left) _ _ (rw (eq-eqb h.n at.next number) goes);
      number = number;
      within = below;
      fits = leb-true h.wire at.left (and_parts (is_before stop at.next) (leb h.wire at.left) goes).1;
    }

pub sent_more : (held : List Held) (stop : Option ℕ) (at : Sent) (h : Held) → IsNext held stop at h → sent_after (after_packet at h) (run_from held stop (after_packet at h)) ≡ sent_after at (run_from held stop at)
unfolding sent_after
sent_more held stop at h is = ap (sent_after at) (sym is.goes)

pub draft_more : (held : List Held) (stop : Option ℕ) (client : ℕ) (at : Sent) (h : Held) (d : Drafted) → IsNext held stop at h
    → with_run client (following at.seq) (run_from held stop (after_packet at h)) (with_packet d (Burst client h.n at.seq) client at.seq h) ≡ with_run client at.seq (run_from held stop at) d
unfolding with_run
draft_more held stop client at h d is = ap (λ (hs : List Held). with_run client at.seq hs d) (sym is.goes)

pub sent_end : (at : Sent) → sent_after at [] ≡ at
unfolding sent_after
sent_end at = refl

pub draft_end : (client seq : ℕ) (d : Drafted) → with_run client seq [] d ≡ d
unfolding with_run
draft_end client seq d = refl

-- one turn of the loop, where the packet's size and the draft after it were computed
pub sent_turn : (held : List Held) (stop : Option ℕ) (at end : Sent) (h : Held) (size : ℕ) → IsNext held stop at h → size ≡ h.wire → sent_after at (run_from held stop at) ≡ end
    → let at2 : Sent = record { next = at.next + 1; left = at.left - size; seq = following at.seq } in sent_after at2 (run_from held stop at2) ≡ end
sent_turn held stop at end h size is same so_far =
    subst (λ (w : ℕ). let at2 : Sent = record { next = at.next + 1; left = at.left - w; seq = following at.seq } in sent_after at2 (run_from held stop at2) ≡ end) (sym same)
    (sent_more held stop at h is ∙ so_far)

pub draft_turn : (held : List Held) (stop : Option ℕ) (client : ℕ) (at : Sent) (h : Held) (size : ℕ) (d d2 end : Drafted) → IsNext held stop at h → size ≡ h.wire
    → d2 ≡ with_packet d (Burst client h.n at.seq) client at.seq h → with_run client at.seq (run_from held stop at) d ≡ end
    → let at2 : Sent = record { next = at.next + 1; left = at.left - size; seq = following at.seq } in with_run client at2.seq (run_from held stop at2) d2 ≡ end
draft_turn held stop client at h size d d2 end is same made so_far =
    subst (λ (w : ℕ). let at2 : Sent = record { next = at.next + 1; left = at.left - w; seq = following at.seq } in with_run client at2.seq (run_from held stop at2) d2 ≡ end) (sym same)
    (ap (with_run client (following at.seq) (run_from held stop (after_packet at h))) made ∙ (draft_more held stop client at h d is ∙ so_far))

-- a packet has the number exactly where one is found
pub has-found : (n : ℕ) (held : List Held) → has_number n held ≡ is_some (packet_of n held)
has-found n [] = refl
has-found n (h ∷ hs) = has_step (eqb h.n n) h (has_number n hs) (packet_of n hs) (has-found n hs)
  where
    has_step : (b : Bool) (h : Held) (any : Bool) (found : Option Held) → any ≡ is_some found → (b || any) ≡ is_some (cond b (Some h) found)
    has_step true h any found e = refl
    has_step false h any found e = e

pub lent_lost : (r : Option (Bor Held)) (n : ℕ) (held : List Held) → option_copied r ≡ packet_of n held → is_lost n held ≡ (not (is_some r) && ltb n (hi held))
lent_lost None n held same = rw (has-found n held, ← same) refl
lent_lost (Some h) n held same = rw (has-found n held, ← same) refl
