-- The longest end of some packets whose numbers follow one another, as one more comes.
use Rattle.std.proofs.Common.{◌≡◌, ℕ, ◌+◌, ◌-◌, ◌≤◌, ◌≢◌, false, ◌&&◌, List, [], ◌∷◌, ◌++◌, length, drop, refl, ap, sym, ◌∙◌, arith, eqb, length-append}
use Rattle.std.proofs.lemmas.Bool.{cond_both, cond-true, cond-false, eqb-true, eqb-false, eq-eqb, ne_eqb}
use Rattle.std.proofs.lemmas.List.{length-drop, drop-drop, drop-append-le}
use Rattle.std.proofs.Math.Seq.{drop-nil}
use Rattle.std.proofs.Math.Bool.{and-true, and-false, and_assoc}
use Rattle.rams_model.specs.declared.Held.{Held}
use Rattle.rams_model.specs.Packets.{hi, last_of, is_consecutive, consecutive_end}
use Rattle.rams_model.specs.Laws.{Rises}
use Rattle.rams_model.proofs.HeldEnds.{hi-consecutive_end, hi-last_of}
use Rattle.rams_model.proofs.Rising.{hi_before}
use Rattle.channel_cache.specs.packet_ring.{with_next, StandsFor}
use Rattle.channel_cache.specs.packet_ring.Seen.{Seen}

-- ---- the test
-- one more packet follows where its number is the next
one_more : (k : Held) (hs : List Held) (h : Held) → is_consecutive (k ∷ hs ++ h ∷ []) ≡ (is_consecutive (k ∷ hs) && eqb h.n (hi (k ∷ hs)))
unfolding hi
one_more k [] h = and-true (eqb h.n (k.n + 1))
one_more k (j ∷ hs) h = ap (λ b. eqb j.n (k.n + 1) && b) (one_more j hs h) ∙ sym (and_assoc (eqb j.n (k.n + 1)) (is_consecutive (j ∷ hs)) (eqb h.n (hi (j ∷ hs))))

follows_still : (k : Held) (hs : List Held) (h : Held) → h.n ≡ hi (k ∷ hs) → is_consecutive (k ∷ hs ++ h ∷ []) ≡ is_consecutive (k ∷ hs)
follows_still k hs h next = one_more k hs h ∙ (ap (λ b. is_consecutive (k ∷ hs) && b) (eq-eqb h.n (hi (k ∷ hs)) next) ∙ and-true (is_consecutive (k ∷ hs)))

follows_no_more : (k : Held) (hs : List Held) (h : Held) → h.n ≢ hi (k ∷ hs) → is_consecutive (k ∷ hs ++ h ∷ []) ≡ false
follows_no_more k hs h other = one_more k hs h ∙ (ap (λ b. is_consecutive (k ∷ hs) && b) (ne_eqb h.n (hi (k ∷ hs)) other) ∙ and-false (is_consecutive (k ∷ hs)))

-- ---- the longest end
end_goes_on : (hs : List Held) (h : Held) → h.n ≡ hi hs → consecutive_end (hs ++ h ∷ []) ≡ consecutive_end hs ++ h ∷ []
unfolding hi consecutive_end
end_goes_on [] h next = refl
end_goes_on (k ∷ []) h next = cond-true (is_consecutive (k ∷ h ∷ [])) (k ∷ h ∷ []) (h ∷ []) (follows_still k [] h next)
end_goes_on (k ∷ j ∷ hs) h next =
    cond_both (is_consecutive (k ∷ j ∷ hs)) (k ∷ j ∷ hs) (consecutive_end (j ∷ hs)) (λ l. consecutive_end (k ∷ j ∷ hs ++ h ∷ []) ≡ l ++ h ∷ [])
    (λ t. cond-true (is_consecutive (k ∷ j ∷ hs ++ h ∷ [])) (k ∷ j ∷ hs ++ h ∷ []) (consecutive_end (j ∷ hs ++ h ∷ [])) (follows_still k (j ∷ hs) h next ∙ t))
    (λ f. cond-false (is_consecutive (k ∷ j ∷ hs ++ h ∷ [])) (k ∷ j ∷ hs ++ h ∷ []) (consecutive_end (j ∷ hs ++ h ∷ [])) (follows_still k (j ∷ hs) h next ∙ f) ∙ end_goes_on (j ∷ hs) h next)

end_begins : (hs : List Held) (h : Held) → h.n ≢ hi hs → consecutive_end (hs ++ h ∷ []) ≡ h ∷ []
unfolding hi consecutive_end
end_begins [] h other = refl
end_begins (k ∷ []) h other = cond-false (is_consecutive (k ∷ h ∷ [])) (k ∷ h ∷ []) (h ∷ []) (follows_no_more k [] h other)
end_begins (k ∷ j ∷ hs) h other =
    cond-false (is_consecutive (k ∷ j ∷ hs ++ h ∷ [])) (k ∷ j ∷ hs ++ h ∷ []) (consecutive_end (j ∷ hs ++ h ∷ [])) (follows_no_more k (j ∷ hs) h other) ∙ end_begins (j ∷ hs) h other

-- ---- the last packets
-- what was cut away before makes no difference
last_of-more : (capacity : ℕ) (hs : List Held) (h : Held) → last_of capacity (last_of capacity hs ++ h ∷ []) ≡ last_of capacity (hs ++ h ∷ [])
last_of-more capacity hs h =
    let gone = length hs - capacity in
    let later = length (drop gone hs ++ h ∷ []) - capacity in
    let same : gone + later ≡ length (hs ++ h ∷ []) - capacity = omega (arith, length-append (drop gone hs) (h ∷ []), length-append hs (h ∷ []), length-drop gone hs) in
    ap (drop later) (sym (drop-append-le gone hs (h ∷ []) (omega arith)))
    ∙ (drop-drop later gone (hs ++ h ∷ []) ∙ ap (λ k. drop k (hs ++ h ∷ [])) same)

-- one packet has room
pub last_of_one : (capacity : ℕ) (h : Held) → 1 ≤ capacity → last_of capacity (h ∷ []) ≡ h ∷ []
last_of_one capacity h room =
    let none : length (h ∷ []) - capacity ≡ 0 = omega arith in ap (λ k. drop k (h ∷ [])) none

-- ---- the laws
pub end_grows : (capacity : ℕ) (source : List Held) (h : Held) → 1 ≤ capacity
    → last_of capacity (consecutive_end (source ++ h ∷ [])) ≡ with_next capacity (last_of capacity (consecutive_end source)) h
end_grows capacity source h room =
    let end = consecutive_end source in
    let held = last_of capacity end in
    let ends : hi held ≡ hi source = hi-last_of capacity end room ∙ hi-consecutive_end source in
    cond_both (eqb h.n (hi held)) (last_of capacity (held ++ h ∷ [])) (h ∷ []) (λ l. last_of capacity (consecutive_end (source ++ h ∷ [])) ≡ l)
    (λ t. ap (last_of capacity) (end_goes_on source h (eqb-true h.n (hi held) t ∙ ends)) ∙ sym (last_of-more capacity end h))
    (λ f. ap (last_of capacity) (end_begins source h (λ next. eqb-false h.n (hi held) f (next ∙ sym ends))) ∙ last_of_one capacity h room)

pub ends_alike : (v : Seen) (source : List Held) → 1 ≤ v.capacity → StandsFor v source → hi v.held ≡ hi source
ends_alike v source room stood = ap hi stood ∙ (hi-last_of v.capacity (consecutive_end source) room ∙ hi-consecutive_end source)

pub next_is_above : (v : Seen) (source : List Held) (h : Held) (more : List Held) → 1 ≤ v.capacity → StandsFor v source → Rises 0 (source ++ h ∷ more) → hi v.held ≤ h.n
next_is_above v source h more room stood rises = let ends = ends_alike v source room stood in let above = hi_before 0 source h more rises in omega (arith, ends, above)

-- a ring stands for its source with one more packet
pub pushed_stands : (v : Seen) (source : List Held) (h : Held) → 1 ≤ v.capacity → StandsFor v source → with_next v.capacity v.held h ≡ last_of v.capacity (consecutive_end (source ++ h ∷ []))
pushed_stands v source h room stood = ap (λ held. with_next v.capacity held h) stood ∙ sym (end_grows v.capacity source h room)

pub nothing_stands : (capacity : ℕ) → last_of capacity (consecutive_end []) ≡ []
unfolding consecutive_end
nothing_stands capacity = drop-nil (0 - capacity)
