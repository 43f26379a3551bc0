-- The source list: each packet stands once, and the list only grows.
use Rattle.std.proofs.Common.{◌≡◌, ℕ, ◌+◌, ◌-◌, ◌<◌, ◌≤◌, ◌≢◌, false, cond, not, List, [], ◌∷◌, ◌++◌, Option, None, refl, ap, sym, ◌∙◌, subst, arith, append_assoc, append-nil, eqb, ltb, leb}
use Rattle.std.proofs.lemmas.Bool.{cond_both, cond-false, le-ltb, ltb-false, leb-true, le-leb, and_parts, and_from, not-true, not_from_false, eqb-false, or_parts, or_from}
use Rattle.rams_model.specs.declared.held.Held.{Held}
use Rattle.rams_model.specs.declared.note.LiveNote.TheVariants.{Took, Late, Twice, Jump}
use Rattle.rams_model.specs.Packets.{hi, Numbered, forward, backward, jump, restart, ahead, is_kept, after_greatest, numbered, Arrival, Stream, held_as, has_number, with_packet, awaited, in_time, note_of, live_note, stream_after, stream_of, source}
use Rattle.rams_model.specs.Laws.{Rises}
use Rattle.rams_model.proofs.Rising.{some_of_end, end_of, one_more_after, one_at_end, hi_of_end, below_hi, hi_grows, below, higher_bound, all_is_more, not_below, one_more, has_with, not_later}
use Rattle.rams_model.proofs.Waiting.{from_first, is_missing_itself, none_before}

-- in the packets of all starts the numbers rise; nothing stands in an ended start before the first packet
record IsOrdered (s : Stream) : Type 0 where
  rises : Rises 0 (s.ended ++ s.present)
  begins : s.present ≡ [] → s.ended ≡ []

-- the source of a later stream is that of an earlier one, and more
abbrev Grows : ℕ → Stream → Stream → Type 0
Grows window s later = (more : List Held) × (source window later ≡ source window s ++ more)

-- what a packet makes of a stream
abbrev Goes : ℕ → Stream → Stream → Type 0
Goes window s later = IsOrdered later × Grows window s later

stays : (window : ℕ) (s : Stream) → Grows window s s
stays window s = ([], sym (append-nil (source window s)))

-- what is not among more packets is not among fewer
fewer_later : (at : ℕ) (hs : List Held) (new : Held) → has_number at (with_packet new hs) ≡ false → has_number at hs ≡ false
fewer_later at hs new e = (or_parts (eqb new.n at) (has_number at hs) (sym (has_with at new hs) ∙ e)).1

fewer : (at : ℕ) (h : Held) (hs : List Held) (new : Held) → has_number at (h ∷ with_packet new hs) ≡ false → has_number at (h ∷ hs) ≡ false
fewer at h hs new e =
    or_from (eqb h.n at) (has_number at hs) (or_parts (eqb h.n at) (has_number at (with_packet new hs)) e).0 (fewer_later at hs new (not_later at h (with_packet new hs) e))

-- a packet in time moves the awaited number no further down
awaited_grows : (window n : ℕ) (h : Held) (hs : List Held) (new : Held) → Rises n (h ∷ hs) → h.n < new.n → has_number new.n hs ≡ false
    → awaited window (h ∷ hs) ≤ awaited window (h ∷ with_packet new hs)
awaited_grows window n h hs new r lt e =
    let grown : Rises n (h ∷ with_packet new hs) = (r.0, one_more (h.n + 1) new hs (omega (arith, lt)) e r.1) in
    let at = awaited window (h ∷ with_packet new hs) in
    let m = and_parts (not (has_number at (h ∷ with_packet new hs))) (leb (hi (h ∷ with_packet new hs) - 1 - window) at) (is_missing_itself window n h (with_packet new hs) grown) in
    let free = not-true (has_number at (h ∷ with_packet new hs)) m.0 in
    let ends = hi_grows new h hs (omega (arith, lt)) in
    let within : hi (h ∷ hs) - 1 - window ≤ at = omega (arith, ends, leb-true (hi (h ∷ with_packet new hs) - 1 - window) at m.1) in
    none_before window h hs at (from_first window h (with_packet new hs))
    (and_from (not (has_number at (h ∷ hs))) (leb (hi (h ∷ hs) - 1 - window) at)
    (not_from_false (has_number at (h ∷ hs)) (fewer at h hs new free)) (le-leb (hi (h ∷ hs) - 1 - window) at within))

-- the source of a start with one more packet in time
more_source : (window n : ℕ) (ended : List Held) (h : Held) (hs : List Held) (new : Held) → Rises n (h ∷ hs) → awaited window (h ∷ hs) ≤ new.n → h.n < new.n
    → has_number new.n hs ≡ false → with_packet new (h ∷ hs) ≡ h ∷ with_packet new hs
    → (more : List Held) × (ended ++ below (awaited window (h ∷ with_packet new hs)) (h ∷ with_packet new hs) ≡ (ended ++ below (awaited window (h ∷ hs)) (h ∷ hs)) ++ more)
more_source window n ended h hs new r le lt e same =
    let a = awaited window (h ∷ hs) in
    let grown : Rises n (h ∷ with_packet new hs) = (r.0, one_more (h.n + 1) new hs (omega (arith, lt)) e r.1) in
    let higher = higher_bound a (awaited window (h ∷ with_packet new hs)) n (h ∷ with_packet new hs) (awaited_grows window n h hs new r lt e) grown in
    let front : below a (h ∷ with_packet new hs) ≡ below a (h ∷ hs) = ap (below a) (sym same) ∙ not_below a new (h ∷ hs) le in (
      higher.0,
      ap (λ (l : List Held). ended ++ l) (higher.1 ∙ ap (λ (l : List Held). l ++ higher.0) front) ∙ sym (append_assoc ended (below a (h ∷ hs)) higher.0),
    )

-- a packet that is in time
takes : (window : ℕ) (ended : List Held) (h : Held) (hs : List Held) (kept : Option ℕ) (a : Arrival) (n : ℕ)
    → Rises 0 (ended ++ h ∷ hs) → awaited window (h ∷ hs) ≤ n → has_number n (h ∷ hs) ≡ false
    → Goes window (record { ended = ended; present = h ∷ hs; kept = kept }) (record { ended = ended; present = with_packet (held_as n a) (h ∷ hs); kept = kept })
unfolding source
takes window ended h hs kept a n r le e =
    let own = end_of 0 ended (h ∷ hs) r in
    let ne : h.n ≢ n = eqb-false h.n n (or_parts (eqb h.n n) (has_number n hs) e).0 in
    let from = from_first window h hs in
    let lt : h.n < n = omega (arith, ne, le, from) in
    let new = held_as n a in
    let others = not_later n h hs e in
    let same : with_packet new (h ∷ hs) ≡ h ∷ with_packet new hs =
    cond-false (ltb n h.n) (new ∷ h ∷ hs) (h ∷ with_packet new hs) (le-ltb n h.n (omega (arith, lt))) in
    let grown : Rises 0 (ended ++ h ∷ with_packet new hs) = one_more_after 0 ended new h hs lt others r in
    subst (λ (l : List Held). Goes window (record { ended = ended; present = h ∷ hs; kept = kept }) (record { ended = ended; present = l; kept = kept })) (sym same)
    (record { rises = grown; begins = λ (none : h ∷ with_packet new hs ≡ []). absurd cc }, more_source window 0 ended h hs new own le lt others same)

-- a packet that begins a new start
restarts : (window : ℕ) (ended : List Held) (h : Held) (hs : List Held) (kept : Option ℕ) (a : Arrival) (n : ℕ) → Rises 0 (ended ++ h ∷ hs) → hi (h ∷ hs) ≤ n
    → Goes window (record { ended = ended; present = h ∷ hs; kept = kept }) (record { ended = ended ++ h ∷ hs; present = held_as n a ∷ []; kept = None })
unfolding source
restarts window ended h hs kept a n r le =
    let own = end_of 0 ended (h ∷ hs) r in
    let ends : hi (ended ++ h ∷ hs) ≤ n = subst (λ (m : ℕ). m ≤ n) (sym (hi_of_end ended h hs)) le in
    let b = awaited window (h ∷ hs) in
    let all = all_is_more b 0 (h ∷ hs) own in
    let new = below (awaited window (held_as n a ∷ [])) (held_as n a ∷ []) in (
      record { rises = one_at_end 0 (ended ++ h ∷ hs) (held_as n a) (omega arith) ends r; begins = λ (none : held_as n a ∷ [] ≡ []). absurd cc },
      (
        all.0 ++ new,
        ap (λ (l : List Held). l ++ new) (ap (λ (l : List Held). ended ++ l) all.1 ∙ sym (append_assoc ended (below b (h ∷ hs)) all.0))
            ∙ append_assoc (ended ++ below b (h ∷ hs)) all.0 new,
      ),
    )

-- the first packet of all
begins_with : (window : ℕ) (kept : Option ℕ) (a : Arrival) (n : ℕ) → Goes window (record { ended = []; present = []; kept = kept }) (record { ended = []; present = held_as n a ∷ []; kept = kept })
unfolding source
begins_with window kept a n =
    (record { rises = (omega arith, tt); begins = λ (none : held_as n a ∷ [] ≡ []). refl }, (below (awaited window (held_as n a ∷ [])) (held_as n a ∷ []), refl))

-- a number of the present start
in_reach : (window : ℕ) (ended : List Held) (h : Held) (hs : List Held) (kept : Option ℕ) (a : Arrival) (n : ℕ) → Rises 0 (ended ++ h ∷ hs)
    → let s : Stream = record { ended = ended; present = h ∷ hs; kept = kept } in Goes window s (stream_after s a (in_time window (h ∷ hs) n))
in_reach window ended h hs kept a n r =
    let s : Stream = record { ended = ended; present = h ∷ hs; kept = kept } in
    let same : Goes window s s = (record { rises = r; begins = λ (none : h ∷ hs ≡ []). absurd cc }, stays window s) in
    cond_both (ltb n (awaited window (h ∷ hs))) Late (cond (has_number n (h ∷ hs)) Twice (Took n)) (λ note. Goes window s (stream_after s a note)) (λ t. same)
    (λ f. cond_both (has_number n (h ∷ hs)) Twice (Took n) (λ note. Goes window s (stream_after s a note)) (λ t. same)
    (λ e. takes window ended h hs kept a n r (ltb-false n (awaited window (h ∷ hs)) f) e))

after_known : (window : ℕ) (ended : List Held) (h : Held) (hs : List Held) (kept : Option ℕ) (a : Arrival) (g u : ℕ) → g + 1 ≡ hi (h ∷ hs) → Rises 0 (ended ++ h ∷ hs)
    → let s : Stream = record { ended = ended; present = h ∷ hs; kept = kept } in Goes window s (stream_after s a (note_of window (h ∷ hs) (after_greatest g kept a.sequence u)))
unfolding source
after_known window ended h hs kept a g u at r =
    let s : Stream = record { ended = ended; present = h ∷ hs; kept = kept } in
    let jumped : Goes window s (stream_after s a Jump) = (record { rises = r; begins = λ (none : h ∷ hs ≡ []). absurd cc }, stays window s) in
    let P : Numbered → Type 0 = λ n. Goes window s (stream_after s a (note_of window (h ∷ hs) n)) in
    cond_both (ltb u 3000) (forward (g + u)) (cond (ltb 65436 u) (backward (g - (65536 - u))) (cond (is_kept kept a.sequence) (restart (g + u)) jump)) P
    (λ t. in_reach window ended h hs kept a (g + u) r)
    (λ f. cond_both (ltb 65436 u) (backward (g - (65536 - u))) (cond (is_kept kept a.sequence) (restart (g + u)) jump) P
    (λ t. in_reach window ended h hs kept a (g - (65536 - u)) r)
    (λ f2. cond_both (is_kept kept a.sequence) (restart (g + u)) jump P
    (λ t. restarts window ended h hs kept a (g + u) r (omega (arith, ltb-false u 3000 f, at))) (λ f3. jumped)))

-- Every packet that passes the tests leaves the packets in order, and the source what it was, or longer.
goes_on : (window : ℕ) (ended present : List Held) (kept : Option ℕ) (a : Arrival) → let s : Stream = record { ended = ended; present = present; kept = kept } in
    IsOrdered s → Goes window s (stream_after s a (live_note window s a.sequence))
unfolding live_note numbered
goes_on window ended [] kept a o =
    subst (λ (l : List Held). Goes window (record { ended = l; present = []; kept = kept }) (record { ended = l; present = held_as (65536 + a.sequence) a ∷ []; kept = kept }))
    (sym (o.begins refl)) (begins_with window kept a (65536 + a.sequence))
goes_on window ended (h ∷ hs) kept a o =
    let lt = below_hi 0 h hs (end_of 0 ended (h ∷ hs) o.rises) in
    after_known window ended h hs kept a (hi (h ∷ hs) - 1) (ahead a.sequence (hi (h ∷ hs) - 1)) (omega (arith, lt)) o.rises

goes : (window : ℕ) (s : Stream) (a : Arrival) → IsOrdered s → Goes window s (stream_after s a (live_note window s a.sequence))
goes window s a o = goes_on window s.ended s.present s.kept a o

is_ordered : (window : ℕ) (arrivals : List Arrival) → IsOrdered (stream_of window arrivals)
unfolding stream_of
is_ordered window [] = record { rises = tt; begins = λ none. refl }
is_ordered window (a ∷ arrivals) = (goes window (stream_of window arrivals) a (is_ordered window arrivals)).0

pub source_rises : (window : ℕ) (arrivals : List Arrival) → Rises 0 (source window (stream_of window arrivals))
unfolding source
source_rises window arrivals =
    let s = stream_of window arrivals in some_of_end (λ h. ltb h.n (awaited window s.present)) 0 s.ended s.present (is_ordered window arrivals).rises

pub source_grows : (window : ℕ) (a : Arrival) (arrivals : List Arrival)
    → (more : List Held) × (source window (stream_of window (a ∷ arrivals)) ≡ source window (stream_of window arrivals) ++ more)
unfolding stream_of
source_grows window a arrivals = (goes window (stream_of window arrivals) a (is_ordered window arrivals)).1
