-- A packet that came in time is of the source exactly where its number is below the end of what is held.
use Rattle.std.proofs.Common.{◌≡◌, ℕ, ◌<◌, ◌≤◌, Bool, true, false, ◌||◌, not, cond, eqb, ltb, leb, List, [], ◌∷◌, ◌++◌, filter, Option, Some, ◌-◌, ◌≢◌, refl, sym, ap, ◌∙◌, subst, arith, ⊎_elim}
use Rattle.std.proofs.lemmas.Bool.{cases_Bool, cond_both, or_right, eqb-true, eq-eqb, and_parts, ltb-true, ltb-false, lt-ltb}
use Rattle.std.proofs.lemmas.List.Folds.{list_any-append}
use Rattle.rams_model.specs.declared.{Event.Event, Held.Held, LiveNote.LiveNote, LiveNote.TheVariants.Took, LiveNote.TheVariants.Restart}
use Rattle.rams_model.specs.declared.Event.TheVariants as event
use Rattle.rams_model.specs.Laws.{Rises}
use Rattle.rams_model.specs.Packets.{hi, has_number, awaited, held_as, Arrival, Stream, stream_of, stream_after, live_note}
use Rattle.rams_model.specs.Packets.Source as sources
use Rattle.rams_model.specs.Formats.{framed}
use Rattle.rams_model.specs.Service.{Settings, Heard, live, History, began, stream, heard_of, heard_live, arrivals, history_of}
use Rattle.rams_model.proofs.Growing.{source_rises}
use Rattle.rams_model.proofs.HeldEnds.{hi-hold}
use Rattle.rams_model.proofs.Induction.{arrivals_of_event}
use Rattle.rams_model.proofs.Rising.{none_at_hi, hi_of_end, end_of, has_with}
use Rattle.rams_model.proofs.Waiting.{from_first, is_missing_itself}
use Rattle.server_hub.specs.{hi_of}
use Rattle.server_hub.specs.Served.{Served}
use Rattle.meet_loop.specs.world_laws.{source_of, takes, hears_number, as_it_came}
use Rattle.service_laws.proofs.book_laws.CameBefore.{all_of, not_live}
use Rattle.service_laws.proofs.byte_laws.Rising.{all_rises}

-- ---- what came in time

-- a packet of this number came in time
abbrev Came : ℕ → Stream → Type 0
Came n st = has_number n (all_of st) ≡ true

came_by : (n : ℕ) (st : Stream) → (has_number n st.ended || has_number n st.present) ≡ true → Came n st
came_by n st e = list_any-append (λ h. eqb h.n n) st.ended st.present ∙ e

came_of : (n : ℕ) (st : Stream) → Came n st → (has_number n st.ended || has_number n st.present) ≡ true
came_of n st e = sym (list_any-append (λ h. eqb h.n n) st.ended st.present) ∙ e

-- a packet more, or none
note_came : (n : ℕ) (st : Stream) (a : Arrival) (note : LiveNote) (bytes got : List ℕ) (old : Option (List ℕ)) → (old ≡ Some got → Came n st) → cond (takes n note) (Some bytes) old ≡ Some got
    → Came n (stream_after st a note)
note_came n st a (Took m) bytes got old before e = by (eqb m n) refl e
  where
    by : (b : Bool) → eqb m n ≡ b → cond b (Some bytes) old ≡ Some got → Came n (stream_after st a (Took m))
    by true t e =
        came_by n (stream_after st a (Took m))
        (or_right (has_number n st.ended) _ (has_with n (held_as m a) st.present ∙ ap (λ (x : Bool). x || has_number n st.present) t))
    by false t e =
        came_by n (stream_after st a (Took m))
        (ap (λ (x : Bool). has_number n st.ended || x) (has_with n (held_as m a) st.present ∙ ap (λ (x : Bool). x || has_number n st.present) t) ∙ came_of n st (before e))
note_came n st a (Restart m) bytes got old before e = by (eqb m n) refl e
  where
    by : (b : Bool) → eqb m n ≡ b → cond b (Some bytes) old ≡ Some got → Came n (stream_after st a (Restart m))
    by true t e = came_by n (stream_after st a (Restart m)) (or_right (has_number n (all_of st)) _ (ap (λ (x : Bool). x || false) t))
    by false t e = came_by n (stream_after st a (Restart m)) (ap (λ (x : Bool). x || has_number n (held_as m a ∷ [])) (before e))
note_came n st a note bytes got old before e = before e

heard_came : (s : Settings) (n : ℕ) (history : History) (h : Heard) (bytes got : List ℕ) (old : Option (List ℕ)) → (old ≡ Some got → Came n (stream s history))
    → cond (hears_number s (stream s history) n h) (Some bytes) old ≡ Some got → Came n (stream_of s.channel.window (arrivals (began h ∷ history)))
unfolding arrivals stream_of
heard_came s n history (live a) bytes got old before e = let st = stream s history in note_came n st a (live_note s.channel.window st a.sequence) bytes got old before e
heard_came s n history h bytes got old before e = before e

event_came : (s : Settings) (n : ℕ) (event : Event) (events : List Event) (got : List ℕ) → (as_it_came s events n ≡ Some got → Came n (stream s (history_of s events)))
    → as_it_came s (event ∷ events) n ≡ Some got → Came n (stream_of s.channel.window (arrivals (began (heard_of s.channel event) ∷ history_of s events)))
unfolding heard_of as_it_came arrivals
event_came s n (event.Live bytes) events got before e = heard_came s n (history_of s events) (heard_live s.channel bytes) bytes got (as_it_came s events n) before e
event_came s n (event.Feedback client bytes) events got before e =
    subst (λ (came : List Arrival). Came n (stream_of s.channel.window came)) (sym (not_live client (framed bytes) (history_of s events))) (before e)
event_came s n event.Tick events got before e = before e

-- what came as these bytes came in time
each_came : (s : Settings) (n : ℕ) (events : List Event) (got : List ℕ) → as_it_came s events n ≡ Some got → Came n (stream s (history_of s events))
unfolding history_of as_it_came
each_came s n [] got e = absurd cc
each_came s n (event ∷ events) got e =
    subst (λ (came : List Arrival). Came n (stream_of s.channel.window came)) (sym (arrivals_of_event s (heard_of s.channel event) (history_of s events)))
    (event_came s n event events got (each_came s n events got) e)

-- ---- the source

-- the packets below a number end at most there
hi_cons : (bound : ℕ) (h : Held) (hs : List Held) → h.n < bound → hi hs ≤ bound → hi (h ∷ hs) ≤ bound
unfolding hi
hi_cons bound h [] lt le = omega (arith, lt)
hi_cons bound h (k ∷ hs) lt le = le

hi_below : (bound : ℕ) (hs : List Held) → hi (filter (λ h. ltb h.n bound) hs) ≤ bound
unfolding hi
hi_below bound [] = omega arith
hi_below bound (h ∷ hs) =
    cond_both (ltb h.n bound) (h ∷ filter (λ k. ltb k.n bound) hs) (filter (λ k. ltb k.n bound) hs) (λ l. hi l ≤ bound)
    (λ t. hi_cons bound h (filter (λ k. ltb k.n bound) hs) (ltb-true h.n bound t) (hi_below bound hs)) (λ f. hi_below bound hs)

has_below : (n bound : ℕ) (hs : List Held) → n < bound → has_number n hs ≡ true → has_number n (filter (λ h. ltb h.n bound) hs) ≡ true
has_below n bound [] lt e = absurd cc
has_below n bound (h ∷ hs) lt e =
    cond_both (ltb h.n bound) (h ∷ filter (λ k. ltb k.n bound) hs) (filter (λ k. ltb k.n bound) hs) (λ l. has_number n l ≡ true)
    (λ t. by (has_below n bound hs lt) (eqb h.n n) e) (λ f. has_below n bound hs lt (not_this f))
  where
    by : (has_number n hs ≡ true → has_number n (filter (λ k. ltb k.n bound) hs) ≡ true) → (b : Bool) → (b || has_number n hs) ≡ true
        → (b || has_number n (filter (λ k. ltb k.n bound) hs)) ≡ true
    by more true e = refl
    by more false e = more e

    not_this : ltb h.n bound ≡ false → has_number n hs ≡ true
    not_this f = ⊎_elim (λ t. absurd (let same = eqb-true h.n n t in let above = ltb-false h.n bound f in omega (arith, lt, same, above)))
        (λ t. sym (ap (λ (b : Bool). b || has_number n hs) t) ∙ e) (cases_Bool (eqb h.n n))

-- the first packet of a start is below the awaited number
first_below : (window : ℕ) (h : Held) (hs : List Held) → Rises 0 (h ∷ hs) → h.n < awaited window (h ∷ hs)
first_below window h hs rises =
    let from = from_first window h hs in
    let missing = and_parts (not (has_number (awaited window (h ∷ hs)) (h ∷ hs))) (leb (hi (h ∷ hs) - 1 - window) (awaited window (h ∷ hs))) (is_missing_itself window 0 h hs rises) in
    let other : h.n ≢ awaited window (h ∷ hs) = λ same.
    let has : has_number (awaited window (h ∷ hs)) (h ∷ hs) ≡ true = ap (λ (b : Bool). b || has_number (awaited window (h ∷ hs)) hs) (eq-eqb h.n (awaited window (h ∷ hs)) same) in
    let no : false ≡ true = sym (ap not has) ∙ missing.0 in absurd cc in
    omega (arith, from, other)

-- a number that came in time and is below the end of the source is of the source
below_end : (window n : ℕ) (ended : List Held) (present : List Held) → Rises 0 present → (has_number n ended || has_number n present) ≡ true
    → let bound = awaited window present in let part = filter (λ h. ltb h.n bound) present in n < hi (ended ++ part) → (has_number n ended || has_number n part) ≡ true
below_end window n ended [] rises came lt = came
below_end window n ended (h ∷ hs) rises came lt = by (has_number n ended) came
  where
    bound : ℕ
    bound = awaited window (h ∷ hs)

    rest : List Held
    rest = filter (λ k. ltb k.n bound) hs

    front : ltb h.n bound ≡ true
    front = lt-ltb h.n bound (first_below window h hs rises)

    part_is : filter (λ k. ltb k.n bound) (h ∷ hs) ≡ h ∷ rest
    part_is = ap (λ (b : Bool). cond b (h ∷ rest) rest) front

    within : n < bound
    within =
        let ends : hi (ended ++ filter (λ k. ltb k.n bound) (h ∷ hs)) ≡ hi (h ∷ rest) = ap (λ (l : List Held). hi (ended ++ l)) part_is ∙ hi_of_end ended h rest in
        let most : hi (h ∷ rest) ≤ bound = subst (λ (l : List Held). hi l ≤ bound) part_is (hi_below bound (h ∷ hs)) in
        omega (arith, lt, ends, most)

    by : (b : Bool) → (b || has_number n (h ∷ hs)) ≡ true → (b || has_number n (filter (λ k. ltb k.n bound) (h ∷ hs))) ≡ true
    by true e = refl
    by false e = has_below n bound (h ∷ hs) within e

pub in_source : (c : Served) (n : ℕ) (got : List ℕ) → 1 ≤ c.settings.channel.ring → as_it_came c.settings c.events n ≡ Some got → has_number n (source_of c) ≡ ltb n (hi_of c)
unfolding sources.source
in_source c n got ring came = by (ltb n (hi_of c)) refl
  where
    s : Settings
    s = c.settings

    st : Stream
    st = stream s (history_of s c.events)

    ends : hi_of c ≡ hi (source_of c)
    ends = hi-hold s.channel.window s.channel.ring st ring

    by : (b : Bool) → ltb n (hi_of c) ≡ b → has_number n (source_of c) ≡ b
    by false f = none_at_hi 0 n (source_of c) (source_rises s.channel.window (arrivals (history_of s c.events))) (subst (λ (m : ℕ). m ≤ n) ends (ltb-false n (hi_of c) f))
    by true t =
        list_any-append (λ h. eqb h.n n) st.ended (filter (λ h. ltb h.n (awaited s.channel.window st.present)) st.present)
        ∙ below_end s.channel.window n st.ended st.present (end_of 0 st.ended st.present (all_rises s.channel.window (arrivals (history_of s c.events))))
        (came_of n st (each_came s n c.events got came)) (subst (λ (m : ℕ). n < m) ends (ltb-true n (hi_of c) t))
