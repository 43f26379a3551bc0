-- Which repairs are over: those that got a note.
use Rattle.std.proofs.Common.{◌≡◌, ℕ, ◌≤◌, Bool, true, false, ◌||◌, List, [], ◌∷◌, ◌++◌, length, map, Option, Some, None, refl, ap, sym, ◌∙◌, subst, arith, eqb, filter, append_assoc, append-nil}
use Rattle.std.specs.List.{AllByRecursion as Each}
use Rattle.std.proofs.lemmas.Bool.{cond_both, cond-true, or_left, and_from, eq-eqb, and_parts, eqb-true, false_from_ne_true, both_ways}
use Rattle.std.proofs.lemmas.List.Folds.{list_any-append}
use Rattle.rams_model.specs.declared.{Held.Held, Info.Info, Cause.Cause, Note.Note, Cause.TheVariants.Lost}
use Rattle.rams_model.specs.declared.Note.TheVariants.{Burst as BurstNote, Repair, Gone, End, Forgot}
use Rattle.rams_model.specs.Service.{Settings, Wanted, is_wanted, is_lost}
use Rattle.rams_model.specs.Packets.{following}
use Rattle.client_table.specs.declared.{Burst.Burst, Entry.Entry}
use Rattle.repair_queue.specs.{IsWithinLimits}
use Rattle.channel_cache.specs.packet_ring.{packet_of}
use Rattle.tick_core.specs.declared.allowance.Allowance.{Allowance}
use Rattle.tick_draft.specs.{Drafted, with_note, with_packet, with_end}
use Rattle.tick_core.specs.{run_of, after_run, end_of, with_run, with_served, with_all_served, Repaired, allowance_for, fits, waiting, with_repair, with_wanted, with_all_wanted, idle_after, with_all_forgotten, ends_wait, is_over}

-- one note more
over_more : (w : Wanted) (notes : List Note) (note : Note) → is_over (notes ++ note ∷ []) w ≡ (is_over notes w || (ends_wait w note || false))
over_more w notes note = list_any-append (ends_wait w) notes (note ∷ [])

or_false : (b c : Bool) → c ≡ false → (b || (c || false)) ≡ b
or_false true c e = refl
or_false false c e = ap (λ (x : Bool). x || false) e

-- a note that ends nothing of it
other_note : (w : Wanted) (notes : List Note) (note : Note) → ends_wait w note ≡ false → is_over (notes ++ note ∷ []) w ≡ is_over notes w
other_note w notes note none = over_more w notes note ∙ or_false (is_over notes w) (ends_wait w note) none

-- ---- runs and forgetting end no repair
run_ends_none : (w : Wanted) (k seq : ℕ) (hs : List Held) (d : Drafted) → is_over (with_run k seq hs d).notes w ≡ is_over d.notes w
unfolding with_run
run_ends_none w k seq [] d = refl
run_ends_none w k seq (h ∷ hs) d = run_ends_none w k (following seq) hs (with_packet d (BurstNote k h.n seq) k seq h) ∙ other_note w d.notes (BurstNote k h.n seq) refl

end_ends_none : (w : Wanted) (k : ℕ) (last : Info) (cause : Option Cause) (d : Drafted) → is_over (with_end d k last cause).notes w ≡ is_over d.notes w
end_ends_none w k last None d = refl
end_ends_none w k last (Some cause) d = other_note w d.notes (End k cause) refl

served_ends_none : (s : Settings) (held : List Held) (w : Wanted) (k : ℕ) (e : Entry) (o : Option Burst) (d : Drafted) → is_over (with_served s held k e o d).notes w ≡ is_over d.notes w
served_ends_none s held w k e None d = refl
served_ends_none s held w k e (Some b) d =
    cond_both (is_lost b.next held) _ _ (λ (x : Drafted). is_over x.notes w ≡ is_over d.notes w) (λ t. end_ends_none w k b.last (Some Lost) d)
    (λ f. end_ends_none w k b.last (end_of s.channel.limit b (after_run held e.seq b).next) (with_run k e.seq (run_of held b) d) ∙ run_ends_none w k e.seq (run_of held b) d)

pub all_served_end_none : (s : Settings) (held : List Held) (w : Wanted) (es : List (ℕ × Entry)) (d : Drafted) → is_over (with_all_served s held es d).notes w ≡ is_over d.notes w
unfolding with_all_served
all_served_end_none s held w [] d = refl
all_served_end_none s held w (e ∷ es) d = all_served_end_none s held w es _ ∙ served_ends_none s held w e.0 e.1 e.1.burst d

pub forgotten_end_none : (s : Settings) (ws : List Wanted) (w : Wanted) (es : List (ℕ × Entry)) (d : Drafted) → is_over (with_all_forgotten s ws es d).notes w ≡ is_over d.notes w
unfolding with_all_forgotten
forgotten_end_none s ws w [] d = refl
forgotten_end_none s ws w (e ∷ es) d =
    forgotten_end_none s ws w es _
    ∙ cond_both (eqb (idle_after ws e.0 e.1) s.channel.idle) (with_note d (Forgot e.0)) d (λ (x : Drafted). is_over x.notes w ≡ is_over d.notes w) (λ t. other_note w d.notes (Forgot e.0) refl) (λ f. refl)

-- ---- a repair ends itself alone
-- no repair stands twice
abbrev pub Differ : List Wanted → Type 0
Differ [] = Unit {0}
Differ (w ∷ ws) = Each (λ v. is_wanted w.client w.n v ≡ false) ws × Differ ws

-- what a repair adds: no note, or one that ends it; its flag says which
pub record Adds (w : Wanted) (r r2 : Repaired) : Type 0 where
  pub flag : Bool
  pub done : r2.done ≡ r.done ++ flag ∷ []
  pub itself : is_over r.draft.notes w ≡ false → is_over r2.draft.notes w ≡ flag
  pub others : (v : Wanted) → is_wanted w.client w.n v ≡ false → is_over r2.draft.notes v ≡ is_over r.draft.notes v

is_itself : (w : Wanted) → is_wanted w.client w.n w ≡ true
is_itself w = and_from (eqb w.client w.client) (eqb w.n w.n) (eq-eqb w.client w.client refl) (eq-eqb w.n w.n refl)

noted_itself : (w : Wanted) (notes : List Note) (note : Note) → ends_wait w note ≡ true → is_over notes w ≡ false → is_over (notes ++ note ∷ []) w ≡ true
noted_itself w notes note ends none = over_more w notes note ∙ (ap (λ (b : Bool). b || (ends_wait w note || false)) none ∙ or_left (ends_wait w note) false ends)

waits_on : (w : Wanted) (r : Repaired) → Adds w r (waiting r)
waits_on w r = record { flag = false; done = refl; itself = λ none. none; others = λ v differs. refl }

repair_adds : (w : Wanted) (h : Held) (o : Option Allowance) (r : Repaired) → Adds w r (with_repair w h o r)
repair_adds w h None r = waits_on w r
repair_adds w h (Some a) r =
    cond_both (fits h a r.draft) _ (waiting r) (Adds w r)
    (λ t. record {
      flag = true;
      done = refl;
      itself = λ none. noted_itself w r.draft.notes (Repair w.client w.n a.seq) (is_itself w) none;
      others = λ v differs. other_note v r.draft.notes (Repair w.client w.n a.seq) differs;
    })
    (λ f. waits_on w r)

wanted_adds : (w : Wanted) (o : Option Held) (r : Repaired) → Adds w r (with_wanted w o r)
wanted_adds w None r = record {
  flag = true;
  done = refl;
  itself = λ none. noted_itself w r.draft.notes (Gone w.client w.n) (is_itself w) none;
  others = λ v differs. other_note v r.draft.notes (Gone w.client w.n) differs;
}
wanted_adds w (Some h) r = repair_adds w h (allowance_for w.client r.allowances) r

-- the repairs of these alone are ended by theirs
all_wanted_others : (held : List Held) (v : Wanted) (ws : List Wanted) (r : Repaired) → Each (λ w. is_wanted w.client w.n v ≡ false) ws → is_over (with_all_wanted held ws r).draft.notes v ≡ is_over r.draft.notes v
unfolding with_all_wanted
all_wanted_others held v [] r differ = refl
all_wanted_others held v (w ∷ ws) r differ = all_wanted_others held v ws _ differ.1 ∙ (wanted_adds w (packet_of w.n held) r).others v differ.0

other_way : (w v : Wanted) → is_wanted w.client w.n v ≡ false → is_wanted v.client v.n w ≡ false
other_way w v f = false_from_ne_true (is_wanted v.client v.n w) (λ t.
    let parts = and_parts (eqb w.client v.client) (eqb w.n v.n) t in
    both_ways (is_wanted w.client w.n v) f
    (and_from (eqb v.client w.client) (eqb v.n w.n) (eq-eqb v.client w.client (sym (eqb-true w.client v.client parts.0))) (eq-eqb v.n w.n (sym (eqb-true w.n v.n parts.1)))))

other_ways : (w : Wanted) (ws : List Wanted) → Each (λ v. is_wanted w.client w.n v ≡ false) ws → Each (λ v. is_wanted v.client v.n w ≡ false) ws
other_ways w [] each = tt
other_ways w (v ∷ ws) each = (other_way w v each.0, other_ways w ws each.1)

none_yet : (held : List Held) (w : Wanted) (ws : List Wanted) (r : Repaired) → Each (λ v. is_wanted w.client w.n v ≡ false) ws → Each (λ v. is_over r.draft.notes v ≡ false) ws
    → Each (λ v. is_over (with_wanted w (packet_of w.n held) r).draft.notes v ≡ false) ws
none_yet held w [] r differ none = tt
none_yet held w (v ∷ ws) r differ none = ((wanted_adds w (packet_of w.n held) r).others v differ.0 ∙ none.0, none_yet held w ws r differ.1 none.1)

-- Each flag says whether a note ends its repair.
pub flags_say : (held : List Held) (ws : List Wanted) (r : Repaired) → Differ ws → Each (λ v. is_over r.draft.notes v ≡ false) ws
    → let end = with_all_wanted held ws r in end.done ≡ r.done ++ map (is_over end.draft.notes) ws
unfolding with_all_wanted
flags_say held [] r differ none = sym (append-nil r.done)
flags_say held (w ∷ ws) r differ none =
    let found = packet_of w.n held in
    let step = wanted_adds w found r in
    let after = with_wanted w found r in
    let end = with_all_wanted held ws after in
    let flag : is_over end.draft.notes w ≡ step.flag = all_wanted_others held w ws after (other_ways w ws differ.0) ∙ step.itself none.0 in
    flags_say held ws after differ.1 (none_yet held w ws r differ.0 none.1)
    ∙ (ap (λ (l : List Bool). l ++ map (is_over end.draft.notes) ws) step.done
    ∙ (append_assoc r.done (step.flag ∷ []) (map (is_over end.draft.notes) ws) ∙ ap (λ (b : Bool). r.done ++ b ∷ map (is_over end.draft.notes) ws) (sym flag)))

-- pending repairs stand once
none_pass : (p : Wanted → Bool) (ws : List Wanted) → length (filter p ws) ≤ 0 → Each (λ v. p v ≡ false) ws
none_pass p [] short = tt
none_pass p (w ∷ ws) short =
    cond_both (p w) (w ∷ filter p ws) (filter p ws) (λ l. length l ≤ 0 → Each (λ v. p v ≡ false) (w ∷ ws)) (λ t le. absurd (omega arith)) (λ f le. (f, none_pass p ws le)) short

once_rest : (p : Wanted → Bool) (w : Wanted) (ws : List Wanted) → length (filter p ws) ≤ length (filter p (w ∷ ws))
once_rest p w ws = cond_both (p w) (w ∷ filter p ws) (filter p ws) (λ l. length (filter p ws) ≤ length l) (λ t. omega arith) (λ f. omega arith)

once_differ : (ws : List Wanted) → ((client n : ℕ) → length (filter (is_wanted client n) ws) ≤ 1) → Differ ws
once_differ [] once = tt
once_differ (w ∷ ws) once =
    let p = is_wanted w.client w.n in
    let two : length (w ∷ filter p ws) ≤ 1 = subst (λ (l : List Wanted). length l ≤ 1) (cond-true (p w) (w ∷ filter p ws) (filter p ws) (is_itself w)) (once w.client w.n) in
    (none_pass p ws (omega arith), once_differ ws (λ client n. omega (arith, once client n, once_rest (is_wanted client n) w ws)))

pub limits_differ : (ws : List Wanted) → IsWithinLimits ws → Differ ws
limits_differ ws limits = once_differ ws limits.once
