-- What becomes of a packet by its number is told by the numbers of the packets before it.
use Rattle.std.proofs.Common.{◌≡◌, ℕ, ◌+◌, ◌-◌, ◌<◌, ◌≤◌, inl, inr, ⊎_elim, Bool, true, false, cond, not, ◌||◌, List, [], ◌∷◌, Option, Some, None, option_map, refl, ap, sym, ◌∙◌, subst, arith, eqb, ltb, leb}
use Rattle.std.specs.Prelude.{Contains}
use Rattle.std.specs.List.{list_any}
use Rattle.std.proofs.lemmas.Bool.{cond_both, cases_Bool, both_ways, or_cases, or_left, or_right, and_parts, and_from, not-true, not_from_false, eqb-true, eq-eqb, ltb-true, ltb-false, leb-true, le-leb, true≢false, lt-ltb, le-ltb, ne_eqb, cases_lt}
use Rattle.rams_model.specs.declared.{Held.Held, LiveNote.LiveNote}
use Rattle.rams_model.specs.declared.LiveNote.TheVariants.{Took, Restart, Late, Twice, Jump}
use Rattle.rams_model.specs.Packets.{hi, ahead, following, is_kept, Numbered, forward, backward, restart, jump, after_greatest, numbered, Arrival, Stream, held_as, has_number, is_missing, awaited, in_time, note_of, live_note, stream_after}
use Rattle.rams_model.specs.Laws.{Rises}
use Rattle.rams_model.proofs.Rising.{below_hi, none_at_hi, has_with}
use Rattle.rams_model.proofs.Waiting.{from_first, is_missing_itself, none_before}
use Rattle.service_laws.proofs.book_laws.RequestTable.{listed_contains, contains_listed}
use Rattle.service_laws.specs.byte_laws.{with_note, jumped_by, MayStillCome, Start, IsWithinReach, IsOutOfReach, FollowsTheJump, NumbersSo}
use Rattle.service_laws.proofs.byte_laws.Low.{IsHigh}

-- the number is one of these
abbrev pub has : ℕ → List ℕ → Bool
has m numbers = list_any (λ x. eqb x m) numbers

-- the numbers are those of the packets
abbrev pub SameNumbers : List ℕ → List Held → Type 0
SameNumbers numbers present = (m : ℕ) → has m numbers ≡ has_number m present

-- ---- one packet more

pub same_after : (st : Stream) (a : Arrival) (n : LiveNote) (numbers : List ℕ) → SameNumbers numbers st.present → SameNumbers (with_note n numbers) (stream_after st a n).present
same_after st a (Took n) numbers same = λ m. ap (λ (b : Bool). eqb n m || b) (same m) ∙ sym (has_with m (held_as n a) st.present)
same_after st a (Restart n) numbers same = λ m. refl
same_after st a n numbers same = same

pub kept_after : (st : Stream) (a : Arrival) (n : LiveNote) (jumped : Option ℕ) → st.kept ≡ option_map following jumped → (stream_after st a n).kept ≡ option_map following (jumped_by n a.sequence jumped)
kept_after st a Jump jumped e = refl
kept_after st a (Restart n) jumped e = refl
kept_after st a n jumped e = e

-- ---- a start

has_from : (n m : ℕ) (hs : List Held) → Rises n hs → has_number m hs ≡ true → n ≤ m
has_from n m [] r e = absurd (true≢false (sym e))
has_from n m (h ∷ hs) r e =
    ⊎_elim (λ t. let is = eqb-true h.n m t in omega (arith, is, r.0)) (λ t. let le = has_from (h.n + 1) m hs r.1 t in omega (arith, le, r.0)) (or_cases (eqb h.n m) (has_number m hs) e)

has_last : (n : ℕ) (h : Held) (hs : List Held) → Rises n (h ∷ hs) → has_number (hi (h ∷ hs) - 1) (h ∷ hs) ≡ true
unfolding hi
has_last n h [] r = or_left (eqb h.n (h.n + 1 - 1)) false (eq-eqb h.n (h.n + 1 - 1) (omega arith))
has_last n h (k ∷ hs) r = or_right (eqb h.n (hi (k ∷ hs) - 1)) (has_number (hi (k ∷ hs) - 1) (k ∷ hs)) (has_last (h.n + 1) k hs r.1)

module _ (window : ℕ) (h : Held) (hs : List Held) (rises : Rises 0 (h ∷ hs)) (numbers : List ℕ) (same : SameNumbers numbers (h ∷ hs)) where
  there : (m : ℕ) → has_number m (h ∷ hs) ≡ true → Contains numbers m
  there m e = contains_listed m numbers (same m ∙ e)

  from : (m : ℕ) → Contains numbers m → has_number m (h ∷ hs) ≡ true
  from m c = sym (same m) ∙ listed_contains m numbers c

  not_there : (m : ℕ) → has_number m (h ∷ hs) ≡ false → ¬ Contains numbers m
  not_there m f c = both_ways (has_number m (h ∷ hs)) f (from m c)

  none_there : (m : ℕ) → (¬ Contains numbers m) → has_number m (h ∷ hs) ≡ false
  none_there m never = ⊎_elim (λ t. absurd (never (there m t))) (λ f. f) (cases_Bool (has_number m (h ∷ hs)))

  missing : (m : ℕ) → is_missing window (h ∷ hs) m ≡ true → MayStillCome window numbers (hi (h ∷ hs) - 1) m
  missing m e =
      let both = and_parts (not (has_number m (h ∷ hs))) (leb (hi (h ∷ hs) - 1 - window) m) e in
      let le = leb-true (hi (h ∷ hs) - 1 - window) m both.1 in
      (not_there m (not-true (has_number m (h ∷ hs)) both.0), omega (arith, le))

  is_so : (m : ℕ) → MayStillCome window numbers (hi (h ∷ hs) - 1) m → is_missing window (h ∷ hs) m ≡ true
  is_so m c =
      let le : hi (h ∷ hs) - 1 - window ≤ m = omega (arith, c.1) in
      and_from (not (has_number m (h ∷ hs))) (leb (hi (h ∷ hs) - 1 - window) m) (not_from_false (has_number m (h ∷ hs)) (none_there m c.0)) (le-leb (hi (h ∷ hs) - 1 - window) m le)

  at_most : (m : ℕ) → has_number m (h ∷ hs) ≡ true → m ≤ hi (h ∷ hs) - 1
  at_most m e =
      ⊎_elim (λ (above : ltb m (hi (h ∷ hs)) ≡ true). let lt = ltb-true m (hi (h ∷ hs)) above in omega (arith, lt))
      (λ (f : ltb m (hi (h ∷ hs)) ≡ false). absurd (both_ways (has_number m (h ∷ hs)) (none_at_hi 0 m (h ∷ hs) rises (ltb-false m (hi (h ∷ hs)) f)) e)) (cases_Bool (ltb m (hi (h ∷ hs))))

  abbrev start : Start window numbers
  start = record {
    first = h.n;
    is_first = there h.n (or_left (eqb h.n h.n) (has_number h.n hs) (eq-eqb h.n h.n refl));
    from_first = λ m c. has_from h.n m (h ∷ hs) (omega arith, rises.1) (from m c);
    greatest = hi (h ∷ hs) - 1;
    is_greatest = there (hi (h ∷ hs) - 1) (has_last 0 h hs rises);
    to_greatest = λ m c. at_most m (from m c);
    awaited = awaited window (h ∷ hs);
    is_awaited = (from_first window h hs, missing (awaited window (h ∷ hs)) (is_missing_itself window 0 h hs rises));
    from_awaited = λ m le c. none_before window h hs m le (is_so m c);
  }

  -- one within reach
  in_time_so : (jumped : Option ℕ) (q n : ℕ) → IsWithinReach (hi (h ∷ hs) - 1) q n → NumbersSo window numbers jumped q (in_time window (h ∷ hs) n)
  in_time_so jumped q n reach =
      cond_both (ltb n (awaited window (h ∷ hs))) Late (cond (has_number n (h ∷ hs)) Twice (Took n)) (NumbersSo window numbers jumped q)
      (λ t. (start, n, reach, ltb-true n (awaited window (h ∷ hs)) t))
      (λ f. let le = ltb-false n (awaited window (h ∷ hs)) f in
      cond_both (has_number n (h ∷ hs)) Twice (Took n) (NumbersSo window numbers jumped q) (λ t. (start, n, reach, le, there n t)) (λ g. inr (start, reach, le, not_there n g)))

-- ---- the number

out_of_reach : (g q u : ℕ) → q < 65536 → 65536 ≤ g → u ≡ ahead q g → 3000 ≤ u → u ≤ 65436 → IsOutOfReach g q
out_of_reach g q u small high is least most n reach = omega (arith, small, high, is, least, most, reach.0, reach.1, reach.2)

follows : (jumped : Option ℕ) (q : ℕ) → is_kept (option_map following jumped) q ≡ true → FollowsTheJump jumped q
follows None q e = absurd (true≢false (sym e))
follows (Some j) q e = eqb-true q (following j) e

doesn't_follow : (jumped : Option ℕ) (q : ℕ) → is_kept (option_map following jumped) q ≡ false → ¬ FollowsTheJump jumped q
doesn't_follow None q e = λ f. f
doesn't_follow (Some j) q e = λ f. both_ways (eqb q (following j)) e (eq-eqb q (following j) f)

no_numbers : (numbers : List ℕ) → SameNumbers numbers [] → numbers ≡ []
no_numbers [] same = refl
no_numbers (n ∷ numbers) same = absurd (true≢false (sym (or_left (eqb n n) (has n numbers) (eq-eqb n n refl)) ∙ same n))

after_so : (window : ℕ) (h : Held) (hs : List Held) (rises : Rises 0 (h ∷ hs)) (numbers : List ℕ) (same : SameNumbers numbers (h ∷ hs)) (jumped : Option ℕ) (q u : ℕ) → q < 65536
    → 65536 ≤ hi (h ∷ hs) - 1 → u ≡ ahead q (hi (h ∷ hs) - 1)
    → NumbersSo window numbers jumped q (note_of window (h ∷ hs) (after_greatest (hi (h ∷ hs) - 1) (option_map following jumped) q u))
after_so window h hs rises numbers same jumped q u small high is =
    let g = hi (h ∷ hs) - 1 in
    let kept = option_map following jumped in
    let P : Numbered → Type 0 = λ n. NumbersSo window numbers jumped q (note_of window (h ∷ hs) n) in
    cond_both (ltb u 3000) (forward (g + u)) (cond (ltb 65436 u) (backward (g - (65536 - u))) (cond (is_kept kept q) (restart (g + u)) jump)) P
    (λ t. let lt = ltb-true u 3000 t in in_time_so window h hs rises numbers same jumped q (g + u) (omega (arith, small, is), omega arith, omega (arith, lt)))
    (λ f. let ge = ltb-false u 3000 f in
    cond_both (ltb 65436 u) (backward (g - (65536 - u))) (cond (is_kept kept q) (restart (g + u)) jump) P
    (λ t. let gt = ltb-true 65436 u t in
    in_time_so window h hs rises numbers same jumped q (g - (65536 - u)) (omega (arith, small, high, is, gt), omega (arith, gt), omega (arith, gt, is)))
    (λ f2. let le = ltb-false 65436 u f2 in
    let out = out_of_reach g q u small high is ge le in
    cond_both (is_kept kept q) (restart (g + u)) jump P
    (λ t. (start window h hs rises numbers same, out, follows jumped q t, omega (arith, small, is), omega (arith, ge), omega (arith, le)))
    (λ f3. (start window h hs rises numbers same, out, doesn't_follow jumped q f3))))

note_so : (window : ℕ) (present : List Held) (kept : Option ℕ) (numbers : List ℕ) (jumped : Option ℕ) (q : ℕ) → q < 65536 → Rises 0 present → IsHigh present → SameNumbers numbers present
    → kept ≡ option_map following jumped → NumbersSo window numbers jumped q (live_note window (record { ended = []; present = present; kept = kept }) q)
unfolding live_note numbered
note_so window [] kept numbers jumped q small rises high same e = inl (no_numbers numbers same, refl)
note_so window (h ∷ hs) kept numbers jumped q small rises high same e =
    let lt = below_hi 0 h hs rises in
    subst (λ (o : Option ℕ). NumbersSo window numbers jumped q (note_of window (h ∷ hs) (after_greatest (hi (h ∷ hs) - 1) o q (ahead q (hi (h ∷ hs) - 1))))) (sym e)
    (after_so window h hs rises numbers same jumped q (ahead q (hi (h ∷ hs) - 1)) small (omega (arith, lt, high)) refl)

pub live_note_so : (window : ℕ) (st : Stream) (numbers : List ℕ) (jumped : Option ℕ) (q : ℕ) → q < 65536 → Rises 0 st.present → IsHigh st.present → SameNumbers numbers st.present
    → st.kept ≡ option_map following jumped → NumbersSo window numbers jumped q (live_note window st q)
unfolding live_note
live_note_so window st numbers jumped q small rises high same e = note_so window st.present st.kept numbers jumped q small rises high same e

-- ---- no other note is right

-- the numbers tell the start
same_greatest : (window : ℕ) (numbers : List ℕ) (a b : Start window numbers) → a.greatest ≡ b.greatest
same_greatest window numbers a b = let up = a.to_greatest b.greatest b.is_greatest in let down = b.to_greatest a.greatest a.is_greatest in omega (arith, up, down)

same_first : (window : ℕ) (numbers : List ℕ) (a b : Start window numbers) → a.first ≡ b.first
same_first window numbers a b = let up = a.from_first b.first b.is_first in let down = b.from_first a.first a.is_first in omega (arith, up, down)

no_later : (window : ℕ) (numbers : List ℕ) (a b : Start window numbers) → a.awaited ≤ b.awaited
no_later window numbers a b =
    let top = same_greatest window numbers a b in
    let low = same_first window numbers a b in
    let is = b.is_awaited in
    a.from_awaited b.awaited (omega (arith, low, is.0)) (is.1.0, omega (arith, top, is.1.1))

same_awaited : (window : ℕ) (numbers : List ℕ) (a b : Start window numbers) → a.awaited ≡ b.awaited
same_awaited window numbers a b = let up = no_later window numbers a b in let down = no_later window numbers b a in omega (arith, up, down)

none_started : (window : ℕ) (numbers : List ℕ) → numbers ≡ [] → Start window numbers → ⊥
none_started window numbers e start = let c = subst (λ (l : List ℕ). Contains l start.first) e start.is_first in omega (arith, c.1)

-- what follows the jump
kept_so : (jumped : Option ℕ) (q : ℕ) → FollowsTheJump jumped q → is_kept (option_map following jumped) q ≡ true
kept_so None q f = absurd f
kept_so (Some j) q f = eq-eqb q (following j) f

not_kept : (jumped : Option ℕ) (q : ℕ) → (¬ FollowsTheJump jumped q) → is_kept (option_map following jumped) q ≡ false
not_kept None q f = refl
not_kept (Some j) q f = ne_eqb q (following j) f

-- one within reach has this note
reach_note : (window : ℕ) (present : List Held) (kept : Option ℕ) (g q n : ℕ) → 65536 ≤ g → IsWithinReach g q n
    → note_of window present (after_greatest g kept q (ahead q g)) ≡ in_time window present n
reach_note window present kept g q n high reach = ⊎_elim behind ahead_of (cases_lt n g)
  where
    ahead_of : g ≤ n → note_of window present (after_greatest g kept q (ahead q g)) ≡ in_time window present n
    ahead_of le =
        let at : ahead q g ≡ n - g = omega (arith, reach.0, reach.2, le) in
        let few : ltb (ahead q g) 3000 ≡ true = lt-ltb (ahead q g) 3000 (omega (arith, at, reach.2, le)) in
        let is : g + ahead q g ≡ n = omega (arith, at, le) in
        ap (λ (b : Bool). note_of window present (cond b (forward (g + ahead q g)) (cond (ltb 65436 (ahead q g)) (backward (g - (65536 - ahead q g))) (cond (is_kept kept q) (restart (g + ahead q g)) jump)))) few
        ∙ ap (in_time window present) is

    behind : n < g → note_of window present (after_greatest g kept q (ahead q g)) ≡ in_time window present n
    behind lt =
        let at : ahead q g ≡ 65536 - (g - n) = omega (arith, reach.0, reach.1, lt) in
        let many : ltb (ahead q g) 3000 ≡ false = le-ltb (ahead q g) 3000 (omega (arith, at, reach.1, lt)) in
        let near : ltb 65436 (ahead q g) ≡ true = lt-ltb 65436 (ahead q g) (omega (arith, at, reach.1, lt)) in
        let is : g - (65536 - ahead q g) ≡ n = omega (arith, at, lt, reach.1) in
        ap (λ (b : Bool). note_of window present (cond b (forward (g + ahead q g)) (cond (ltb 65436 (ahead q g)) (backward (g - (65536 - ahead q g))) (cond (is_kept kept q) (restart (g + ahead q g)) jump)))) many
        ∙ (ap (λ (b : Bool). note_of window present (cond b (backward (g - (65536 - ahead q g))) (cond (is_kept kept q) (restart (g + ahead q g)) jump))) near ∙ ap (in_time window present) is)

-- one out of reach
out_note : (window : ℕ) (present : List Held) (kept : Option ℕ) (g q : ℕ) (b : Bool) → q < 65536 → 65536 ≤ g → IsOutOfReach g q → is_kept kept q ≡ b
    → note_of window present (after_greatest g kept q (ahead q g)) ≡ note_of window present (cond b (restart (g + ahead q g)) jump)
out_note window present kept g q b small high out e =
    ap (λ (c : Bool). note_of window present (cond c (forward (g + ahead q g)) (cond (ltb 65436 (ahead q g)) (backward (g - (65536 - ahead q g))) (cond (is_kept kept q) (restart (g + ahead q g)) jump)))) many
    ∙ (ap (λ (c : Bool). note_of window present (cond c (backward (g - (65536 - ahead q g))) (cond (is_kept kept q) (restart (g + ahead q g)) jump))) near
    ∙ ap (λ (c : Bool). note_of window present (cond c (restart (g + ahead q g)) jump)) e)
  where
    many : ltb (ahead q g) 3000 ≡ false
    many =
        ⊎_elim (λ (t : ltb (ahead q g) 3000 ≡ true). let lt = ltb-true (ahead q g) 3000 t in absurd (out (g + ahead q g) (omega (arith, small), omega arith, omega (arith, lt)))) (λ f. f)
        (cases_Bool (ltb (ahead q g) 3000))

    near : ltb 65436 (ahead q g) ≡ false
    near =
        ⊎_elim (λ (t : ltb 65436 (ahead q g) ≡ true). let lt = ltb-true 65436 (ahead q g) t in
        absurd (out (g - (65536 - ahead q g)) (omega (arith, small, high, lt), omega (arith, lt), omega (arith, lt)))) (λ f. f) (cases_Bool (ltb 65436 (ahead q g)))

late_is : (window : ℕ) (present : List Held) (n : ℕ) → n < awaited window present → in_time window present n ≡ Late
late_is window present n lt = ap (λ (b : Bool). cond b Late (cond (has_number n present) Twice (Took n))) (lt-ltb n (awaited window present) lt)

in_time_is : (window : ℕ) (present : List Held) (n : ℕ) (b : Bool) → awaited window present ≤ n → has_number n present ≡ b → in_time window present n ≡ cond b Twice (Took n)
in_time_is window present n b le e =
    ap (λ (c : Bool). cond c Late (cond (has_number n present) Twice (Took n))) (le-ltb n (awaited window present) le) ∙ ap (λ (c : Bool). cond c Twice (Took n)) e

module _ (window : ℕ) (h : Held) (hs : List Held) (rises : Rises 0 (h ∷ hs)) (numbers : List ℕ) (same : SameNumbers numbers (h ∷ hs)) (jumped : Option ℕ) (q : ℕ) (small : q < 65536)
    (high : 65536 ≤ hi (h ∷ hs) - 1) where
  abbrev noted : LiveNote
  noted = note_of window (h ∷ hs) (after_greatest (hi (h ∷ hs) - 1) (option_map following jumped) q (ahead q (hi (h ∷ hs) - 1)))

  abbrev own : Start window numbers
  own = start window h hs rises numbers same

  reached : (other : Start window numbers) (n : ℕ) → IsWithinReach other.greatest q n → noted ≡ in_time window (h ∷ hs) n
  reached other n reach =
      reach_note window (h ∷ hs) (option_map following jumped) (hi (h ∷ hs) - 1) q n high
      (subst (λ (g : ℕ). IsWithinReach g q n) (same_greatest window numbers other own) reach)

  outside : (other : Start window numbers) → IsOutOfReach other.greatest q → IsOutOfReach (hi (h ∷ hs) - 1) q
  outside other out = subst (λ (g : ℕ). IsOutOfReach g q) (same_greatest window numbers other own) out

  only_later : (other : LiveNote) → NumbersSo window numbers jumped q other → noted ≡ other
  only_later (Took n) (inl first) = absurd (none_started window numbers first.0 own)
  only_later (Took n) (inr (other, reach, le, never)) =
      reached other n reach
      ∙ in_time_is window (h ∷ hs) n false (subst (λ (a : ℕ). a ≤ n) (same_awaited window numbers other own) le) (none_there window h hs rises numbers same n never)
  only_later Late (other, n, reach, lt) = reached other n reach ∙ late_is window (h ∷ hs) n (subst (λ (a : ℕ). n < a) (same_awaited window numbers other own) lt)
  only_later Twice (other, n, reach, le, c) =
      reached other n reach ∙ in_time_is window (h ∷ hs) n true (subst (λ (a : ℕ). a ≤ n) (same_awaited window numbers other own) le) (from window h hs rises numbers same n c)
  only_later Jump (other, out, never) =
      out_note window (h ∷ hs) (option_map following jumped) (hi (h ∷ hs) - 1) q false small high (outside other out) (not_kept jumped q never)
  only_later (Restart n) (other, out, follows, low, above, below) =
      let top = same_greatest window numbers other own in
      let is : hi (h ∷ hs) - 1 + ahead q (hi (h ∷ hs) - 1) ≡ n = omega (arith, top, low, above, below, small) in
      out_note window (h ∷ hs) (option_map following jumped) (hi (h ∷ hs) - 1) q true small high (outside other out) (kept_so jumped q follows) ∙ ap Restart is
  only_later other so = absurd so

only_note : (window : ℕ) (present : List Held) (kept : Option ℕ) (numbers : List ℕ) (jumped : Option ℕ) (q : ℕ) → q < 65536 → Rises 0 present → IsHigh present → SameNumbers numbers present
    → kept ≡ option_map following jumped → (other : LiveNote) → NumbersSo window numbers jumped q other
    → live_note window (record { ended = []; present = present; kept = kept }) q ≡ other
unfolding live_note numbered
only_note window [] kept numbers jumped q small rises high same e other so = alone other so
  where
    alone : (n : LiveNote) → NumbersSo window numbers jumped q n → Took (65536 + q) ≡ n
    alone (Took n) (inl first) = ap Took (sym first.1)
    alone (Took n) (inr later) = absurd (none_started window numbers (no_numbers numbers same) later.0)
    alone Late later = absurd (none_started window numbers (no_numbers numbers same) later.0)
    alone Twice later = absurd (none_started window numbers (no_numbers numbers same) later.0)
    alone Jump later = absurd (none_started window numbers (no_numbers numbers same) later.0)
    alone (Restart n) later = absurd (none_started window numbers (no_numbers numbers same) later.0)
    alone n later = absurd later
only_note window (h ∷ hs) kept numbers jumped q small rises high same e other so =
    let lt = below_hi 0 h hs rises in
    subst (λ (o : Option ℕ). note_of window (h ∷ hs) (after_greatest (hi (h ∷ hs) - 1) o q (ahead q (hi (h ∷ hs) - 1))) ≡ other) (sym e)
    (only_later window h hs rises numbers same jumped q small (omega (arith, lt, high)) other so)

pub only_live_note : (window : ℕ) (st : Stream) (numbers : List ℕ) (jumped : Option ℕ) (q : ℕ) → q < 65536 → Rises 0 st.present → IsHigh st.present → SameNumbers numbers st.present
    → st.kept ≡ option_map following jumped → (other : LiveNote) → NumbersSo window numbers jumped q other → live_note window st q ≡ other
unfolding live_note
only_live_note window st numbers jumped q small rises high same e other so = only_note window st.present st.kept numbers jumped q small rises high same e other so
