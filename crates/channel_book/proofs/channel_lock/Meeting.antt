-- A pass is told what another has seen.
use Rattle.std.proofs.Common.{◌≡◌, ℕ, ◌<◌, Bool, true, false, ltb, List, [], ◌∷◌, ◌++◌, length, set, get_or, Option, Some, None, refl, sym, ap, ◌∙◌, subst, arith, inl, inr}
use Rattle.std.proofs.lemmas.Bool.Decides.{nat_tests}
use mathlib.Core.Option.{none, some}
use mathlib.Core.Logic.{◌⊎◌}
use lib.ListN.{get_elem?}
use Rattle.atomic_table.specs.Table.{State, Act, Valid, Allows, Splits, Joins, step, stepped, carried_after, keeps}
use Rattle.rams_model.specs.Service.{Settings}
use Rattle.channel_book.specs.declared.{entry.Entry.Entry, channel_lock.turns.View.View}
use Rattle.channel_book.specs.{IsLegal, calls_by, StartsWith, Kept}
use Rattle.channel_book.specs.channel_lock.Turns.{view, blank, Fits, Turns}
use Rattle.channel_book.specs.channel_lock.Steps.{Mine, note_of, told, Learnt}
use Rattle.channel_book.proofs.channel_lock.Beginnings.{starts_same, starts_empty, starts_shorter, legal_starts, calls_between}
use Rattle.channel_book.proofs.channel_lock.Sums.{Count, of_calls, of_ticket, of_taken, of_list, of_lists, weight, stays}
use Rattle.channel_book.specs.channel_lock.{times}
use Rattle.channel_book.proofs.channel_lock.Views.{fits_set, fits_snoc, sums_set, sums_cut, sums_join, at_other}

no_settings : (t : Settings) → None ≡ Some t → ⊥
no_settings t e = cc

-- what knows nothing fits
pub fits_blank : (s : Settings) (log : List Entry) (serving : ℕ) → Fits s log serving blank
fits_blank s log serving = record {
  settings = λ t e. absurd (no_settings t e);
  seen = starts_empty log;
  told = starts_empty log;
  own = λ list some. absurd (omega (arith, some));
  past = tt;
  turn = λ t. absurd (omega (arith, t));
  idle = λ e. (refl, refl);
}

abbrev note : Option Settings → List Entry → View
note config log = view config log [] [] [] 0 0 0 0

pub weight_note : (k : Count) (config : Option Settings) (log : List Entry) → weight k (note config log) ≡ 0
weight_note of_calls config log = refl
weight_note (of_ticket n) config log = grind (arith, nat_tests)
weight_note of_taken config log = refl
weight_note (of_list list) config log = refl
weight_note of_lists config log = refl

-- what was seen is noted
pub notes : (s : Settings) (passes id : ℕ) (v : View) → Splits (Turns s passes) id v v (note_of v)
notes s passes id v st o at =
    let f = o.fits id v at in
    stays s passes st o st.words (set st.views id v ++ note_of v ∷ []) o.words
    (sums_cut weight st.views id v v (note_of v) at (λ k. omega (arith, weight_note k v.config v.log)))
    (fits_snoc (Fits s o.log o.serving) (set st.views id v) (note_of v) (fits_set (Fits s o.log o.serving) st.views id v (λ j u apart e. o.fits j u e) f) (record {
      settings = f.settings;
      seen = f.seen;
      told = starts_empty o.log;
      own = λ list some. absurd (omega (arith, some));
      past = tt;
      turn = λ t. absurd (omega (arith, t));
      idle = λ e. (refl, refl);
    }))

weight_told : (k : Count) (v : View) (n : View) → weight k (told v n) ≡ weight k v
weight_told of_calls v n = refl
weight_told (of_ticket m) v n = refl
weight_told of_taken v n = refl
weight_told (of_list list) v n = refl
weight_told of_lists v n = refl

-- the note is told to another
pub tells : (s : Settings) (passes id other : ℕ) (v : View) (config : Option Settings) (log : List Entry)
    → Joins (Turns s passes) id v other (note config log) (told v (note config log)) blank
tells s passes id other v config log st o at apart there =
    let f = o.fits id v at in
    let both : View = told v (note config log) in
    let g = o.fits other (note config log) (at_other st.views id other both (note config log) apart there) in
    stays s passes st o st.words (set (set st.views id both) other blank) o.words
    (sums_join weight st.views id other v (note config log) both blank at there (λ k. omega (arith, weight_told k v (note config log), weight_note k config log, weight_note k None [])))
    (fits_set (Fits s o.log o.serving) (set st.views id both) other blank
    (λ j u other' e. fits_set (Fits s o.log o.serving) st.views id both (λ i x apart' e'. o.fits i x e') (record {
      settings = f.settings;
      seen = f.seen;
      told = g.seen;
      own = f.own;
      past = f.past;
      turn = f.turn;
      idle = f.idle;
    }) j u e)
    (fits_blank s o.log o.serving))

weight_learnt : (v : View) (log : List Entry) (k : Count) → weight k (record v { log = log; told = [] }) ≡ weight k v
weight_learnt v log of_calls = refl
weight_learnt v log (of_ticket m) = refl
weight_learnt v log of_taken = refl
weight_learnt v log (of_list list) = refl
weight_learnt v log of_lists = refl

abbrev Knows : Settings → ℕ → ℕ → ℕ → Mine → State Kept View → Type 0
Knows s passes slots id m st = (w : View) × (a : Act Kept) × Valid st.homes m.1 a × Turns s passes (stepped st 0 (get_or st.words 0 0) id m.1 w a)
    × Learnt (step slots 0 0 0 none) m (get_or st.words 0 0) (w, carried_after m.1 a)

-- the longer history is known to be the one that goes on
knows : (s : Settings) (passes slots id : ℕ) (m : Mine) → m.0.taken ≡ 0 → (st : State Kept View) (o : Turns s passes st) → get_elem? st.views id ≡ some m.0
    → (log : List Entry) → StartsWith o.log log → StartsWith log m.0.log → StartsWith log m.0.told → (log ≡ m.0.log) ⊎ (log ≡ m.0.told) → Knows s passes slots id m st
knows s passes slots id m free st o at log whole starts other one =
    let v = m.0 in
    let f = o.fits id v at in
    let w : View = record v { log = log; told = [] } in
    let own : (list : ℕ) → 0 < times list v.owns → calls_by list log ≡ calls_by list v.log = λ list some. calls_between list o.log log v.log whole starts (f.own list some) in (
      w,
      keeps,
      tt,
      stays s passes st o (set st.words 0 (get_or st.words 0 0)) (set st.views id w) (ap (λ (ws : List ℕ). set ws 0 (get_or ws 0 0)) o.words)
          (sums_set weight st.views id v w at (weight_learnt v log)) (fits_set (Fits s o.log o.serving) st.views id w (λ j u apart e. o.fits j u e) (record {
            settings = f.settings;
            seen = whole;
            told = starts_empty o.log;
            own = λ list some. f.own list some ∙ sym (own list some);
            past = f.past;
            turn = λ t. absurd (omega (arith, free, t));
            idle = f.idle;
          })),
      record {
        log = log;
        seat_is = refl;
        starts = starts;
        tells = other;
        one = one;
        legal = λ t known. subst (λ (x : Settings). IsLegal x log) (sym (f.settings t known)) (legal_starts s o.log log whole o.legal);
        own = own;
      },
    )

learns_as : (s : Settings) (passes slots id : ℕ) (m : Mine) → m.0.taken ≡ 0 → (st : State Kept View) (o : Turns s passes st) → get_elem? st.views id ≡ some m.0
    → (b : Bool) → ltb (length m.0.log) (length m.0.told) ≡ b → Knows s passes slots id m st
learns_as s passes slots id m free st o at true is =
    let f = o.fits id m.0 at in
    knows s passes slots id m free st o at m.0.told f.told (starts_shorter o.log m.0.log m.0.told f.seen f.told (grind (arith, nat_tests))) (starts_same m.0.told) (inr refl)
learns_as s passes slots id m free st o at false is =
    let f = o.fits id m.0 at in
    knows s passes slots id m free st o at m.0.log f.seen (starts_same m.0.log) (starts_shorter o.log m.0.told m.0.log f.told f.seen (grind (arith, nat_tests))) (inl refl)

pub learns : (s : Settings) (passes slots id : ℕ) (m : Mine) → m.0.taken ≡ 0 → Allows (Turns s passes) slots id m 0 (λ n. n) (Learnt (step slots 0 0 0 none) m)
learns s passes slots id m free st o count at fit = learns_as s passes slots id m free st o at (ltb (length m.0.log) (length m.0.told)) refl
