-- The passes are given back, and the lock is closed.
use Rattle.std.proofs.Common.{◌≡◌, ◌≢◌, ℕ, ◌+◌, ◌≤◌, List, [], ◌∷◌, ◌++◌, map, length, set, Option, refl, sym, ap, ◌∙◌, arith}
use Rattle.std.specs.List.{AllByRecursion as Each}
use Rattle.std.proofs.lemmas.Bool.Decides.{nat_tests}
use Rattle.std.proofs.lemmas.List.{length-append, length-map, map-append}
use mathlib.Core.Option.{none, some, some-injective}
use mathlib.Core.Logic.{dite}
use native.Mathlib.Decide.{ℕ_discrete}
use lib.ListN.{get_elem?}
use Rattle.atomic_table.specs.Table.{State, Enters, Joins, Final, Seen, step}
use Rattle.rams_model.specs.Service.{Settings}
use Rattle.channel_book.specs.declared.{entry.Entry.Entry, channel_lock.turns.View.View}
use Rattle.channel_book.specs.{IsLegal, calls_by, Kept}
use Rattle.channel_book.specs.channel_lock.Turns.{view, blank, gathering, has_list, lists_past, lists_of, is_taken, kept, IsPast, Turns, Fits}
use Rattle.channel_book.specs.channel_lock.Steps.{with_pass, Sat}
use Rattle.channel_book.proofs.channel_lock.Lists.{times_append, two_le, all_zero, no_times, stands_first, each_snoc}
use Rattle.channel_book.proofs.channel_lock.Sums.{Count, of_calls, of_ticket, of_taken, of_list, of_lists, weight, stays}
use Rattle.channel_book.proofs.channel_lock.Meeting.{fits_blank, weight_note}
use Rattle.channel_book.specs.channel_lock.{total, times}
use Rattle.channel_book.proofs.channel_lock.Views.{fits_set, fits_snoc, sums_join, sums_snoc, at_other}

-- one comes who knows nothing
pub sits : (s : Settings) (passes slots : ℕ) (first : View) → Enters (Turns s passes) slots 0 (λ n w. Sat (step slots 0 0 0 none) (first, []) n (w, []))
sits s passes slots first st o count fit = (
  blank,
  stays s passes st o st.words (st.views ++ blank ∷ []) o.words (sums_snoc weight st.views blank (λ k. weight_note k _ []))
      (fits_snoc (Fits s o.log o.serving) st.views blank o.fits (fits_blank s o.log o.serving)),
  refl,
)

abbrev given : Option Settings → ℕ → List Entry → ℕ → View
given config list log left = view config log [] (list ∷ []) [] left 0 0 0

weight_given : (past : List (ℕ × List Entry)) (left : ℕ) (config : Option Settings) (list : ℕ) (log : List Entry) (more : ℕ) (k : Count)
    → weight k (with_pass (gathering past left) (given config list log more)) + weight k blank ≡ weight k (gathering past left) + weight k (given config list log more)
weight_given past left config list log more of_calls = omega arith
weight_given past left config list log more (of_ticket n) = grind (arith, nat_tests)
weight_given past left config list log more of_taken = omega arith
weight_given past left config list log more (of_list l) =
    omega (arith, ap (times l) (map-append (λ (q : ℕ × List Entry). q.0) past ((list, log) ∷ [])), times_append l (map (λ (q : ℕ × List Entry). q.0) past) (list ∷ []))
weight_given past left config list log more of_lists = omega (arith, length-append past ((list, log) ∷ []))

-- a pass is given back
pub gives_back : (s : Settings) (passes id other : ℕ) (past : List (ℕ × List Entry)) (left : ℕ) (config : Option Settings) (list : ℕ) (log : List Entry) (more : ℕ)
    → Joins (Turns s passes) id (gathering past left) other (given config list log more) (with_pass (gathering past left) (given config list log more)) blank
gives_back s passes id other past left config list log more st o at apart there =
    let v : View = gathering past left in
    let w : View = given config list log more in
    let both : View = with_pass v w in
    let f = o.fits id v at in
    let g = o.fits other w (at_other st.views id other both w apart there) in
    stays s passes st o st.words (set (set st.views id both) other blank) o.words
    (sums_join weight st.views id other v w both blank at there (weight_given past left config list log more))
    (fits_set (Fits s o.log o.serving) (set st.views id both) other blank
    (λ j u other' e. fits_set (Fits s o.log o.serving) st.views id both (λ i x apart' e'. o.fits i x e') (record {
      settings = f.settings;
      seen = f.seen;
      told = f.told;
      own = λ l some. absurd (omega (arith, some));
      past = each_snoc (IsPast o.log) past (list, log) f.past (record { starts = g.seen; own = g.own list (stands_first list []) });
      turn = λ t. absurd (omega (arith, t));
      idle = λ e. (refl, refl);
    }) j u e)
    (fits_blank s o.log o.serving))

-- ---- the end

-- What is found where all passes were given back.
pub record IsWhole (s : Settings) (past : List (ℕ × List Entry)) (log : List Entry) : Type 0 where
  pub legal : IsLegal s log
  pub each : Each (IsPast log) past
  pub others : (list : ℕ) → times list (map (λ (q : ℕ × List Entry). q.0) past) ≡ 0 → calls_by list log ≡ []

module _ (s : Settings) (passes id : ℕ) (past : List (ℕ × List Entry)) (left : ℕ) (all : passes ≤ length past) (st : State Kept View) (o : Turns s passes st)
    (at : get_elem? st.views id ≡ some (gathering past left)) where
  no_lists : (j : ℕ) (u : View) → j ≢ id → get_elem? st.views j ≡ some u → lists_of u ≡ 0
  no_lists j u apart there = omega (arith, two_le lists_of st.views j id u (gathering past left) apart there at, o.all, all)

  at_home : total is_taken st.views ≡ 0
  at_home = all_zero is_taken st.views (λ j u there.
      dite (ℕ_discrete j id)
      (λ same. ap (λ (x : View). x.taken) (some-injective u (gathering past left) (sym there ∙ (ap (get_elem? st.views) same ∙ at))))
      (λ apart. ((o.fits j u there).idle (omega (arith, no_lists j u apart there))).1))

  no_more : (list : ℕ) → times list (map (λ (q : ℕ × List Entry). q.0) past) ≡ 0 → total (has_list list) st.views ≡ 0
  no_more list unheld = all_zero (has_list list) st.views (λ j u there.
      dite (ℕ_discrete j id)
      (λ same. ap (has_list list) (some-injective u (gathering past left) (sym there ∙ (ap (get_elem? st.views) same ∙ at))) ∙ omega (arith, unheld))
      (λ apart. let e = no_lists j u apart there in
      omega (arith, no_times list u.owns (omega (arith, e)), no_times list (lists_past u) (omega (arith, e, length-map u.past (λ (q : ℕ × List Entry). q.0))))))

pub closes : (s : Settings) (passes id : ℕ) (past : List (ℕ × List Entry)) (left : ℕ) (words : List ℕ) (books : List Kept) → passes ≤ length past
    → Final (Seen (Turns s passes) id (gathering past left)) words books → (log : List Entry) × (get_elem? books 0 ≡ some (kept s log)) × IsWhole s past log
closes s passes id past left words books all final =
    let st = final.0 in
    let o = final.1.0 in
    let at = final.1.1 in (
      o.log,
      final.4 0 (kept s o.log) (o.home (at_home s passes id past left all st o at)),
      record {
        legal = o.legal;
        each = (o.fits id (gathering past left) at).past;
        others = λ list unheld. o.others list (no_more s passes id past left all st o at list unheld);
      },
    )
