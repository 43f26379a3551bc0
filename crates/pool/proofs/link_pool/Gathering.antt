-- The takers are given back.
use Rattle.std.proofs.Common.{◌≡◌, ℕ, ◌+◌, ◌<◌, ◌≤◌, List, [], ◌∷◌, ◌++◌, set, refl, sym, ap, ◌∙◌, subst, arith}
use Rattle.std.proofs.lemmas.Grind.{flat_map-append}
use Rattle.std.proofs.lemmas.List.{append-nil, length-append, map-append}
use mathlib.Core.Logic.{dite}
use native.Mathlib.Decide.{ℕ_discrete}
use Rattle.atomic_table.specs.Table.{Joins}
use Rattle.pool.specs.declared.{link_pool.claim.Claim.Claim, link_pool.link.View.View}
use Rattle.pool.specs.link_pool.Sharing.{blank, granting, taking, has_taker, Fits, Fair}
use Rattle.pool.specs.link_pool.Steps.{Mine, with_taker}
use Rattle.pool.specs.link_pool.Parties.{Claimer, claims_given, numbers_given, IsTaker, HasGathered}
use Rattle.pool.proofs.link_pool.Filling.{none_before, none_behind}
use Rattle.pool.proofs.link_pool.Sums.{Count, of_ticker, of_grants, of_left, of_taker, of_takers, weight, stays}
use Rattle.channel_book.specs.channel_lock.{times, numbers}
use Rattle.channel_book.proofs.channel_lock.Lists.{two_le, times_append}
use Rattle.channel_book.proofs.channel_lock.Views.{fits_set, sums_join, at_other}

weight_given : (granted : ℕ) (owns : List ℕ) (claims : List Claim) (left number : ℕ) (own : List Claim) (more : ℕ) (k : Count)
    → weight k (with_taker (granting granted owns claims left) (taking number own more)) + weight k blank ≡ weight k (granting granted owns claims left) + weight k (taking number own more)
weight_given granted owns claims left number own more of_ticker = omega arith
weight_given granted owns claims left number own more of_grants = omega arith
weight_given granted owns claims left number own more of_left = omega arith
weight_given granted owns claims left number own more (of_taker n) = omega (arith, times_append n owns (number ∷ []))
weight_given granted owns claims left number own more of_takers = omega (arith, length-append owns (number ∷ []))

pub fits_blank : (drawn : List Claim) → Fits drawn blank
fits_blank drawn = record { own = λ number some. absurd (omega (arith, some)); alone = λ number none. refl; idle = λ e. refl }

-- two views without a taker in common
fits_both : (drawn : List Claim) (v w : View) → ((number : ℕ) → times number v.owns + times number w.owns ≤ 1) → (v.grants ≡ 0 → v.granted ≡ 0) → Fits drawn v → Fits drawn w → Fits drawn (with_taker v w)
fits_both drawn v w once idle f g = record {
  own = λ number some.
      dite (ℕ_discrete (times number v.owns) 0)
      (λ none. g.own number (omega (arith, some, none, times_append number v.owns w.owns)) ∙ sym (none_before number v.claims w.claims (f.alone number none)))
      (λ held. let one : 0 < times number v.owns = omega (arith, held) in
      f.own number one ∙ sym (none_behind number v.claims w.claims (g.alone number (omega (arith, once number, one)))));
  alone = λ number none.
      let a : times number v.owns ≡ 0 = omega (arith, none, times_append number v.owns w.owns) in
      let b : times number w.owns ≡ 0 = omega (arith, none, times_append number v.owns w.owns) in
      none_before number v.claims w.claims (f.alone number a) ∙ g.alone number b;
  idle = idle;
}

-- a taker is given back
pub gives_back : (takers id other granted : ℕ) (owns : List ℕ) (claims : List Claim) (left number : ℕ) (own : List Claim) (more : ℕ)
    → Joins (Fair takers) id (granting granted owns claims left) other (taking number own more) (with_taker (granting granted owns claims left) (taking number own more)) blank
gives_back takers id other granted owns claims left number own more st o at apart there =
    let v : View = granting granted owns claims left in
    let w : View = taking number own more in
    let both : View = with_taker v w in
    let was = at_other st.views id other both w apart there in
    let f = o.fits id v at in
    let g = o.fits other w was in
    stays takers st o (set (set st.views id both) other blank) (sums_join weight st.views id other v w both blank at there (weight_given granted owns claims left number own more))
    (fits_set (Fits o.drawn) (set st.views id both) other blank
    (λ j u other' e. fits_set (Fits o.drawn) st.views id both (λ i x apart' e'. o.fits i x e')
    (fits_both o.drawn v w (λ n. omega (arith, two_le (has_taker n) st.views other id w v apart was at, o.once n)) f.idle f g) j u e)
    (fits_blank o.drawn))

-- ---- what was gathered

pub gathers : (granted : ℕ) (done : List Claimer) (t : Claimer) (me own new : Mine) → HasGathered granted done me → IsTaker t.number t.claims own → new ≡ (with_taker me.0 own.0, me.1)
    → HasGathered granted (done ++ t ∷ []) new
gathers granted done t me own new gathered taker is =
    let joined : new ≡ (granting granted (numbers_given done ++ t.number ∷ []) (claims_given done ++ t.claims) (me.0.left + own.0.left), []) =
    is ∙ (λ j. (with_taker (gathered.seat_is j).0 (taker.seat_is j).0, (gathered.seat_is j).1)) in
    let numbers : numbers_given (done ++ t ∷ []) ≡ numbers_given done ++ t.number ∷ [] = map-append (λ (x : Claimer). x.number) done (t ∷ []) in
    let claims : claims_given (done ++ t ∷ []) ≡ claims_given done ++ t.claims =
    flat_map-append (λ (x : Claimer). x.claims) done (t ∷ []) ∙ ap (λ (l : List Claim). claims_given done ++ l) (append-nil t.claims) in
    let named : new ≡ (granting granted (numbers_given (done ++ t ∷ [])) (claims_given (done ++ t ∷ [])) (me.0.left + own.0.left), []) =
    joined ∙ (λ j. (granting granted (sym numbers j) (sym claims j) (me.0.left + own.0.left), [])) in
    subst (HasGathered granted (done ++ t ∷ [])) (sym named) (record { seat_is = refl })
