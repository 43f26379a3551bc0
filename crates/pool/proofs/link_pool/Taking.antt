-- The next bytes are claimed.
use Rattle.std.proofs.Common.{◌≡◌, ℕ, ◌+◌, ◌%◌, ◌^◌, ◌<◌, ◌≤◌, List, [], ◌∷◌, ◌++◌, set, get_or, refl, sym, ap, ◌∙◌, arith}
use Rattle.std.specs.Prelude.{slice_index}
use Rattle.std.proofs.lemmas.List.Sums.{sum_by_push}
use mathlib.Core.Option.{none}
use Rattle.atomic_table.specs.Table.{Allows, step, keeps}
use Rattle.pool.specs.declared.{link_pool.claim.Claim.Claim, link_pool.link.View.View}
use Rattle.pool.specs.link_pool.Claims.{claim, claims_of, bytes_of, claimed}
use Rattle.pool.specs.link_pool.Sharing.{is_ticker, granted_by, bytes_left, has_taker, takers_of, Fits, Fair}
use Rattle.pool.specs.link_pool.Steps.{Mine, with_claim, Taken}
use Rattle.pool.proofs.link_pool.Filling.{adjoin_snoc, claims_snoc, not_of, none_behind}
use Rattle.channel_book.specs.channel_lock.{total, times}
use Rattle.channel_book.proofs.channel_lock.Lists.{total_set, term_le, two_le}
use Rattle.channel_book.proofs.channel_lock.Views.{fits_set}

-- a view that has not the taker
fits_drawn : (drawn : List Claim) (c : Claim) (u : View) → ((number : ℕ) → 0 < times number u.owns → times number (c.taker ∷ []) ≡ 0) → Fits drawn u → Fits (drawn ++ c ∷ []) u
fits_drawn drawn c u apart f = record {
  own = λ number some. none_behind number drawn (c ∷ []) (not_of number c (apart number some)) ∙ f.own number some;
  alone = f.alone;
  idle = f.idle;
}

-- the view that has it
fits_mine : (drawn : List Claim) (c : Claim) (v w : View) → ((number : ℕ) → times number v.owns ≡ times number (c.taker ∷ [])) → w.claims ≡ v.claims ++ c ∷ [] → w.owns ≡ v.owns
    → w.grants ≡ v.grants → w.granted ≡ v.granted → Fits drawn v → Fits (drawn ++ c ∷ []) w
fits_mine drawn c v w mine claims owns grants granted f = record {
  own = λ number some.
      claims_snoc number drawn c ∙ ap (λ (l : List Claim). l ++ claims_of number (c ∷ [])) (f.own number (omega (arith, some, ap (times number) owns)))
      ∙ sym (ap (claims_of number) claims ∙ claims_snoc number v.claims c);
  alone = λ number unheld.
      let other : times number v.owns ≡ 0 = sym (ap (times number) owns) ∙ unheld in
      ap (claims_of number) claims ∙ none_behind number v.claims (c ∷ []) (not_of number c (sym (mine number) ∙ other)) ∙ f.alone number other;
  idle = λ e. granted ∙ f.idle (sym grants ∙ e);
}

pub takes : (takers slots id bytes taker : ℕ) (m : Mine) → m.0.owns ≡ taker ∷ [] → 0 < bytes → bytes ≤ m.0.left
    → Allows (Fair takers) slots id m 1 (λ n. (n + bytes) % 2 ^ 64) (Taken (step slots 1 bytes 0 none) m)
takes takers slots id bytes taker m owns some enough st o count at fit =
    let v = m.0 in
    let first = claimed o.drawn in
    let found : get_or st.words 1 0 ≡ first = ap (λ (ws : List ℕ). get_or ws 1 0) o.words in
    let c : Claim = claim (slice_index v.owns 0) first bytes in
    let w : View = with_claim v first bytes in
    let longer : claimed (o.drawn ++ c ∷ []) ≡ first + bytes = sum_by_push bytes_of o.drawn c in
    let left = total_set bytes_left st.views id v w at in
    let small : (first + bytes) % 2 ^ 64 ≡ first + bytes = omega (arith, o.room, term_le bytes_left st.views id v at, enough) in
    let is : c.taker ≡ taker = ap (λ (l : List ℕ). slice_index l 0) owns in
    let mine : (number : ℕ) → times number v.owns ≡ times number (c.taker ∷ []) = λ number. ap (times number) (owns ∙ ap (λ (k : ℕ). k ∷ []) (sym is)) in (
      w,
      keeps,
      tt,
      record {
        granted = o.granted;
        drawn = o.drawn ++ c ∷ [];
        words = ap (λ (ws : List ℕ). set ws 1 ((get_or ws 1 0 + bytes) % 2 ^ 64)) o.words ∙ ap (λ (k : ℕ). o.granted ∷ k ∷ []) (small ∙ sym longer);
        adjoin = adjoin_snoc 0 c.taker first bytes o.drawn (omega arith) some o.adjoin;
        ticker = omega (arith, total_set is_ticker st.views id v w at, o.ticker);
        grants = omega (arith, total_set granted_by st.views id v w at, o.grants);
        room = omega (arith, left, o.room, longer, enough);
        once = λ number. omega (arith, total_set (has_taker number) st.views id v w at, o.once number);
        all = omega (arith, total_set takers_of st.views id v w at, o.all);
        others = λ number unheld.
            let before : total (has_taker number) st.views ≡ 0 = omega (arith, total_set (has_taker number) st.views id v w at, unheld) in
            let other : times number v.owns ≡ 0 = omega (arith, term_le (has_taker number) st.views id v at, before) in
            none_behind number o.drawn (c ∷ []) (not_of number c (sym (mine number) ∙ other)) ∙ o.others number before;
        fits = fits_set (Fits (o.drawn ++ c ∷ [])) st.views id w
            (λ j u apart there. fits_drawn o.drawn c u
            (λ number held. sym (mine number) ∙ omega (arith, two_le (has_taker number) st.views j id u v apart there at, o.once number, held))
            (o.fits j u there))
            (fits_mine o.drawn c v w mine refl refl refl refl (o.fits id v at));
      },
      ap (λ (k : ℕ). (with_claim v k bytes, m.1)) (sym found),
    )
