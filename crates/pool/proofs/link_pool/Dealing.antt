-- A link begins, and its takers are cut off.
use Rattle.std.proofs.Common.{◌≡◌, ℕ, zero, suc, ◌+◌, ◌-◌, ◌^◌, ◌≤◌, List, [], ◌∷◌, ◌++◌, set, refl, sym, subst, arith}
use mathlib.Core.Option.{some, some-injective, some-ne-none}
use lib.ListN.{get_elem?}
use Rattle.atomic_table.specs.Seated.{TableId}
use Rattle.atomic_table.specs.Table.{opening, Splits}
use Rattle.pool.specs.declared.{link_pool.claim.Claim.Claim, link_pool.link.View.View}
use Rattle.pool.specs.link_pool.Sharing.{granting, taking, first_view, Fits, Fair}
use Rattle.pool.specs.link_pool.Steps.{Mine, undealt, dealt}
use Rattle.pool.specs.link_pool.Parties.{claimer, fresh_takers, IsTaker}
use Rattle.pool.proofs.link_pool.Sums.{Count, of_ticker, of_grants, of_left, of_taker, of_takers, weight, stays}
use Rattle.channel_book.specs.channel_lock.{numbers}
use Rattle.channel_book.proofs.channel_lock.Numbers.{length_numbers, stands_once, map_numbers}
use Rattle.channel_book.proofs.channel_lock.Views.{fits_set, fits_snoc, sums_cut}

pub fresh_snoc : (pool : TableId) (n : ℕ) → fresh_takers pool (n + 1) ≡ fresh_takers pool n ++ claimer pool n [] ∷ []
fresh_snoc pool n = map_numbers (λ number. claimer pool number []) n

-- ---- the beginning

fits_first : (owns : List ℕ) (left : ℕ) → Fits [] (granting 0 owns [] left)
fits_first owns left = record { own = λ number some. refl; alone = λ number none. refl; idle = λ e. refl }

pub begins : (takers : ℕ) → Fair takers (opening (0 ∷ 0 ∷ []) [] (first_view takers))
begins takers = record {
  granted = 0;
  drawn = [];
  words = refl;
  adjoin = tt;
  ticker = refl;
  grants = refl;
  room = omega arith;
  once = λ number. omega (arith, stands_once number 0 takers);
  all = omega (arith, length_numbers 0 takers);
  others = λ number none. refl;
  fits = only;
}
  where
    only : (id : ℕ) (v : View) → get_elem? (first_view takers ∷ []) id ≡ some v → Fits [] v
    only zero v at = subst (Fits []) (some-injective (first_view takers) v at) (fits_first (numbers 0 takers) (2 ^ 54))
    only (suc id) v at = absurd (some-ne-none v (sym at))

-- ---- a taker is cut off

weight_dealt : (number : ℕ) (owns : List ℕ) (left : ℕ) → 2 ^ 48 ≤ left → (k : Count)
    → weight k (undealt (granting 0 (number ∷ owns) [] left)) + weight k (dealt (granting 0 (number ∷ owns) [] left)) ≡ weight k (granting 0 (number ∷ owns) [] left)
weight_dealt number owns left enough of_ticker = omega arith
weight_dealt number owns left enough of_grants = omega arith
weight_dealt number owns left enough of_left = omega (arith, enough)
weight_dealt number owns left enough (of_taker n) = omega arith
weight_dealt number owns left enough of_takers = omega arith

pub deals : (takers id number : ℕ) (owns : List ℕ) (left : ℕ) → 2 ^ 48 ≤ left
    → Splits (Fair takers) id (granting 0 (number ∷ owns) [] left) (undealt (granting 0 (number ∷ owns) [] left)) (dealt (granting 0 (number ∷ owns) [] left))
deals takers id number owns left enough st o at =
    let v : View = granting 0 (number ∷ owns) [] left in
    let f = o.fits id v at in
    let rest : View = undealt v in
    let new : View = dealt v in
    stays takers st o (set st.views id rest ++ new ∷ []) (sums_cut weight st.views id v rest new at (weight_dealt number owns left enough))
    (fits_snoc (Fits o.drawn) (set st.views id rest) new (fits_set (Fits o.drawn) st.views id rest (λ j u apart e. o.fits j u e) (record {
      own = λ n some. f.own n (omega (arith, some));
      alone = λ n none. refl;
      idle = λ e. refl;
    })) (record {
      own = λ n some. f.own n (omega (arith, some));
      alone = λ n none. refl;
      idle = λ e. refl;
    }))

pub new_taker : (number : ℕ) (claims : List Claim) (me : Mine) → claims ≡ [] → me ≡ (taking number [] (2 ^ 48), []) → IsTaker number claims me
new_taker number claims me none is =
    subst (λ (l : List Claim). IsTaker number l me) (sym none) (subst (IsTaker number []) (sym is) (record { seat_is = refl; room = omega arith; own = tt }))
