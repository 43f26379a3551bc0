-- A lock begins, and its passes are cut off.
use Rattle.std.proofs.Common.{◌≡◌, ℕ, zero, suc, ◌+◌, ◌^◌, ◌≤◌, List, [], ◌∷◌, ◌++◌, set, Some, refl, sym, subst, arith}
use Rattle.std.proofs.lemmas.Bool.Decides.{nat_tests}
use mathlib.Core.Option.{some, some-injective, some-ne-none}
use lib.ListN.{get_elem?}
use Rattle.atomic_table.specs.Table.{opening, Splits}
use Rattle.rams_model.specs.Service.{Settings}
use Rattle.channel_book.specs.declared.channel_lock.turns.View.{View}
use Rattle.channel_book.specs.channel_lock.Turns.{dealing, first_view, kept, Fits, Turns}
use Rattle.channel_book.specs.channel_lock.Steps.{undealt, dealt}
use Rattle.channel_book.proofs.channel_lock.Beginnings.{starts_same}
use Rattle.channel_book.proofs.channel_lock.Sums.{Count, of_calls, of_ticket, of_taken, of_list, of_lists, weight, stays}
use Rattle.channel_book.specs.channel_lock.{numbers}
use Rattle.channel_book.proofs.channel_lock.Numbers.{length_numbers, stands_once}
use Rattle.channel_book.proofs.channel_lock.Views.{fits_set, fits_snoc, sums_cut}

-- ---- the beginning

known : (t s : Settings) → Some s ≡ Some t → t ≡ s
known t s e = cc

fits_dealing : (s : Settings) (owns : List ℕ) (left : ℕ) → Fits s [] 0 (dealing s owns left)
fits_dealing s owns left = record {
  settings = λ t e. known t s e;
  seen = starts_same [];
  told = starts_same [];
  own = λ list some. refl;
  past = tt;
  turn = λ t. absurd (omega (arith, t));
  idle = λ e. (refl, refl);
}

pub begins : (s : Settings) (passes : ℕ) → Turns s passes (opening (0 ∷ 0 ∷ []) (kept s [] ∷ []) (first_view s passes))
begins s passes = record {
  log = [];
  ticket = 0;
  serving = 0;
  words = refl;
  order = omega arith;
  legal = tt;
  short = omega arith;
  room = omega arith;
  tickets = λ n. grind (arith, nat_tests);
  home = λ none. refl;
  out = omega arith;
  once = λ list. omega (arith, stands_once list 0 passes);
  all = omega (arith, length_numbers 0 passes);
  others = λ list none. refl;
  fits = only;
}
  where
    only : (id : ℕ) (v : View) → get_elem? (first_view s passes ∷ []) id ≡ some v → Fits s [] 0 v
    only zero v at = subst (Fits s [] 0) (some-injective (first_view s passes) v at) (fits_dealing s (numbers 0 passes) (2 ^ 40))
    only (suc id) v at = absurd (some-ne-none v (sym at))

-- ---- a pass is cut off

weight_dealt : (s : Settings) (list : ℕ) (owns : List ℕ) (left : ℕ) → 2 ^ 34 ≤ left → (k : Count)
    → weight k (undealt (dealing s (list ∷ owns) left)) + weight k (dealt (dealing s (list ∷ owns) left)) ≡ weight k (dealing s (list ∷ owns) left)
weight_dealt s list owns left enough of_calls = omega (arith, enough)
weight_dealt s list owns left enough (of_ticket n) = grind (arith, nat_tests)
weight_dealt s list owns left enough of_taken = omega arith
weight_dealt s list owns left enough (of_list l) = omega arith
weight_dealt s list owns left enough of_lists = omega arith

pub deals : (s t : Settings) (passes id list : ℕ) (owns : List ℕ) (left : ℕ) → 2 ^ 34 ≤ left
    → Splits (Turns s passes) id (dealing t (list ∷ owns) left) (undealt (dealing t (list ∷ owns) left)) (dealt (dealing t (list ∷ owns) left))
deals s t passes id list owns left enough st o at =
    let v : View = dealing t (list ∷ owns) left in
    let f = o.fits id v at in
    let rest : View = undealt v in
    let new : View = dealt v in
    stays s passes st o st.words (set st.views id rest ++ new ∷ []) o.words (sums_cut weight st.views id v rest new at (weight_dealt t list owns left enough))
    (fits_snoc (Fits s o.log o.serving) (set st.views id rest) new (fits_set (Fits s o.log o.serving) st.views id rest (λ j u apart e. o.fits j u e) (record {
      settings = f.settings;
      seen = f.seen;
      told = f.told;
      own = λ l some. f.own l (omega (arith, some));
      past = tt;
      turn = λ t. absurd (omega (arith, t));
      idle = λ e. (refl, refl);
    })) (record {
      settings = f.settings;
      seen = f.seen;
      told = f.told;
      own = λ l some. f.own l (omega (arith, some));
      past = tt;
      turn = λ t. absurd (omega (arith, t));
      idle = λ e. (refl, refl);
    }))
