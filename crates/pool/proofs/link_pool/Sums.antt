-- The rule after views were cut or put together.
use Rattle.std.proofs.Common.{◌≡◌, ℕ, List, [], ◌∷◌, refl, sym, ◌∙◌, arith}
use Rattle.std.specs.Prelude.{sum_by}
use Rattle.std.proofs.lemmas.List.Sums.{sum_by-cons}
use mathlib.Core.Option.{some}
use lib.ListN.{get_elem?}
use Rattle.atomic_table.specs.Table.{State}
use Rattle.pool.specs.declared.link_pool.link.View.{View}
use Rattle.pool.specs.link_pool.Sharing.{is_ticker, granted_by, bytes_left, has_taker, takers_of, Fits, Fair}
use Rattle.channel_book.specs.channel_lock.{total}
use Rattle.channel_book.proofs.channel_lock.Views.{SameSums}

-- what is counted over all views
pub data Count : Type 0 where
  of_ticker : Count
  of_grants : Count
  of_left : Count
  of_taker : ℕ → Count
  of_takers : Count

abbrev pub weight : Count → View → ℕ
weight of_ticker v = is_ticker v
weight of_grants v = granted_by v
weight of_left v = bytes_left v
weight (of_taker number) v = has_taker number v
weight of_takers v = takers_of v

-- Nothing is granted and nothing is claimed.
pub stays : (takers : ℕ) (st : State (Unit {0}) View) (o : Fair takers st) (views : List View) → SameSums weight st.views views
    → ((id : ℕ) (v : View) → get_elem? views id ≡ some v → Fits o.drawn v) → Fair takers (record { words = st.words; homes = st.homes; views = views })
stays takers st o views same fits = record {
  granted = o.granted;
  drawn = o.drawn;
  words = o.words;
  adjoin = o.adjoin;
  ticker = same of_ticker ∙ o.ticker;
  grants = same of_grants ∙ o.grants;
  room = omega (arith, same of_left, o.room);
  once = λ number. omega (arith, same (of_taker number), o.once number);
  all = same of_takers ∙ o.all;
  others = λ number none. o.others number (sym (same (of_taker number)) ∙ none);
  fits = fits;
}

pub sum_total : {A : Type 0} (f : A → ℕ) (xs : List A) → sum_by f xs ≡ total f xs
sum_total f [] = refl
sum_total f (x ∷ xs) = omega (arith, sum_by-cons f x xs, sum_total f xs)
