-- The rule after views were cut or put together, or one of them changed what isn't counted.
use Rattle.std.proofs.Common.{◌≡◌, ℕ, List, [], ◌∷◌, sym, ◌∙◌, arith}
use mathlib.Core.Option.{some}
use lib.ListN.{get_elem?}
use Rattle.atomic_table.specs.Table.{State}
use Rattle.rams_model.specs.Service.{Settings}
use Rattle.channel_book.specs.{Kept}
use Rattle.channel_book.specs.declared.channel_lock.turns.View.{View}
use Rattle.channel_book.specs.channel_lock.Turns.{has_list, lists_of, calls_left, is_taken, has_ticket, Fits, Turns}
use Rattle.channel_book.proofs.channel_lock.Views.{SameSums}

-- what is counted over all views
pub data Count : Type 0 where
  of_calls : Count
  of_ticket : ℕ → Count
  of_taken : Count
  of_list : ℕ → Count
  of_lists : Count

abbrev pub weight : Count → View → ℕ
weight of_calls v = calls_left v
weight (of_ticket n) v = has_ticket n v
weight of_taken v = is_taken v
weight (of_list list) v = has_list list v
weight of_lists v = lists_of v

-- The history and whose turn it is stay as they are.
pub stays : (s : Settings) (passes : ℕ) (st : State Kept View) (o : Turns s passes st) (words : List ℕ) (views : List View) → words ≡ o.ticket ∷ o.serving ∷ []
    → SameSums weight st.views views → ((id : ℕ) (v : View) → get_elem? views id ≡ some v → Fits s o.log o.serving v)
    → Turns s passes (record { words = words; homes = st.homes; views = views })
stays s passes st o words views are same fits = record {
  log = o.log;
  ticket = o.ticket;
  serving = o.serving;
  words = are;
  order = o.order;
  legal = o.legal;
  short = o.short;
  room = omega (arith, same of_calls, o.room);
  tickets = λ n. same (of_ticket n) ∙ o.tickets n;
  home = λ none. o.home (sym (same of_taken) ∙ none);
  out = omega (arith, same of_taken, o.out);
  once = λ list. omega (arith, same (of_list list), o.once list);
  all = same of_lists ∙ o.all;
  others = λ list none. o.others list (sym (same (of_list list)) ∙ none);
  fits = fits;
}
