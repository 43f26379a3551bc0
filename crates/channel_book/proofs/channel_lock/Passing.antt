-- The book goes home, and the turn is passed on.
use Rattle.std.proofs.Common.{◌≡◌, ℕ, ◌+◌, ◌%◌, ◌^◌, ◌<◌, ◌≤◌, List, [], ◌∷◌, ◌++◌, map, length, set, get_or, refl, sym, ap, ◌∙◌, subst, arith, append_assoc}
use Rattle.std.specs.List.{AllByRecursion as Each}
use Rattle.std.proofs.lemmas.Bool.Decides.{nat_tests}
use Rattle.std.proofs.lemmas.List.{length-append}
use mathlib.Core.Option.{none, some}
use Rattle.atomic_table.specs.Table.{Allows, step, gives, rest}
use Rattle.atomic_table.proofs.Lists.{set_here}
use Rattle.rams_model.specs.Service.{Settings}
use Rattle.channel_book.specs.declared.{entry.Entry.Entry, channel_lock.turns.View.View}
use Rattle.channel_book.specs.{IsLegal, calls_by, StartsWith, Kept}
use Rattle.channel_book.specs.channel_lock.Turns.{has_list, lists_of, calls_left, is_taken, among, has_ticket, waits, kept, IsPast, Fits, Turns}
use Rattle.channel_book.specs.channel_lock.Steps.{Mine, Grew, PassedOn}
use Rattle.channel_book.proofs.channel_lock.Lists.{total_set, term_le, two_le, stands_first}
use Rattle.channel_book.proofs.channel_lock.Beginnings.{starts_same}
use Rattle.channel_book.proofs.channel_lock.Serving.{was_drawn}
use Rattle.channel_book.specs.channel_lock.{total, times}
use Rattle.channel_book.proofs.channel_lock.Views.{fits_set}

starts_grown : (log new more front : List Entry) → new ≡ log ++ more → StartsWith log front → StartsWith new front
starts_grown log new more front is st = record { rest = st.rest ++ more; is = is ∙ ap (λ (l : List Entry). l ++ more) st.is ∙ append_assoc front st.rest more }

-- no pass that was given back made the call
past_grown : (log new more : List Entry) → new ≡ log ++ more → (ps : List (ℕ × List Entry))
    → ((list : ℕ) → 0 < times list (map (λ (p : ℕ × List Entry). p.0) ps) → calls_by list new ≡ calls_by list log) → Each (IsPast log) ps → Each (IsPast new) ps
past_grown log new more is [] own each = tt
past_grown log new more is (p ∷ ps) own each = (
  record { starts = starts_grown log new more p.1 is each.0.starts; own = own p.0 (stands_first p.0 (map (λ (q : ℕ × List Entry). q.0) ps)) ∙ each.0.own },
  past_grown log new more is ps (λ list h. own list (omega (arith, h))) each.1,
)

-- a view whose lists made no call
fits_grown : (s : Settings) (log new more : List Entry) (serving next : ℕ) (u : View) → new ≡ log ++ more → u.taken ≡ 0
    → ((list : ℕ) → 0 < has_list list u → calls_by list new ≡ calls_by list log) → Fits s log serving u → Fits s new next u
fits_grown s log new more serving next u is free own f = record {
  settings = f.settings;
  seen = starts_grown log new more u.log is f.seen;
  told = starts_grown log new more u.told is f.told;
  own = λ list some. own list (omega (arith, some)) ∙ f.own list some;
  past = past_grown log new more is u.past (λ list some. own list (omega (arith, some))) f.past;
  turn = λ t. absurd (omega (arith, free, t));
  idle = f.idle;
}

passed_tickets : (before after mine size serving ticket n : ℕ) → mine ≡ serving + 1 → serving + size ≤ ticket → before ≡ waits serving ticket n
    → after + among mine size n ≡ before + among 0 0 n → after ≡ waits (serving + size) ticket n
passed_tickets before after mine size serving ticket n is drawn was sum = grind (arith, nat_tests)

first_book : Kept → List (ℕ × Kept) → Kept
first_book book [] = book
first_book book (x ∷ xs) = x.1

abbrev passed_with : View → Kept → List (ℕ × Kept) → Mine
passed_with v book others = (record v { log = book.entries; ticket = 0; size = 0; taken = 0 }, others)

told_passed : (v : View) (book b : Kept) (others : List (ℕ × Kept)) → (0, book) ∷ [] ≡ (0, b) ∷ others → passed_with v book [] ≡ passed_with v b others
unfolding first_book
told_passed v book b others e =
    let same : book ≡ b = ap (first_book book) e in
    let none : [] ≡ others = ap rest e in λ i. passed_with v (same i) (none i)

pub passes_on : (s : Settings) (passes id : ℕ) (v : View) (book : Kept) → v.taken ≡ 1 → Grew v book
    → Allows (Turns s passes) 1 id (v, (0, book) ∷ []) 1 (λ n. (n + v.size) % 2 ^ 64) (PassedOn (step 1 1 v.size 0 none) (v, (0, book) ∷ []))
passes_on s passes id v book taken grew st o count at fit =
    let f = o.fits id v at in
    let served = f.turn (omega (arith, taken)) in
    let same : book.settings ≡ s = f.settings book.settings grew.settings in
    let is : book.entries ≡ o.log ++ grew.more = grew.entries ∙ ap (λ (l : List Entry). l ++ grew.more) served.2 in
    let drawn = was_drawn s passes st o id v at served.0 served.1 in
    let small : (o.serving + v.size) % 2 ^ 64 ≡ o.serving + v.size = omega (arith, drawn, o.room) in
    let own : (list : ℕ) → times list v.owns ≡ 0 → calls_by list book.entries ≡ calls_by list o.log = λ list none. grew.own list none ∙ ap (calls_by list) served.2 in
    let w : View = record v { log = book.entries; ticket = 0; size = 0; taken = 0 } in (
      w,
      gives,
      tt,
      record {
        log = book.entries;
        ticket = o.ticket;
        serving = o.serving + v.size;
        words = ap (λ (ws : List ℕ). set ws 1 ((get_or ws 1 0 + v.size) % 2 ^ 64)) o.words ∙ ap (λ (k : ℕ). o.ticket ∷ k ∷ []) small;
        order = omega (arith, drawn);
        legal = subst (λ (x : Settings). IsLegal x book.entries) same grew.legal;
        short = omega (arith, ap length is, length-append o.log grew.more, grew.count, o.short);
        room = omega (arith, total_set calls_left st.views id v w at, o.room);
        tickets = λ n. passed_tickets (total (has_ticket n) st.views) _ v.ticket v.size o.serving o.ticket n served.0 drawn (o.tickets n) (total_set (has_ticket n) st.views id v w at);
        home = λ none_out. set_here st.homes 0 (some book) (omega (arith, count)) ∙ ap (λ (x : Settings). some (some (kept x book.entries))) same;
        out = omega (arith, total_set is_taken st.views id v w at, o.out);
        once = λ list. omega (arith, total_set (has_list list) st.views id v w at, o.once list);
        all = omega (arith, total_set lists_of st.views id v w at, o.all);
        others = λ list none.
            let before : total (has_list list) st.views ≡ 0 = omega (arith, total_set (has_list list) st.views id v w at, none) in
            own list (omega (arith, term_le (has_list list) st.views id v at, before)) ∙ o.others list before;
        fits = fits_set (Fits s book.entries (o.serving + v.size)) st.views id w
            (λ j u apart there. fits_grown s o.log book.entries grew.more o.serving (o.serving + v.size) u is
            (omega (arith, two_le is_taken st.views j id u v apart there at, o.out, taken))
            (λ list some. own list (omega (arith, two_le (has_list list) st.views j id u v apart there at, o.once list, some)))
            (o.fits j u there))
            (record {
              settings = f.settings;
              seen = starts_same book.entries;
              told = starts_grown o.log book.entries grew.more v.told is f.told;
              own = λ list some. refl;
              past = past_grown o.log book.entries grew.more is v.past
                  (λ list some. own list (omega (arith, term_le (has_list list) st.views id v at, o.once list, some))) f.past;
              turn = λ t. absurd (omega (arith, t));
              idle = λ e. (refl, refl);
            });
      },
      λ b others e. told_passed v book b others e,
    )

pub passes_on_as : (s : Settings) (passes slots id size : ℕ) (m : Mine) (book : Kept) → slots ≡ 1 → m.1 ≡ (0, book) ∷ [] → m.0.taken ≡ 1 → m.0.size ≡ size → Grew m.0 book
    → Allows (Turns s passes) slots id m 1 (λ n. (n + size) % 2 ^ 64) (PassedOn (step slots 1 size 0 none) m)
passes_on_as s passes slots id size m book one is taken all grew =
    subst (λ (k : ℕ). Allows (Turns s passes) k id m 1 (λ n. (n + size) % 2 ^ 64) (PassedOn (step k 1 size 0 none) m)) (sym one)
    (subst (λ (k : ℕ). Allows (Turns s passes) 1 id m 1 (λ n. (n + k) % 2 ^ 64) (PassedOn (step 1 1 k 0 none) m)) all
    (subst (λ (held : List (ℕ × Kept)). Allows (Turns s passes) 1 id (m.0, held) 1 (λ n. (n + m.0.size) % 2 ^ 64) (PassedOn (step 1 1 m.0.size 0 none) (m.0, held))) (sym is)
    (passes_on s passes id m.0 book taken grew)))
