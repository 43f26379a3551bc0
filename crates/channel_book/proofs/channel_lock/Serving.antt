-- A caller looks whether it is served, and takes the book.
use Rattle.std.proofs.Common.{◌≡◌, ◌≢◌, ℕ, zero, suc, ◌+◌, ◌-◌, ◌<◌, ◌≤◌, Bool, true, false, eqb, List, ◌∷◌, length, set, get_or, refl, sym, ap, subst, arith, Some}
use Rattle.std.specs.Prelude.{◌==◌, MatchBool}
use Rattle.std.proofs.lemmas.Bool.Decides.{nat_tests}
use mathlib.Core.Option.{none, some}
use lib.ListN.{get_elem?}
use Rattle.atomic_table.specs.Table.{State, Act, Valid, Allows, step, stepped, carried_after, keeps, takes}
use Rattle.rams_model.specs.Service.{Settings}
use Rattle.channel_book.specs.{IsLegal, Kept}
use Rattle.channel_book.specs.declared.channel_lock.turns.View.{View}
use Rattle.channel_book.specs.channel_lock.Turns.{has_list, lists_of, calls_left, is_taken, among, has_ticket, waits, kept, Turns, Fits}
use Rattle.channel_book.specs.channel_lock.Steps.{Mine, IsServed, Looked}
use Rattle.channel_book.proofs.channel_lock.Lists.{total_set, term_le, total_less}
use Rattle.channel_book.proofs.channel_lock.Beginnings.{starts_same}
use Rattle.channel_book.proofs.channel_lock.Sums.{stays, weight}
use Rattle.channel_book.specs.channel_lock.{total}
use Rattle.channel_book.proofs.channel_lock.Views.{fits_set, sums_set}

first_among : (ticket size serving : ℕ) → ticket ≡ serving + 1 → 0 < size → among ticket size serving ≡ 1
first_among ticket size serving is filled = grind (arith, nat_tests)

taken_le : (taken ticket size serving : ℕ) → taken ≤ 1 → (0 < taken → (ticket ≡ serving + 1) × (0 < size)) → taken ≤ among ticket size serving
taken_le zero ticket size serving small served = omega arith
taken_le (suc taken) ticket size serving small served = let is = served (omega arith) in omega (arith, small, first_among ticket size serving is.0 is.1)

waits_le : (serving ticket n : ℕ) → waits serving ticket n ≤ 1
waits_le serving ticket n = grind (arith, nat_tests)

-- who has the first ticket that is served, and hasn't taken the book, finds it at home
free_turn : (s : Settings) (passes : ℕ) (st : State Kept View) (o : Turns s passes st) (id : ℕ) (v : View) → get_elem? st.views id ≡ some v
    → v.ticket ≡ o.serving + 1 → 0 < v.size → v.taken ≡ 0 → total is_taken st.views ≡ 0
free_turn s passes st o id v at mine some_tickets free =
    let one = waits_le o.serving o.ticket o.serving in
    let has : has_ticket o.serving v ≡ 1 = first_among v.ticket v.size o.serving mine some_tickets in
    let less : total is_taken st.views < total (has_ticket o.serving) st.views =
    total_less is_taken (has_ticket o.serving) st.views id v at
    (λ j u there. taken_le u.taken u.ticket u.size o.serving (omega (arith, term_le is_taken st.views j u there, o.out)) (λ t. let turn = (o.fits j u there).turn t in (turn.0, turn.1))) (omega (arith, has, free)) in
    omega (arith, less, o.tickets o.serving, one)

waits_drawn : (serving ticket n : ℕ) → 1 ≤ waits serving ticket n → n < ticket
waits_drawn serving ticket n h = grind (arith, nat_tests)

last_among : (ticket size serving : ℕ) → ticket ≡ serving + 1 → 0 < size → among ticket size (serving + (size - 1)) ≡ 1
last_among ticket size serving is filled = grind (arith, nat_tests)

-- the tickets from the one that is served on were drawn
pub was_drawn : (s : Settings) (passes : ℕ) (st : State Kept View) (o : Turns s passes st) (id : ℕ) (v : View) → get_elem? st.views id ≡ some v → v.ticket ≡ o.serving + 1 → 0 < v.size
    → o.serving + v.size ≤ o.ticket
was_drawn s passes st o id v at mine some_tickets =
    let last = o.serving + (v.size - 1) in
    let has : has_ticket last v ≡ 1 = last_among v.ticket v.size o.serving mine some_tickets in
    let drawn = waits_drawn o.serving o.ticket last (omega (arith, has, term_le (has_ticket last) st.views id v at, o.tickets last)) in
    omega (arith, drawn, some_tickets)

served_tickets : (before after mine waiting : ℕ) → before ≡ waiting → after + mine ≡ before + mine → after ≡ waiting
served_tickets before after mine waiting was sum = omega (arith, was, sum)

serves : (s : Settings) (passes slots id : ℕ) (m : Mine) (st : State Kept View) (o : Turns s passes st) → get_elem? st.views id ≡ some m.0 → m.0.ticket ≡ o.serving + 1 → 0 < m.0.size → m.0.taken ≡ 0 → 0 < length st.homes
    → (w : View) × (a : Act Kept) × Valid st.homes m.1 a
    × Turns s passes (stepped st 1 (get_or st.words 1 0) id m.1 w a)
    × ((t : Settings) → m.0.config ≡ Some t → IsServed t m (w, carried_after m.1 a))
serves s passes slots id m st o at mine some_tickets free room =
    let v = m.0 in
    let f = o.fits id v at in
    let none_out = free_turn s passes st o id v at mine some_tickets free in
    let drawn = was_drawn s passes st o id v at mine some_tickets in
    let w : View = record v { log = o.log; taken = 1 } in
    let taken = total_set is_taken st.views id v w at in (
      w,
      takes 0 (kept s o.log),
      o.home none_out,
      record {
        log = o.log;
        ticket = o.ticket;
        serving = o.serving;
        words = ap (λ (ws : List ℕ). set ws 1 (get_or ws 1 0)) o.words;
        order = o.order;
        legal = o.legal;
        short = o.short;
        room = omega (arith, total_set calls_left st.views id v w at, o.room);
        tickets = λ n. served_tickets (total (has_ticket n) st.views) _ (has_ticket n v) (waits o.serving o.ticket n) (o.tickets n) (total_set (has_ticket n) st.views id v w at);
        home = λ none. absurd (omega (arith, taken, none_out, free, none));
        out = omega (arith, taken, none_out, free);
        once = λ list. omega (arith, total_set (has_list list) st.views id v w at, o.once list);
        all = omega (arith, total_set lists_of st.views id v w at, o.all);
        others = λ list none. o.others list (omega (arith, total_set (has_list list) st.views id v w at, none));
        fits = fits_set (Fits s o.log o.serving) st.views id w (λ j u apart e. o.fits j u e) (record {
          settings = f.settings;
          seen = starts_same o.log;
          told = f.told;
          own = λ list some. refl;
          past = f.past;
          turn = λ t. (mine, some_tickets, refl);
          idle = λ e. absurd (omega (arith, (f.idle e).0, mine));
        });
      },
      λ t known. let is = f.settings t known in record {
        log = o.log;
        seat_is = ap (λ (x : Settings). (w, (0, kept x o.log) ∷ m.1)) (sym is);
        starts = f.seen;
        legal = subst (λ (x : Settings). IsLegal x o.log) (sym is) o.legal;
        short = omega (arith, o.short, drawn, o.room);
        own = f.own;
      },
    )

looks_at : (s : Settings) (passes slots id : ℕ) (m : Mine) → 0 < m.0.size → m.0.taken ≡ 0 → 0 < slots → (st : State Kept View) (o : Turns s passes st) → length st.homes ≡ slots → get_elem? st.views id ≡ some m.0
    → (b : Bool) → eqb (get_or st.words 1 0 + 1) m.0.ticket ≡ b
    → (w : View) × (a : Act Kept) × Valid st.homes m.1 a
    × Turns s passes (stepped st 1 (get_or st.words 1 0) id m.1 w a)
    × Looked (step slots 1 0 0 none) m (get_or st.words 1 0) (w, carried_after m.1 a)
looks_at s passes slots id m some_tickets free some_slot st o count at true is =
    let found : get_or st.words 1 0 ≡ o.serving = ap (λ (ws : List ℕ). get_or ws 1 0) o.words in
    let mine : m.0.ticket ≡ o.serving + 1 = grind (arith, nat_tests) in
    let t = serves s passes slots id m st o at mine some_tickets free (omega (arith, count, some_slot)) in
    (t.0, t.1, t.2, t.3, λ x known. subst (λ (b : Bool). MatchBool b (IsServed x m (t.0, carried_after m.1 t.1)) ((t.0, carried_after m.1 t.1) ≡ m)) (sym is) (t.4 x known))
looks_at s passes slots id m some_tickets free some_slot st o count at false is = (
  m.0,
  keeps,
  tt,
  stays s passes st o (set st.words 1 (get_or st.words 1 0)) (set st.views id m.0) (ap (λ (ws : List ℕ). set ws 1 (get_or ws 1 0)) o.words)
      (sums_set weight st.views id m.0 m.0 at (λ k. refl)) (fits_set (Fits s o.log o.serving) st.views id m.0 (λ j u apart e. o.fits j u e) (o.fits id m.0 at)),
  λ x known. subst (λ (b : Bool). MatchBool b (IsServed x m m) (m ≡ m)) (sym is) refl,
)

pub looks : (s : Settings) (passes slots id : ℕ) (m : Mine) → 0 < m.0.size → m.0.taken ≡ 0 → 0 < slots → Allows (Turns s passes) slots id m 1 (λ n. n) (Looked (step slots 1 0 0 none) m)
looks s passes slots id m some_tickets free some_slot st o count at fit = looks_at s passes slots id m some_tickets free some_slot st o count at (eqb (get_or st.words 1 0 + 1) m.0.ticket) refl

-- what was looked up, at a caller who knows the settings and its ticket
pub is_served : (n ticket mine : ℕ) (A B : Type 0) → mine ≡ ticket + 1 → n ≡ ticket → MatchBool (n + 1 == mine) A B → A
is_served n ticket mine A B is same told = subst (λ (b : Bool). MatchBool b A B) (test n ticket mine is same) told
  where
    test : (n ticket mine : ℕ) → mine ≡ ticket + 1 → n ≡ ticket → eqb (n + 1) mine ≡ true
    test n ticket mine is same = grind (arith, nat_tests)

pub not_served : (n ticket mine : ℕ) (A B : Type 0) → mine ≡ ticket + 1 → n ≢ ticket → MatchBool (n + 1 == mine) A B → B
not_served n ticket mine A B is other told = subst (λ (b : Bool). MatchBool b A B) (test n ticket mine is other) told
  where
    test : (n ticket mine : ℕ) → mine ≡ ticket + 1 → n ≢ ticket → eqb (n + 1) mine ≡ false
    test n ticket mine is other = grind (arith, nat_tests)
