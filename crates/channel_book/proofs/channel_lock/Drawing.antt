-- Tickets are drawn.
use Rattle.std.proofs.Common.{◌≡◌, ℕ, ◌+◌, ◌-◌, ◌%◌, ◌^◌, ◌<◌, ◌≤◌, List, [], ◌∷◌, length, set, get_or, sym, ap, ◌∙◌, arith}
use Rattle.std.proofs.lemmas.Bool.Decides.{nat_tests}
use mathlib.Core.Option.{none}
use Rattle.atomic_table.specs.Table.{Allows, step, keeps}
use Rattle.rams_model.specs.Service.{Settings}
use Rattle.channel_book.specs.declared.channel_lock.turns.View.{View}
use Rattle.channel_book.specs.channel_lock.Turns.{has_list, lists_of, calls_left, is_taken, among, has_ticket, waits, Turns, Fits}
use Rattle.channel_book.specs.channel_lock.Steps.{Mine, Drawn}
use Rattle.channel_book.proofs.channel_lock.Lists.{total_set, term_le}
use Rattle.channel_book.specs.channel_lock.{total}
use Rattle.channel_book.proofs.channel_lock.Views.{fits_set}

drawn_tickets : (before after mine held serving ticket size n : ℕ) → mine ≡ 0 → held ≡ 0 → serving ≤ ticket → before ≡ waits serving ticket n
    → after + among mine held n ≡ before + among (ticket + 1) size n → after ≡ waits serving (ticket + size) n
drawn_tickets before after mine held serving ticket size n no_ticket no_size order was sum = grind (arith, nat_tests)

pub draws : (s : Settings) (passes slots id size : ℕ) (m : Mine) → m.0.ticket ≡ 0 → m.0.size ≡ 0 → m.0.taken ≡ 0 → size ≤ m.0.left → 0 < length m.0.owns
    → Allows (Turns s passes) slots id m 0 (λ n. (n + size) % 2 ^ 64) (Drawn (step slots 0 size 0 none) m)
draws s passes slots id size m no_ticket no_size free left owner st o count at fit =
    let v = m.0 in
    let found : get_or st.words 0 0 ≡ o.ticket = ap (λ (ws : List ℕ). get_or ws 0 0) o.words in
    let w : View = record v { left = v.left - size; ticket = o.ticket + 1; size = size } in
    let calls = total_set calls_left st.views id v w at in
    let least = term_le calls_left st.views id v at in
    let small : (o.ticket + size) % 2 ^ 64 ≡ o.ticket + size = omega (arith, o.room, least, left) in
    let taken = total_set is_taken st.views id v w at in
    let f = o.fits id v at in (
      w,
      keeps,
      tt,
      record {
        log = o.log;
        ticket = o.ticket + size;
        serving = o.serving;
        words = ap (λ (ws : List ℕ). set ws 0 ((get_or ws 0 0 + size) % 2 ^ 64)) o.words ∙ ap (λ (k : ℕ). k ∷ o.serving ∷ []) small;
        order = omega (arith, o.order);
        legal = o.legal;
        short = o.short;
        room = omega (arith, calls, o.room, left);
        tickets = λ n. drawn_tickets (total (has_ticket n) st.views) _ v.ticket v.size o.serving o.ticket size n no_ticket no_size o.order (o.tickets n) (total_set (has_ticket n) st.views id v w at);
        home = λ none. o.home (omega (arith, taken, none));
        out = omega (arith, taken, o.out);
        once = λ list. omega (arith, total_set (has_list list) st.views id v w at, o.once list);
        all = omega (arith, total_set lists_of st.views id v w at, o.all);
        others = λ list none. o.others list (omega (arith, total_set (has_list list) st.views id v w at, none));
        fits = fits_set (Fits s o.log o.serving) st.views id w (λ j u apart e. o.fits j u e) (record {
          settings = f.settings;
          seen = f.seen;
          told = f.told;
          own = f.own;
          past = f.past;
          turn = λ t. absurd (omega (arith, free, t));
          idle = λ e. absurd (omega (arith, owner, e));
        });
      },
      ap (λ (k : ℕ). (record v { left = v.left - size; ticket = k + 1; size = size }, m.1)) (sym found),
    )
