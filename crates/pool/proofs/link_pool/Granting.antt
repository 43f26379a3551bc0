-- Bytes are granted.
use Rattle.std.proofs.Common.{◌≡◌, ℕ, ◌+◌, ◌%◌, ◌^◌, ◌≤◌, List, [], ◌∷◌, set, get_or, refl, ap, ◌∙◌, arith}
use mathlib.Core.Option.{none, some}
use lib.ListN.{get_elem?}
use Rattle.atomic_table.specs.Table.{State, Allows, step, keeps}
use Rattle.pool.specs.declared.link_pool.link.View.{View}
use Rattle.pool.specs.link_pool.Claims.{claimed}
use Rattle.pool.specs.link_pool.Sharing.{is_ticker, granted_by, bytes_left, has_taker, takers_of, Fair, Fits}
use Rattle.pool.specs.link_pool.Steps.{Mine, with_grant, Granted}
use Rattle.channel_book.specs.channel_lock.{total}
use Rattle.channel_book.proofs.channel_lock.Lists.{total_set, two_le, only_one}
use Rattle.channel_book.proofs.channel_lock.Views.{fits_set}

-- what was granted is what the ticker granted
pub granted_alone : (takers : ℕ) (st : State (Unit {0}) View) (o : Fair takers st) (id : ℕ) (v : View) → get_elem? st.views id ≡ some v → v.grants ≡ 1 → o.granted ≡ v.granted
granted_alone takers st o id v at one =
    let all : total granted_by st.views ≡ v.granted =
    only_one granted_by st.views id v at (λ j u apart there. (o.fits j u there).idle (omega (arith, two_le is_ticker st.views j id u v apart there at, o.ticker, one))) in
    omega (arith, o.grants, all)

pub grants : (takers slots id bytes : ℕ) (m : Mine) → m.0.grants ≡ 1 → m.0.granted + bytes ≤ 2 ^ 60
    → Allows (Fair takers) slots id m 0 (λ n. (n + bytes) % 2 ^ 64) (Granted (step slots 0 bytes 0 none) m)
grants takers slots id bytes m one most st o count at fit =
    let v = m.0 in
    let w : View = with_grant v bytes in
    let small : (o.granted + bytes) % 2 ^ 64 ≡ o.granted + bytes = omega (arith, granted_alone takers st o id v at one, most) in
    let f = o.fits id v at in (
      w,
      keeps,
      tt,
      record {
        granted = o.granted + bytes;
        drawn = o.drawn;
        words = ap (λ (ws : List ℕ). set ws 0 ((get_or ws 0 0 + bytes) % 2 ^ 64)) o.words ∙ ap (λ (k : ℕ). k ∷ claimed o.drawn ∷ []) small;
        adjoin = o.adjoin;
        ticker = omega (arith, total_set is_ticker st.views id v w at, o.ticker);
        grants = omega (arith, total_set granted_by st.views id v w at, o.grants);
        room = omega (arith, total_set bytes_left st.views id v w at, o.room);
        once = λ number. omega (arith, total_set (has_taker number) st.views id v w at, o.once number);
        all = omega (arith, total_set takers_of st.views id v w at, o.all);
        others = λ number unheld. o.others number (omega (arith, total_set (has_taker number) st.views id v w at, unheld));
        fits = fits_set (Fits o.drawn) st.views id w (λ j u apart e. o.fits j u e) (record {
          own = f.own;
          alone = f.alone;
          idle = λ e. absurd (omega (arith, one, e));
        });
      },
      refl,
    )
