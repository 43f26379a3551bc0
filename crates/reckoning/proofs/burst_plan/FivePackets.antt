-- The worked example computes.
use Rattle.std.proofs.Common.{refl, lit≤}
use Rattle.rams_model.specs.Service.{run}
use Rattle.reckoning.specs.burst_plan.{CatchesUpInThreeTicks}

pub three_ticks_suffice : CatchesUpInThreeTicks
unfolding run
three_ticks_suffice = record {
  lawful = record { suffices = lit≤ tt; keeps = lit≤ tt };
  quiet = (
    record {
      follows = (refl, (refl, (refl, (refl, (refl, tt)))));
      sizes = (lit≤ tt, (lit≤ tt, (lit≤ tt, (lit≤ tt, (lit≤ tt, tt)))));
      joins = lit≤ tt;
      stops = tt;
      is_open = refl;
      within = lit≤ tt;
      leaves = λ _. lit≤ tt;
    },
    (
      record {
        follows = (refl, (refl, (refl, (refl, tt))));
        sizes = (lit≤ tt, (lit≤ tt, (lit≤ tt, (lit≤ tt, tt))));
        joins = lit≤ tt;
        stops = tt;
        is_open = refl;
        within = lit≤ tt;
        leaves = λ _. lit≤ tt;
      },
      (
        record {
          follows = (refl, (refl, tt));
          sizes = (lit≤ tt, (lit≤ tt, tt));
          joins = lit≤ tt;
          stops = tt;
          is_open = refl;
          within = lit≤ tt;
          leaves = λ _. lit≤ tt;
        },
        tt,
      ),
    ),
  );
  pairs = refl;
  join = refl;
}
