use Rattle.std.proofs.Common.{◌≢◌, All, length, refl, ap, ◌∙◌, subst, arith}
use Rattle.std.proofs.lemmas.List.{take_all}
use Rattle.std.proofs.lemmas.Option.{slice_get_read}
use Rattle.meet_loop.specs.declared.world_net.runs.Run.{Run}
use Rattle.meet_loop.proofs.world_net.runs.run_of.Goals as goal

pub returns-then-runs-place-clause-there : goal.returns-then-runs-place-clause-there
returns-then-runs-place-clause-there c = record {
  run = c.index-runs-place.result;
  within = c.loop-place-test.true;
  at = slice_get_read c.args.runs.now (length c.args.runs.now) c.loop-place.place c.index-runs-place.result refl c.loop-place-test.true c.index-runs-place.is;
  its = ap (λ (r : Run). r.id) c.index-runs-place.is ∙ c.if-runs-place.true;
  before = c.loop-place.invariant;
}

pub returns-clause-none : goal.returns-clause-none
returns-clause-none c = subst (All (λ (r : Run). r.id ≢ c.args.id)) (take_all c.loop-place.place c.args.runs.now (omega (arith, c.loop-place-test.false))) c.loop-place.invariant
