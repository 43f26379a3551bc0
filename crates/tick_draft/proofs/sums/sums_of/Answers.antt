use Rattle.tick_draft.specs.{sums_of}
use Rattle.tick_draft.proofs.Summing.{none_first, sum_more, sum_all, small_next}
use Rattle.tick_draft.proofs.sums.sums_of.Goals as goal

pub loop-step-init : goal.loop-step-init
loop-step-init c = none_first (sums_of c.args.steps.now)

pub with-sums-requires : goal.with-sums-requires
with-sums-requires c = small_next c.args.steps.now c.loop-step.step-index _ c.loop-step.sums c.loop-step-test.true c.requires c.loop-step.invariant

pub loop-step-preserved : goal.loop-step-preserved
loop-step-preserved c = sum_more c.args.steps.now c.loop-step.step-index _ c.loop-step.sums c.with-sums.result c.loop-step-test.true c.with-sums.ensures c.loop-step.invariant

pub returns : goal.returns
returns c = sum_all c.args.steps.now c.loop-step.step-index c.loop-step.sums c.loop-step-test.false c.loop-step.invariant
