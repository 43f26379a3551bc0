use Rattle.tick_draft.specs.{committing}
use Rattle.tick_draft.proofs.Doing.{may_now, may_later, one_more, no_more}
use Rattle.tick_draft.proofs.commit.commit_steps.Goals as goal

pub commit_step-requires : goal.commit_step-requires
commit_step-requires c = may_now c.args.depth c.args.steps.now c.loop-step.step-index _ (committing c.loop-step.table c.loop-step.budget) c.loop-step-test.true c.loop-step.invariant.may

pub loop-step-preserved : goal.loop-step-preserved
loop-step-preserved c =
    let old = committing c.loop-step.table c.loop-step.budget in
    let new = committing c.commit_step.new.table c.commit_step.new.budget in
    record {
      may = may_later c.args.depth c.args.steps.now c.loop-step.step-index _ old new c.loop-step-test.true c.commit_step.ensures c.loop-step.invariant.may;
      end = one_more c.args.depth c.args.steps.now c.loop-step.step-index _ old new _ c.loop-step-test.true c.commit_step.ensures c.loop-step.invariant.end;
    }

pub returns : goal.returns
returns c = no_more c.args.depth c.args.steps.now c.loop-step.step-index (committing c.loop-step.table c.loop-step.budget) _ c.loop-step-test.false c.loop-step.invariant.end
