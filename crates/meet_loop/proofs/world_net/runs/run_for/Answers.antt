use Rattle.std.proofs.Common.{◌≢◌, All, refl, ap, ◌∙◌, subst, arith}
use Rattle.meet_loop.specs.declared.world_net.runs.Run.{Run}
use Rattle.meet_loop.specs.world_net.{in_runs}
use Rattle.meet_loop.proofs.world_net.InRuns.{run_begun, run_last}
use Rattle.meet_loop.proofs.world_net.runs.run_for.Goals as goal

pub returns-clause-same : goal.returns-clause-same
returns-clause-same c = λ i m. ap (in_runs i m) c.in_ok-push.ensures.items ∙ run_begun i m _ _ c.new.ensures.items

pub returns-clause-its : goal.returns-clause-its
returns-clause-its c =
    let grown = c.in_ok-push.ensures.items in
    run_last c.args.id c.len-place.result _ _ _ grown (omega (arith, c.len-place.ensures, c.args.runs.now.ok.0)) refl
    (subst (All (λ (r : Run). r.id ≢ c.args.id)) c.deref.ensures.value c.in_default.ensures.none)
