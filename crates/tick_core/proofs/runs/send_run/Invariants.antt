use Rattle.std.proofs.Common.{◌≡◌, ◌-◌}
use Rattle.rams_model.specs.Packets.{hi}
use Rattle.tick_core.specs.{run_from, run_of, sent_after, with_run, after_run}
use Rattle.tick_core.proofs.Leading.{Leads}
use Rattle.tick_core.proofs.runs.send_run.Given as goal

-- What is left to be sent leads to the same end.
abbrev pub invariant-loop-held : goal.invariant-loop-held
invariant-loop-held g l = record {
  at : sent_after l.at (run_from l.cache.held l.burst.stop l.at) ≡ after_run l.cache.held l.seq l.burst;
  draft : Leads g.D.Drafting.shows (with_run l.client l.seq (run_of l.cache.held l.burst)) (with_run l.client l.at.seq (run_from l.cache.held l.burst.stop l.at)) l.fn.draft l.draft;
}

abbrev pub decreases-loop-held : goal.decreases-loop-held
decreases-loop-held g l = hi l.cache.held - l.at.next
