use Rattle.std.proofs.Common.{◌+◌, ◌-◌, ◌≤◌, ◌++◌, List, length, take, drop}
use Rattle.rams_model.specs.Service.{Wanted}
use Rattle.repair_queue.specs.{unmarked, AreOnce, Owes}
use Rattle.repair_queue.proofs.index.Index.drop_of.Given as goal

-- Of those so far the marked ones are gone.
abbrev pub invariant-loop-start : goal.invariant-loop-start
invariant-loop-start l = record {
  removed : (front back : List Wanted) → AreOnce (front ++ l.pending ++ back) → Owes l.fn.self (front ++ l.pending ++ back) l.fn.run
      → Owes l.self (front ++ (unmarked (take l.start l.pending) (take l.start l.done) ++ drop l.start l.pending) ++ back) l.run;
  short : l.run.len ≤ l.fn.run.len + l.start;
  within : l.start ≤ length l.done;
}

abbrev pub decreases-loop-start : goal.decreases-loop-start
decreases-loop-start l = length l.done - l.start
