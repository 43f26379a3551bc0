use Rattle.std.proofs.Common.{◌+◌, ◌≤◌, ◌++◌, List, take, drop}
use Rattle.rams_model.specs.Service.{Wanted}
use Rattle.repair_queue.specs.{unmarked, AreOnce, Owes}
use Rattle.repair_queue.proofs.index.Index.drop_each.Given as goal

-- Of those so far the marked ones are gone.
abbrev pub invariant-loop-i : goal.invariant-loop-i
invariant-loop-i l = record {
  removed : (front back : List Wanted) → AreOnce (front ++ l.pending ++ back) → Owes l.fn.self (front ++ l.pending ++ back) l.fn.run
      → Owes l.self (front ++ (unmarked (take l.i l.pending) (take l.i l.done) ++ drop l.i l.pending) ++ back) l.run;
  short : l.run.len ≤ l.fn.run.len + l.i;
}
