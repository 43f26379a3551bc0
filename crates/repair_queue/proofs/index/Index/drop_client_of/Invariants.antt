use Rattle.std.proofs.Common.{◌≡◌, ◌+◌, ◌≤◌, ◌++◌, List, take, drop}
use Rattle.rams_model.specs.Service.{Wanted}
use Rattle.repair_queue.specs.{without, AreOnce, Owes}
use Rattle.repair_queue.proofs.index.Index.drop_client_of.Given as goal

-- Of those so far the client's are gone.
abbrev pub invariant-loop-w : goal.invariant-loop-w
invariant-loop-w l = record {
  removed : (front back : List Wanted) → AreOnce (front ++ l.pending ++ back) → Owes l.fn.self (front ++ l.pending ++ back) l.fn.run
      → Owes l.self (front ++ (without l.fn.run.client (take l.w-index l.pending) ++ drop l.w-index l.pending) ++ back) l.run;
  client : l.run.client ≡ l.fn.run.client;
  short : l.run.len ≤ l.fn.run.len + l.w-index;
}
