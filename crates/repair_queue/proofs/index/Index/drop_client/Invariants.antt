use Rattle.std.proofs.Common.{◌≡◌, ◌+◌, ◌≤◌, ◌++◌, List, length, drop}
use Rattle.rams_model.specs.Service.{Wanted}
use Rattle.repair_queue.specs.declared.wanted.TheConstants.{MOST_PENDING}
use Rattle.repair_queue.specs.{all_of, without, AreOnce, Owes}
use Rattle.repair_queue.proofs.index.Index.drop_client.Given as goal

-- Of the pieces so far the client's are gone.
abbrev pub invariant-loop-piece : goal.invariant-loop-piece
invariant-loop-piece l = (front : List Wanted) × record {
  owes : Owes l.self (front ++ all_of (drop l.piece-index l.pieces) ++ l.last) l.run;
  gone : without l.client l.pending ≡ front ++ without l.client (all_of (drop l.piece-index l.pieces) ++ l.last);
  once : AreOnce (front ++ all_of (drop l.piece-index l.pieces) ++ l.last);
  client : l.run.client ≡ l.client;
  few : l.run.len + length (all_of (drop l.piece-index l.pieces) ++ l.last) ≤ MOST_PENDING;
}
