use Rattle.std.proofs.Common.{◌≡◌, ◌++◌, length, take, drop}
use Rattle.repair_queue.specs.{all_of, without}
use Rattle.repair_queue.proofs.backlog.drop_client_of_pieces.Given as goal

-- Of the pieces so far the client's are gone; the others are as they were.
abbrev pub invariant-loop-i : goal.invariant-loop-i
invariant-loop-i l = record {
  long : length l.pieces.items ≡ length l.fn.pieces.items;
  others : drop l.i l.pieces.items ≡ drop l.i l.fn.pieces.items;
  gone : without l.client (all_of l.fn.pieces.items) ≡ all_of (take l.i l.pieces.items) ++ without l.client (all_of (drop l.i l.fn.pieces.items));
}
