use Rattle.std.proofs.Common.{◌≡◌, ◌≤◌, ◌+◌, ◌++◌, List, length, take, drop}
use Rattle.rams_model.specs.Service.{Wanted}
use Rattle.repair_queue.specs.{all_of, unmarked, AreOnce, Indexes, Owes}
use Rattle.repair_queue.proofs.backlog.drop_of_pieces.Given as goal

-- Of the pieces so far the marked ones are gone, also out of the index; the flags that are left are those of the others, which are as they were.
abbrev pub invariant-loop-i : goal.invariant-loop-i
invariant-loop-i l = record {
  long : length l.pieces.items ≡ length l.fn.pieces.items;
  others : drop l.i l.pieces.items ≡ drop l.i l.fn.pieces.items;
  gone : unmarked (all_of l.fn.pieces.items) l.done ≡ all_of (take l.i l.pieces.items) ++ unmarked (all_of (drop l.i l.fn.pieces.items)) l.left;
  flags : length l.left ≡ length (all_of (drop l.i l.fn.pieces.items));
  removed : (back : List Wanted) → AreOnce (all_of l.fn.pieces.items ++ back) → Indexes l.fn.index (all_of l.fn.pieces.items ++ back)
      → AreOnce (all_of (take l.i l.pieces.items) ++ all_of (drop l.i l.fn.pieces.items) ++ back) × Owes l.index (all_of (take l.i l.pieces.items) ++ all_of (drop l.i l.fn.pieces.items) ++ back) l.run;
  few : l.run.len + length (all_of (drop l.i l.fn.pieces.items)) ≤ length (all_of l.fn.pieces.items);
}
