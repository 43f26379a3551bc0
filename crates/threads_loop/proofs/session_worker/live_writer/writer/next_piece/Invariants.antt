-- The events so far were moved.
use Rattle.std.proofs.Common.{◌≡◌, ◌≤◌, ◌++◌, length, vec_len, vec_capacity}
use Rattle.std.specs.Vec.Iter.{into_iter_items}
use Rattle.threads_loop.proofs.session_worker.live_writer.writer.next_piece.Given as goal

abbrev pub invariant-loop : goal.invariant-loop
invariant-loop l = record {
  moved : l.piece.items ++ into_iter_items l.left ≡ into_iter_items l.fn.left;
  count : vec_len l.piece ≡ l.counter;
  room : l.size ≤ vec_capacity l.piece;
  size : l.size ≤ length (into_iter_items l.fn.left);
}
