use Rattle.std.proofs.Common.{◌≡◌, length}
use Rattle.std.specs.Io.{StartsWith}
use Rattle.pool.specs.pool_loop.{all_left}
use Rattle.pool.proofs.pool_loop.Sides.{Halfway}
use Rattle.pool.proofs.pool_loop.walking.append_all.Given as goal

abbrev pub invariant-loop-place : goal.invariant-loop-place
invariant-loop-place l = record {
  halfway : Halfway l.event l.route l.fn.text.items (all_left l.fn.left) (all_left l.left) l.text.items l.place;
  begun : StartsWith l.text.items l.fn.text.items;
  many : length l.left ≡ length l.fn.left;
}
