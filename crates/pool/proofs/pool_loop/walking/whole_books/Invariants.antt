use Rattle.std.proofs.Common.{◌≡◌, take}
use Rattle.pool.specs.pool_loop.{all_left}
use Rattle.pool.proofs.pool_loop.walking.whole_books.Given as goal

abbrev pub invariant-loop-book : goal.invariant-loop-book
invariant-loop-book l = all_left l.left.items ≡ take l.book-index l.books
