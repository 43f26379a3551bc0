use Rattle.std.proofs.Common.{◌≡◌, take}
use Rattle.pool.specs.pool_loop.{numbers_of}
use Rattle.pool.proofs.pool_loop.writing.ids_of.Given as goal

abbrev pub invariant-loop-book : goal.invariant-loop-book
invariant-loop-book l = l.ids.items ≡ numbers_of (take l.book-index l.books)
