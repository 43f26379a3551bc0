use Rattle.std.proofs.Common.{◌≡◌, ◌++◌, List}
use Rattle.std.specs.Prelude.{Result}
use Rattle.std.specs.Vec.Iter.{into_iter_items}
use Rattle.ram_io.specs.declared.NoMemory.{NoMemory}
use Rattle.pool.specs.declared.pool_run.lane.Ran.{Ran}
use Rattle.pool.specs.pool_run.{ArePulled}
use Rattle.pool.proofs.pool_run.pairs.pull.Given as goal

abbrev pub invariant-loop-ran : goal.invariant-loop-ran
invariant-loop-ran l = record {
  can_next : (goal.iterator-loop-ran).can_next l.ran-iterator;
  is_finite : (goal.iterator-loop-ran).is_finite l.ran-iterator;
  pulled : (done : List (Result Ran NoMemory)) × (done ++ into_iter_items l.ran-iterator ≡ l.fn.all.items) × ArePulled done l.books.items l.takers.items;
}
