use Rattle.std.proofs.Common.{All}
use Rattle.ram_io.specs.{IsFromClient}
use Rattle.serve_tests.proofs.memory.arrivals_of.Given as goal

-- the arrivals so far
abbrev pub invariant-loop-from : goal.invariant-loop-from
invariant-loop-from l = All IsFromClient l.arrivals.items
