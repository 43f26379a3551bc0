use Rattle.std.proofs.Common.{◌^◌, ◌<◌, All}
use Rattle.serve_tests.proofs.memory.moments_of.Given as goal

-- the moments so far
abbrev pub invariant-loop-moment : goal.invariant-loop-moment
invariant-loop-moment l = All (λ m. m < 2 ^ 62) l.moments.items
