use Rattle.std.proofs.Common.{◌≡◌, ◌+◌, ◌*◌, ◌^◌, ◌<◌, ◌≤◌}
use Rattle.cache_tests.proofs.burst_starts.index_of.Given as goal

-- each packet is a mark, and the next number is one above the last mark's
abbrev pub invariant-loop-ts : goal.invariant-loop-ts
invariant-loop-ts g l = record {
  capacity : l.index.capacity ≡ 8;
  few : l.index.total ≤ 2 ^ 32 * l.ts-index;
  numbers : l.n ≡ 1000 + l.ts-index;
  marks : l.index.hi ≡ l.index.lo + l.ts-index;
  next : l.index.lo < l.index.hi → l.n ≡ l.index.hi;
}
