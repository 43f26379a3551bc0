-- The first fault of the lines that are left is that of all.
use Rattle.std.proofs.Common.{◌≡◌, ◌+◌, ◌≤◌}
use Rattle.converters.specs.description_loop.sdp_config.{lines_left, first_fault}
use Rattle.converters.proofs.description_loop.sdp_config.read.first_fault.Given as goal

abbrev pub invariant-loop-line : goal.invariant-loop-line
invariant-loop-line l = record {
  can_next : (goal.iterator-loop-line).can_next l.line-iterator;
  is_finite : (goal.iterator-loop-line).is_finite l.line-iterator;
  few : l.number ≤ 1000;
  same : first_fault (l.number + 1) (lines_left l.line-iterator) ≡ first_fault 1 (lines_left l.fn.lines);
}
