-- A line among those that are left is the attribute where one of all is.
use Rattle.std.proofs.Common.{◌≡◌}
use Rattle.converters.specs.description_loop.sdp_config.{lines_left, has_line, own_lines}
use Rattle.converters.proofs.description_loop.sdp_config.section.Section.has.Given as goal

abbrev pub invariant-loop-line : goal.invariant-loop-line
invariant-loop-line l = record {
  can_next : (goal.iterator-loop-line).can_next l.line-iterator;
  is_finite : (goal.iterator-loop-line).is_finite l.line-iterator;
  same : has_line l.attribute (own_lines (lines_left l.line-iterator)) ≡ has_line l.attribute (own_lines (lines_left l.self.lines));
}
