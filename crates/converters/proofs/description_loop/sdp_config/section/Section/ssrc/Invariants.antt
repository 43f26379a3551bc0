-- The first source that the lines that are left name is that of all.
use Rattle.std.proofs.Common.{◌≡◌}
use Rattle.converters.specs.description_loop.sdp_config.{lines_left, first_ssrc, own_lines}
use Rattle.converters.proofs.description_loop.sdp_config.section.Section.ssrc.Given as goal

abbrev pub invariant-loop-own : goal.invariant-loop-own
invariant-loop-own l = record {
  can_next : (goal.iterator-loop-own).can_next l.own-iterator;
  is_finite : (goal.iterator-loop-own).is_finite l.own-iterator;
  same : first_ssrc (own_lines (lines_left l.own-iterator)) ≡ first_ssrc (own_lines (lines_left l.self.lines));
}
