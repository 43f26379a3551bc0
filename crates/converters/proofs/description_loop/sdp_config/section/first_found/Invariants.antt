-- The first format with the role in the sections that are left is that of all.
use Rattle.std.proofs.Common.{◌≡◌}
use Rattle.converters.specs.description_loop.sdp_config.{sections_left, first_found}
use Rattle.converters.proofs.description_loop.sdp_config.section.first_found.Given as goal

abbrev pub invariant-loop-section : goal.invariant-loop-section
invariant-loop-section l = record {
  can_next : (goal.iterator-loop-section).can_next l.section-iterator;
  is_finite : (goal.iterator-loop-section).is_finite l.section-iterator;
  same : first_found l.role (sections_left l.section-iterator) ≡ first_found l.role (sections_left l.fn.sections);
}
