-- The first format with the role among the fields that are left is that of all.
use Rattle.std.proofs.Common.{◌≡◌, length}
use Rattle.std.specs.List.{find, filter_map}
use Rattle.converters.specs.description_loop.sdp_config.{pieces_left, type_in, shown_section, is_wanted, HaveFailed, first_format}
use Rattle.converters.proofs.description_loop.sdp_config.section.Section.format.Given as goal

abbrev pub invariant-loop-field : goal.invariant-loop-field
invariant-loop-field l = record {
  can_next : (goal.iterator-loop-field).can_next l.field-iterator;
  is_finite : (goal.iterator-loop-field).is_finite l.field-iterator;
  room : length l.failed ≡ 256;
  marked : HaveFailed l.role (shown_section l.self) l.failed;
  same : find (is_wanted l.role (shown_section l.self)) (filter_map type_in (pieces_left l.field-iterator)) ≡ first_format l.role (shown_section l.self);
}
