-- A parameter among those that are left names the format where one of all does.
use Rattle.std.proofs.Common.{◌≡◌, ◌++◌, codes, decimal}
use Rattle.std.specs.List.{list_any}
use Rattle.converters.specs.description_loop.sdp_config.{is_padded, pieces_left, has_apt}
use Rattle.converters.proofs.description_loop.sdp_config.attribute.has_apt.Given as goal

abbrev pub invariant-loop-parameter : goal.invariant-loop-parameter
invariant-loop-parameter l = record {
  can_next : (goal.iterator-loop-parameter).can_next l.parameter-iterator;
  is_finite : (goal.iterator-loop-parameter).is_finite l.parameter-iterator;
  same : list_any (is_padded (codes "apt=" ++ decimal l.format)) (pieces_left l.parameter-iterator) ≡ has_apt l.format l.parameters;
}
