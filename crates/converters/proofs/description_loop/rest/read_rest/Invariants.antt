use Rattle.std.proofs.Common.{◌≡◌, ◌-◌, ◌≤◌, length}
use Rattle.std.specs.Io.KnownBytes.{Consumes, prepend_known}
use Rattle.converters.specs.declared.description_loop.rest.TheConstants.{MOST_LOOKED_AT}
use Rattle.converters.proofs.description_loop.rest.read_rest.Given as goal

abbrev pub invariant-pieces : goal.invariant-pieces
invariant-pieces g l = record {
  read : Consumes (prepend_known l.fn.reader.kept (g.S.Source.left l.fn.source)) (g.S.Source.left l.source) l.text.items;
  read_later : g.S.Source.faults l.fn.source ≤ g.S.Source.faults l.source;
  steady : g.S.Source.is_steady l.fn.source → g.S.Source.is_steady l.source;
  room : length l.piece.items ≡ 4096;
}

abbrev pub decreases-pieces : goal.decreases-pieces
decreases-pieces g l = MOST_LOOKED_AT - length l.text.items
