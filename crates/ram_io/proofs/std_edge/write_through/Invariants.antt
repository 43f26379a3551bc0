use Rattle.std.specs.Io.KnownBytes.{Keeps}
use Rattle.ram_io.proofs.std_edge.write_through.Given as goal

-- what was interrupted wrote nothing
abbrev pub invariant-loop : goal.invariant-loop
invariant-loop g l = Keeps (g.W.Write.contents l.fn.writer) (g.W.Write.contents l.writer)
