use Rattle.std.proofs.Common.{◌++◌}
use Rattle.line_io.proofs.Passing.{Passes-none}
use Rattle.line_io.proofs.gather.Gather.put.Goals as goal

pub returns-clause-prefix : goal.returns-clause-prefix
returns-clause-prefix g c = (c.args.self.now ++ c.args.piece.now, Passes-none (g.K.Sink.held c.args.sink.now) (c.args.self.now ++ c.args.piece.now))
