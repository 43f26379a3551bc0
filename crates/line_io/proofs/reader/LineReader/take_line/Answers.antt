use Rattle.std.proofs.Common.{◌<◌, length, arith}
use Rattle.line_io.proofs.NextLines.{TakesNext-long}
use Rattle.line_io.proofs.reader.LineReader.take_line.Goals as goal

pub returns-clause-next : goal.returns-clause-next
returns-clause-next g c =
    let kept = c.pieces.self.kept in
    let large : 4096 < length kept = omega (arith, c.pieces.invariant.counted, c.pieces-test.false) in
    TakesNext-long kept c.cut_front.new.self.kept c.cut_front.new.self.line c.pieces.invariant.clean large c.cut_front.ensures.line _ _ c.pieces.invariant.same
