-- Behind the end of its room there is nothing.
use Rattle.std.proofs.Common.{arith}
use Rattle.std.proofs.lemmas.List.{drop_all}
use Rattle.book_text.proofs.piece.Piece.clear.Goals as goal

pub returns : goal.returns
returns c = drop_all 48 c.self.inside.bytes (omega arith)
