-- A number has at most 20 digits.
use Rattle.std.proofs.Common.{length, drop, decimal, ap, arith, rules}
use Rattle.std.proofs.lemmas.Fmt.{length-decimal-le}
use Rattle.std.proofs.lemmas.List.{length-drop, length-append}
use Rattle.book_text.proofs.piece.Piece.number.Goals as goal

pub write_digits-self-inside-requires : goal.write_digits-self-inside-requires
write_digits-self-inside-requires c =
    let short = length-decimal-le 20 c.args.n (omega arith) (omega arith) c.ranges.n.fits in
    let left = length-drop c.self.inside.start c.self.inside.bytes in
    (omega (arith, short, left, ap length c.self.view_is, c.requires, c.self.invariant), search rules)

pub returns-clause-few : goal.returns-clause-few
returns-clause-few c =
    let short = length-decimal-le 20 c.args.n (omega arith) (omega arith) c.ranges.n.fits in
    let line = length-append (decimal c.args.n) (drop c.self.inside.start c.self.inside.bytes) in
    omega (arith, short, line, ap length c.write_digits-self-inside.ensures.written, ap length c.self.view_is)
