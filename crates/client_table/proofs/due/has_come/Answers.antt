use Rattle.std.proofs.Common.{arith}
use Rattle.std.proofs.lemmas.Bool.{leb-false}
use Rattle.client_table.proofs.Timing.{first_least}
use Rattle.client_table.proofs.due.has_come.Goals as goal

pub returns-in-Some-clause-none : goal.returns-in-Some-clause-none
returns-in-Some-clause-none c later p has = omega (arith, leb-false c.in-Some.field-0.now.0 c.args.now later, first_least c.in-Some.field-0.now p (c.in-Some.ensures.least p has))
