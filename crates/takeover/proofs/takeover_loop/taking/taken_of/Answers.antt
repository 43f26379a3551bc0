use Rattle.std.proofs.Common.{rules}
use Rattle.takeover.proofs.takeover_loop.Taken.{missing_ends}
use Rattle.takeover.proofs.takeover_loop.taking.taken_of.Goals as goal

pub returns-in-Err-clause-taken : goal.returns-in-Err-clause-taken
returns-in-Err-clause-taken c = λ bytes read counts. missing_ends c.args.standby c.args.begun c.next_number-line.result bytes read (search rules) (search rules) counts (search rules)
