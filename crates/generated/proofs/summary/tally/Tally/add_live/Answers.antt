use Rattle.std.proofs.Common.{◌*◌, ◌^◌, arith}
use Rattle.generated.proofs.summary.Counting.{at_most}
use Rattle.generated.proofs.summary.tally.Tally.add_live.Goals as goal

pub count-requires : goal.count-requires
count-requires c = at_most (c.self.inside.answers * 2 ^ 32) (2 ^ 63) c.self.inside.notes (omega (arith, c.self.invariant.answers)) c.self.invariant.notes
