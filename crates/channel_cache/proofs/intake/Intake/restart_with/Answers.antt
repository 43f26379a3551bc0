use Rattle.std.proofs.Common.{◌++◌, None, arith}
use Rattle.channel_cache.proofs.Settling.{grows_then}
use Rattle.channel_cache.proofs.Starting.{ended_stands}
use Rattle.channel_cache.proofs.intake.Intake.restart_with.Goals as goal

pub returns-clause-stands : goal.returns-clause-stands
returns-clause-stands c = λ s some brings.
    c.begin_with.ensures.stands (s.ended ++ s.present) None
    (ended_stands c.args.self.now c.end_start.new.self.stock.ring s.ended s.present s.kept some brings c.end_start.ensures.stands)

pub begin_with-requires-clause-few : goal.begin_with-requires-clause-few
begin_with-requires-clause-few c = omega (arith, c.requires.few, c.end_start.ensures.grows.total)

pub returns-clause-grows : goal.returns-clause-grows
returns-clause-grows c = grows_then c.args.self.now c.end_start.new.self c.begin_with.new.self 0 1 c.end_start.ensures.grows c.begin_with.ensures.grows
