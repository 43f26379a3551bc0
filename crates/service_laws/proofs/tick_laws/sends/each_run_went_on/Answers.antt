use Rattle.service_laws.proofs.tick_laws.Runs.{runs_went_on}
use Rattle.service_laws.proofs.tick_laws.sends.each_run_went_on.Goals as goal

pub returns : goal.returns
returns c = runs_went_on
