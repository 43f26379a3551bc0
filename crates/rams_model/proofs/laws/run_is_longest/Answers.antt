use Rattle.rams_model.proofs.Running.{longest_run}
use Rattle.rams_model.proofs.laws.run_is_longest.Goals as goal

pub returns : goal.returns
returns c stop n left packets f by = longest_run stop n left packets f by
