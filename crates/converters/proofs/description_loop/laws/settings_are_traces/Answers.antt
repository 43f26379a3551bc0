use Rattle.converters.proofs.description_loop.Runs.{settings_run}
use Rattle.converters.proofs.description_loop.laws.settings_are_traces.Goals as goal

pub returns : goal.returns
returns c = settings_run
