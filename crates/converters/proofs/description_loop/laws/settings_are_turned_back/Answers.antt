use Rattle.converters.proofs.description_loop.Runs.{turned_back}
use Rattle.converters.proofs.description_loop.laws.settings_are_turned_back.Goals as goal

pub returns : goal.returns
returns c = turned_back
