-- Some events came, at most so many more than before.
use Rattle.std.proofs.Common.{◌+◌, ◌-◌, ◌<◌, ◌^◌, List, length}
use Rattle.rams_model.specs.declared.Event.{Event}
use Rattle.server_hub.specs.session_core.{StandsFor}
use Rattle.server_tests.proofs.row.expect.Given as goal

abbrev pub invariant-loop-given : goal.invariant-loop-given
invariant-loop-given g l = (events : List Event) × StandsFor l.core events × (length events + (length l.rows - l.given-index) < 2 ^ 40)
