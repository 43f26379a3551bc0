-- What the clients of a server may rely on where their bursts are quiet.
use Rattle.std.specs.Prelude.{List}
use Rattle.std.specs.List.{AllByRecursion}
use Rattle.server_hub.specs.session_core.{JoinTimesAreKept}
use Rattle.server_hub.specs.Served.{Served}

-- In each of these channels each quiet burst keeps the join time that its client was told.
abbrev pub AllKeepJoinTimes : List Served → Type 0
AllKeepJoinTimes channels = AllByRecursion (λ c. JoinTimesAreKept c.settings c.events) channels
