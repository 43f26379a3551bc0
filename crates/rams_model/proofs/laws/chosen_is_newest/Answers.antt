use Rattle.std.proofs.Common.{zero-le}
use Rattle.rams_model.specs.Packets.{lo}
use Rattle.rams_model.proofs.Rising.{lower}
use Rattle.rams_model.proofs.Holding.{rises_from}
use Rattle.rams_model.proofs.Choosing.{newest_chosen}
use Rattle.rams_model.proofs.laws.chosen_is_newest.Goals as goal

pub returns : goal.returns
returns c channel held least most f = newest_chosen channel held least most (lower 0 (lo held) held zero-le (rises_from (lo held) held f))
