use Rattle.server_hub.proofs.Together.{each_got}
use Rattle.server_hub.proofs.laws.channels_get_their_events.Goals as goal

pub returns : goal.returns
returns c events channels = each_got events channels
