use Rattle.service_laws.proofs.byte_laws.Became.{live_answered}
use Rattle.service_laws.proofs.byte_laws.live.each_live_note_is_right.Goals as goal

pub returns : goal.returns
returns c = live_answered
