use Rattle.takeover.specs.standby.{whole_text}
use Rattle.takeover.proofs.standby.Followed.{is_followed}
use Rattle.takeover.proofs.standby.laws.whole_lines_are_followed.Goals as goal

pub returns : goal.returns
returns c = λ bytes. is_followed bytes (c.traces_are_served_by_their_lines.ensures (whole_text bytes))
