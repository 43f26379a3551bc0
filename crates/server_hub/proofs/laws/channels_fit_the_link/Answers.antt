use Rattle.std.proofs.Common.{subst}
use Rattle.server_hub.specs.{FitLink}
use Rattle.server_hub.proofs.Changing.{same_settings}
use Rattle.server_hub.proofs.laws.channels_fit_the_link.Goals as goal

pub returns : goal.returns
returns c v channels lawful stands = subst (FitLink v.tick v.link) (same_settings v.channels channels stands) lawful.channels
