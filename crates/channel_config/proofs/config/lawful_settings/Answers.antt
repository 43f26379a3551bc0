use Rattle.channel_config.proofs.Laws.{IsLawful-from_checked, checked-from_IsLawful}
use Rattle.channel_config.proofs.config.lawful_settings.Goals as goal

pub returns : goal.returns
returns c = λ s. (IsLawful-from_checked s, checked-from_IsLawful s)
