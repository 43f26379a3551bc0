use Rattle.rams_model.proofs.Waiting.{from_first, is_missing_itself, none_before}
use Rattle.rams_model.proofs.laws.awaited_is_least.Goals as goal

pub returns : goal.returns
returns c window h hs r = (from_first window h hs, is_missing_itself window 0 h hs r, none_before window h hs)
