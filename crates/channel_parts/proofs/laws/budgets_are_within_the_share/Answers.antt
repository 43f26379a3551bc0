use Rattle.channel_parts.proofs.Facts.{reserved_leaves_the_reserve, each_burst_is_reserved, left_is_within_share_and_swell}
use Rattle.channel_parts.proofs.laws.budgets_are_within_the_share.Goals as goal

pub returns-clause-reserve : goal.returns-clause-reserve
returns-clause-reserve c = reserved_leaves_the_reserve

pub returns-clause-bursts : goal.returns-clause-bursts
returns-clause-bursts c = each_burst_is_reserved

pub returns-clause-left : goal.returns-clause-left
returns-clause-left c = left_is_within_share_and_swell
