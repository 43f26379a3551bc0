use Rattle.channel_parts.proofs.Facts.{accepts_reserve, updates_reserve, ends_release, other_notes_reserve_nothing, events_reserve_nothing, messages_reserve_nothing}
use Rattle.channel_parts.proofs.laws.notes_reserve.Goals as goal

pub returns-clause-accept : goal.returns-clause-accept
returns-clause-accept c = accepts_reserve

pub returns-clause-update : goal.returns-clause-update
returns-clause-update c = updates_reserve

pub returns-clause-end : goal.returns-clause-end
returns-clause-end c = ends_release

pub returns-clause-others : goal.returns-clause-others
returns-clause-others c = other_notes_reserve_nothing

pub returns-clause-events : goal.returns-clause-events
returns-clause-events c = events_reserve_nothing

pub returns-clause-messages : goal.returns-clause-messages
returns-clause-messages c = messages_reserve_nothing
