use Rattle.meet_loop.proofs.world_laws.Ordered.{answer_fine, source_grows_by}
use Rattle.meet_loop.proofs.world_laws.channels.what_is_sent_is_of_the_source.Goals as goal

pub returns-clause-sent : goal.returns-clause-sent
returns-clause-sent c channel e = answer_fine channel.settings channel.events e

pub returns-clause-kept : goal.returns-clause-kept
returns-clause-kept c channel e h has = source_grows_by channel.settings e channel.events h has
