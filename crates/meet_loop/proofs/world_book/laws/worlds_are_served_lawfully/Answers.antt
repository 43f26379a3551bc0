use Rattle.meet_loop.proofs.world_book.Worlds.{channels_are_lawful}
use Rattle.meet_loop.proofs.world_book.laws.worlds_are_served_lawfully.Goals as goal

pub returns : goal.returns
returns c trace = channels_are_lawful trace (c.traces_are_served_so.ensures trace) c.channels_keep_their_promises.ensures
