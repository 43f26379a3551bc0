use Rattle.meet_loop.proofs.world_book.Worlds.{ends_so}
use Rattle.meet_loop.proofs.world_book.laws.worlds_end_so.Goals as goal

pub returns : goal.returns
returns c trace = ends_so trace (c.traces_are_served_so.ensures trace)
