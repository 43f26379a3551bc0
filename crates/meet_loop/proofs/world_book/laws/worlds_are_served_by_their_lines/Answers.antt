use Rattle.meet_loop.proofs.world_book.Worlds.{served_by_a_world}
use Rattle.meet_loop.proofs.world_book.laws.worlds_are_served_by_their_lines.Goals as goal

pub returns : goal.returns
returns c trace = served_by_a_world trace (c.traces_are_served_so.ensures trace)
