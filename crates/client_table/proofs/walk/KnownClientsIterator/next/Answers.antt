use Rattle.std.specs.Map.Iter.{deref_pair}
use Rattle.client_table.specs.{entry_at}
use Rattle.client_table.proofs.Walking.{all_left}
use Rattle.client_table.proofs.walk.KnownClientsIterator.next.Goals as goal

pub invariant_of-self : goal.invariant_of-self
invariant_of-self c =
    record { entries_of_all = all_left (entry_at c.args.self.now.tick c.args.self.now.entries.now.slots) deref_pair c.next.result c.args.self.now.index c.next.new.self c.next.ensures.steps c.args.self.now.entries_of_all }
