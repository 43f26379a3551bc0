use Rattle.std.specs.Slice.Iter.{iter_rest}
use Rattle.client_table.specs.{entry_at}
use Rattle.client_table.proofs.Walking.{all_left_of}
use Rattle.client_table.proofs.walk.OpenBurstsIterator.next.Goals as goal

pub invariant_of-self : goal.invariant_of-self
invariant_of-self c =
    record {
      entries_of_all = all_left_of (entry_at c.args.self.now.tick c.args.self.now.entries.now.slots) iter_rest c.next.result c.args.self.now.left c.next.new.self c.next.ensures.steps c.args.self.now.entries_of_all;
    }
