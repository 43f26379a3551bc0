use Rattle.std.proofs.Common.{subst}
use Rattle.repair_queue.specs.{Indexes}
use Rattle.repair_queue.proofs.Pending.{limits_unmarked}
use Rattle.repair_queue.proofs.queue.Queue.drop_done.Goals as goal

pub mend-requires-clause-few : goal.mend-requires-clause-few
mend-requires-clause-few c =
    rw c.drop_marked.ensures.pending (limits_unmarked c.self.inside.pending c.args.done.now c.self.invariant.limits).in_all

pub invariant_of-self : goal.invariant_of-self
invariant_of-self c =
    let ws = c.self.inside.pending in
    rw c.drop_marked.ensures.pending (record {
      limits = limits_unmarked ws c.args.done.now c.self.invariant.limits;
      indexed = subst (Indexes c.mend.new.self) c.drop_marked.ensures.pending c.mend.ensures;
    })
