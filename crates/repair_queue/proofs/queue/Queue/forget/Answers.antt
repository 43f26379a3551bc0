use Rattle.std.proofs.Common.{◌≡◌, List, sym, ◌∙◌, subst}
use Rattle.rams_model.specs.Service.{Wanted}
use Rattle.repair_queue.specs.{without, Indexes}
use Rattle.repair_queue.proofs.Pending.{limits_without, without_none}
use Rattle.repair_queue.proofs.queue.Queue.forget.Goals as goal

pub returns-then-count-eq0 : goal.returns-then-count-eq0
returns-then-count-eq0 c =
    let ws = c.self.inside.pending in
    let none = sym c.count.ensures ∙ c.if-count-eq0.true in
    subst (λ (l : List Wanted). l ≡ without c.args.client l) c.self.view_is (sym (without_none c.args.client ws none))

pub mend-requires-clause-few : goal.mend-requires-clause-few
mend-requires-clause-few c =
    rw c.drop_client-2.ensures (limits_without c.args.client c.self.inside.pending c.self.invariant.limits).in_all

pub invariant_of-self : goal.invariant_of-self
invariant_of-self c =
    let ws = c.self.inside.pending in
    rw c.drop_client-2.ensures (record {
      limits = limits_without c.args.client ws c.self.invariant.limits;
      indexed = subst (Indexes c.mend.new.self) c.drop_client-2.ensures c.mend.ensures;
    })
