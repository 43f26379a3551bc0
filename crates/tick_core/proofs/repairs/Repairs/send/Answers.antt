use Rattle.std.proofs.Common.{◌≡◌, ℕ, cond, List, Some, IsSome, IfSome, eqb, ap, sym, ◌∙◌, subst}
use Rattle.std.proofs.lemmas.Result.{IfOk-weaker}
use Rattle.rams_model.specs.Service.{Wanted}
use Rattle.tick_core.specs.declared.allowance.Allowance.{Allowance}
use Rattle.tick_core.specs.{Repaired, allowance_for, all_allowances, after_repair, with_taken, told_by}
use Rattle.tick_core.proofs.Placing.{taken_from, whose_allowance, known_still, put_allowance, told_alike}
use Rattle.tick_core.proofs.Repairing.{repair_waits, repair_goes}
use Rattle.tick_core.proofs.repairs.Repairs.send.Goals as goal

pub returns-then-not-fits : goal.returns-then-not-fits
returns-then-not-fits c =
    IfOk-weaker c.wait.result _ _
    (λ x made. repair_waits c.args.wanted.now c.args.held.now c.args.self.now c.wait.new.self c.left.result c.args.allowance.now
    (c.left.ensures ∙ ap (λ (r : Repaired). r.draft.left) c.self.view_is) c.if-not-fits.ensures made)
    c.wait.ensures

pub invariant_of-self-in_err-put : goal.invariant_of-self-in_err-put
invariant_of-self-in_err-put c = record {
  rising = c.self.invariant.rising;
  known = λ k some. c.self.invariant.known k (subst IsSome (c.in_err-put.ensures.same k) some);
  asked = let here = c.self.inside in
      subst (λ (l : List Allowance). IfSome here.asked (λ a. allowance_for a.client l ≡ Some a)) (sym (told_alike here.most (told_by here.changed) (told_by c.put.new.self) here.table.now.known c.in_err-put.ensures.same)) c.self.invariant.asked;
}

pub invariant_of-self-2 : goal.invariant_of-self-2
invariant_of-self-2 c =
    let here = c.self.inside in
    let client = c.args.wanted.now.client in
    let old = told_by here.changed in
    let a = c.args.allowance.now in
    let b = c.taken-rest.result in
    let found : allowance_for client (all_allowances here.most here.table.now.known old) ≡ Some a =
    ap (λ (r : Repaired). allowance_for client r.allowances) c.self.view_is ∙ c.requires in
    let own : b.client ≡ client = ap (λ (x : Allowance). x.client) c.taken-rest.ensures ∙ whose_allowance client _ a found in
    let known = known_still here.most old (told_by c.put.new.self) client here.table.now a b c.self.invariant.known found (λ j. c.in_ok-put.ensures.put j ∙ ap (λ (k : ℕ). cond (eqb k j) (Some b) (old j)) own) in
    record {
      rising = c.self.invariant.rising;
      known = known;
      asked = put_allowance here.most old (told_by c.put.new.self) here.table.now b known c.in_ok-put.ensures.put;
    }

pub returns : goal.returns
returns c =
    let here = c.self.inside in
    let client = c.wanted.inside.client in
    let wire = c.args.held.now.wire in
    let a = c.args.allowance.now in
    let old = told_by here.changed in
    let new = told_by c.put.new.self in
    let known = here.table.now.known in
    let found : allowance_for client (all_allowances here.most known old) ≡ Some a =
    ap (λ (r : Repaired). allowance_for client r.allowances) c.self.view_is ∙ (ap (λ (w : Wanted). allowance_for w.client c.args.self.now.allowances) c.wanted.view_is ∙ c.requires) in
    let puts : (j : ℕ) → new j ≡ cond (eqb client j) (Some (after_repair a wire)) (old j) =
    λ j. c.in_ok-put.ensures.put j ∙ (ap (λ (x : Allowance). cond (eqb x.client j) (Some x) (old j)) c.taken-rest.ensures ∙ ap (λ (k : ℕ). cond (eqb k j) (Some (after_repair a wire)) (old j)) (whose_allowance client _ a found)) in
    let less : all_allowances here.most known new ≡ with_taken client wire (all_allowances here.most known old) = taken_from here.most wire client a old new puts here.table.now c.self.invariant.rising found in
    repair_goes c.args.wanted.now c.args.held.now c.args.self.now here.draft c.send.new.self (all_allowances here.most known old) (all_allowances here.most known new) here.done.items c.push.new.self.items
    c.left.result client c.wanted.inside.n a c.self.view_is c.left.ensures c.if-not-fits.ensures c.wanted.view_is c.in_ok-send.ensures less c.in_ok-push.ensures.items
