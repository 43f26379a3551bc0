use Rattle.std.proofs.Common.{List, ◌++◌, sym, ◌∙◌, subst}
use Rattle.rams_model.specs.Service.{Wanted}
use Rattle.repair_queue.specs.{unmarked, AreOnce, Owes}
use Rattle.repair_queue.proofs.Pending.{unmarked_none}
use Rattle.repair_queue.proofs.backlog.drop_of_piece.Goals as goal

pub returns-then-not-is_any_set-clause-piece : goal.returns-then-not-is_any_set-clause-piece
returns-then-not-is_any_set-clause-piece c = c.close_span.ensures ∙ sym (unmarked_none c.args.piece.now c.args.done.now (sym c.is_any_set.ensures ∙ c.if-not-is_any_set.true))

pub returns-clause-removed : goal.returns-clause-removed
returns-clause-removed c = λ front back once owes.
    let p = c.pending.result.now in
    let is = sym c.pending.ensures in
    let made = c.drop_of-run.ensures.removed front back (subst (λ (l : List Wanted). AreOnce (front ++ l ++ back)) is once) (subst (λ (l : List Wanted). Owes c.args.index.now (front ++ l ++ back) c.args.run) is owes) in
    let left = subst (λ (l : List Wanted). Owes c.drop_of-run.new.self (front ++ unmarked l c.args.done.now ++ back) c.drop_of-run.result) c.pending.ensures made in
    subst (λ (l : List Wanted). Owes c.drop_of-run.new.self (front ++ l ++ back) c.drop_of-run.result) (sym c.drop_marked.ensures) left
