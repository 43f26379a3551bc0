use Rattle.std.proofs.Common.{◌∷◌, ◌++◌, sym, ap, subst, refl, ◌∙◌}
use Rattle.rams_model.specs.Service.{Wanted}
use Rattle.repair_queue.specs.{AreOnce, Owes, counted}
use Rattle.repair_queue.proofs.Indexed.{pair_less, count_less, count_ended}
use Rattle.repair_queue.proofs.index.Index.remove.Goals as goal

pub returns-then-w-run-clause-removed : goal.returns-then-w-run-clause-removed
returns-then-w-run-clause-removed c = λ front back once owes.
    let w = c.w.inside in
    let once_there = subst (λ (x : Wanted). AreOnce (front ++ x ∷ back)) (sym c.w.view_is) once in
    let is = subst (λ (x : Wanted). Owes c.args.self.now (front ++ x ∷ back) c.args.run) (sym c.w.view_is) owes in
    record {
      pairs = λ whole k m. c.take_mark.ensures.marks whole k m ∙ pair_less w.client w.n k m front back _ _ refl once_there (is.pairs (c.take_mark.ensures.whole whole) k m);
      counts = λ whole k. count_less w.client w.n k c.args.run.client c.args.run.len front back _ c.if-w-run.true (ap (λ counts. counted counts k) c.take_mark.ensures.counts ∙ is.counts (c.take_mark.ensures.whole whole) k);
    }

pub returns-clause-removed : goal.returns-clause-removed
returns-clause-removed c = λ front back once owes.
    let w = c.w.inside in
    let once_there = subst (λ (x : Wanted). AreOnce (front ++ x ∷ back)) (sym c.w.view_is) once in
    let is = subst (λ (x : Wanted). Owes c.args.self.now (front ++ x ∷ back) c.args.run) (sym c.w.view_is) owes in
    record {
      pairs = λ whole k m. c.take_mark.ensures.marks whole k m ∙ pair_less w.client w.n k m front back _ _ refl once_there (is.pairs (c.take_mark.ensures.whole whole) k m);
      counts = λ whole k. count_ended w.client w.n k c.args.run.client c.args.run.len front back _ _ (ap (λ counts. counted counts k) c.take_mark.ensures.counts ∙ is.counts (c.take_mark.ensures.whole whole) k) (c.take.ensures k);
    }
