use Rattle.std.proofs.Common.{[], ◌∷◌, ◌++◌, List, sym, ap, ◌∙◌, subst, append_assoc}
use Rattle.std.specs.Prelude.{Result}
use Rattle.std.specs.Vec.Iter.{into_iter_items}
use Rattle.ram_io.specs.declared.NoMemory.{NoMemory}
use Rattle.channel_book.specs.{Kept}
use Rattle.pool.specs.link_pool.{Claimer}
use Rattle.pool.specs.declared.pool_run.lane.Ran.{Ran}
use Rattle.pool.specs.pool_run.{ArePulled}
use Rattle.pool.proofs.pool_run.Pulling.{pulls_on}
use Rattle.pool.proofs.pool_run.pairs.pull.Goals as goal

pub loop-ran-preserved : goal.loop-ran-preserved
loop-ran-preserved c =
    let i = c.loop-ran.invariant in
    let steps = c.in-Some.ensures.steps in
    let later = into_iter_items c.next.new.self in
    let done = i.pulled.0 in
    let outcome = c.in-Some.ran in
    let ran = c.in_ok-book.field-0 in
    let on = pulls_on done c.loop-ran.books.items c.loop-ran.takers.items outcome ran.book ran.taker c.in_ok-book.was i.pulled.2 in record {
      can_next = tt;
      is_finite = tt;
      pulled = (
        done ++ outcome ∷ [],
        append_assoc done (outcome ∷ []) later ∙ (ap (λ (l : List (Result Ran NoMemory)). done ++ l) (sym steps.0) ∙ i.pulled.1),
        subst (λ (books : List Kept). ArePulled (done ++ outcome ∷ []) books c.push-in-loop-ran.new.self.items) (sym c.in_ok-push.ensures.items)
            (subst (λ (takers : List Claimer). ArePulled (done ++ outcome ∷ []) (c.loop-ran.books.items ++ ran.book ∷ []) takers) (sym c.in_ok-push-2.ensures.items) on),
      );
    }
