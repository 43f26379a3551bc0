use Rattle.std.proofs.Common.{◌≤◌, ◌-◌, List, false, refl, sym, ◌∙◌, subst, arith}
use Rattle.std.proofs.lemmas.List.{get_or-take, length-take-le}
use Rattle.rams_model.specs.Service.{Wanted}
use Rattle.repair_queue.proofs.Marked.{MovedUp, moved_none, moved_gone, moved_run, moved_past}
use Rattle.repair_queue.proofs.places.move_unmarked.Goals as goal

pub loop-end-init : goal.loop-end-init
loop-end-init c = moved_none c.args.pending.now c.args.done.now c.end_of_set-start.result c.requires c.end_of_set-start.ensures.within c.end_of_set-start.ensures.unset

pub loop-end-preserved : goal.loop-end-preserved
loop-end-preserved c =
    let ws = c.args.pending.now in
    let done = c.args.done.now in
    let end = c.loop-end.end in
    let behind = c.start_of_set-behind.result in
    let from = c.end_of_set-from.result in
    let to = c.loop-end.start - (behind - from) in
    let lower : behind ≤ end = omega (arith, c.start_of_set-behind.ensures.within, c.loop-end.invariant.order, c.loop-end.invariant.within, length-take-le end done (omega (arith, c.loop-end.invariant.order, c.loop-end.invariant.within))) in
    let low : from ≤ behind = omega (arith, c.end_of_set-from.ensures.within, lower, c.loop-end.invariant.order, c.loop-end.invariant.within, length-take-le behind done (omega (arith, lower, c.loop-end.invariant.order, c.loop-end.invariant.within))) in
    let gone : MovedUp ws c.loop-end.pending done c.loop-end.start behind = moved_gone ws c.loop-end.pending done c.loop-end.start behind end lower c.loop-end.invariant c.start_of_set-behind.ensures.set in
    let run : MovedUp ws c.move_run.new.pending done to from =
    subst (λ (l : List Wanted). MovedUp ws l done to from) (sym c.move_run.ensures) (moved_run ws c.loop-end.pending done c.loop-end.start from behind to low refl gone c.end_of_set-from.ensures.unset) in
    moved_past ws c.move_run.new.pending done to from c.saturating_sub-end.result c.saturating_sub-end.ensures run
    (λ some. sym (get_or-take behind done (from - 1) false (omega (arith, some, low))) ∙ c.end_of_set-from.ensures.set some)
