use Rattle.std.proofs.Common.{◌≡◌, ◌-◌, List, length, drop, length-drop, ap, ◌∙◌, arith}
use Rattle.rams_model.specs.Service.{Wanted}
use Rattle.repair_queue.specs.{unmarked}
use Rattle.repair_queue.proofs.Marked.{moved_places}
use Rattle.repair_queue.proofs.tail.Tail.drop_marked.Goals as goal

pub returns-else-self-ge-MOST_GONE : goal.returns-else-self-ge-MOST_GONE
returns-else-self-ge-MOST_GONE c =
    let here = c.self.inside in
    let places = c.deref_mut.result.now in
    let post = drop (length places - here.from) (drop here.from places) in
    let none : length post ≡ 0 = omega (arith, length-drop (length places - here.from) (drop here.from places), length-drop here.from places) in
    moved_places here.places places c.move_unmarked-gone.new.pending post c.args.done.now here.from c.move_unmarked-gone.result c.deref_mut.ensures.value c.deref_mut.ensures.len c.self.invariant.within none
    c.move_unmarked-gone.auto.pending c.move_unmarked-gone.ensures.pending
    ∙ ap (λ (l : List Wanted). unmarked l c.args.done.now) c.self.view_is

pub returns-then-self-ge-MOST_GONE : goal.returns-then-self-ge-MOST_GONE
returns-then-self-ge-MOST_GONE c =
    let here = c.self.inside in
    let places = c.deref_mut.result.now in
    let post = drop (length places - here.from) (drop here.from places) in
    let none : length post ≡ 0 = omega (arith, length-drop (length places - here.from) (drop here.from places), length-drop here.from places) in
    c.move_down.ensures.items
    ∙ (moved_places here.places places c.move_unmarked-gone.new.pending post c.args.done.now here.from c.move_unmarked-gone.result c.deref_mut.ensures.value c.deref_mut.ensures.len c.self.invariant.within none
    c.move_unmarked-gone.auto.pending c.move_unmarked-gone.ensures.pending
    ∙ ap (λ (l : List Wanted). unmarked l c.args.done.now) c.self.view_is)
