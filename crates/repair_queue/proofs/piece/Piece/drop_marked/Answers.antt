use Rattle.std.proofs.Common.{◌≡◌, ◌-◌, List, length, drop, length-drop, ap, sym, ◌∙◌, subst, arith}
use Rattle.rams_model.specs.Service.{Wanted}
use Rattle.repair_queue.specs.{unmarked, Spans}
use Rattle.repair_queue.proofs.Pending.{each_unmarked}
use Rattle.repair_queue.proofs.Marked.{moved_places}
use Rattle.repair_queue.proofs.piece.Piece.drop_marked.Goals as goal

pub invariant_of-self : goal.invariant_of-self
invariant_of-self c =
    let here = c.self.inside in
    let places = c.deref_mut.result.now in
    let post = drop (length places - here.from) (drop here.from places) in
    let none : length post ≡ 0 = omega (arith, length-drop (length places - here.from) (drop here.from places), length-drop here.from places) in
    let is =
    moved_places here.wanted places c.move_unmarked-gone.new.pending post c.args.done.now here.from c.move_unmarked-gone.result c.deref_mut.ensures.value c.deref_mut.ensures.len c.self.invariant.within none
    c.move_unmarked-gone.auto.pending c.move_unmarked-gone.ensures.pending in
    record {
      within = omega (arith, c.move_unmarked-gone.ensures.within, c.deref_mut.ensures.len, ap length c.self.view_is, length-drop here.from here.wanted.items, c.requires, c.self.invariant.within);
      spans = c.open-self-inside.ensures _ (subst (Spans here.span) (sym is) (each_unmarked _ (drop here.from here.wanted.items) c.args.done.now c.self.invariant.spans));
    }

pub returns : goal.returns
returns c =
    let here = c.self.inside in
    let places = c.deref_mut.result.now in
    let post = drop (length places - here.from) (drop here.from places) in
    let none : length post ≡ 0 = omega (arith, length-drop (length places - here.from) (drop here.from places), length-drop here.from places) in
    moved_places here.wanted places c.move_unmarked-gone.new.pending post c.args.done.now here.from c.move_unmarked-gone.result c.deref_mut.ensures.value c.deref_mut.ensures.len c.self.invariant.within none
    c.move_unmarked-gone.auto.pending c.move_unmarked-gone.ensures.pending
    ∙ ap (λ (l : List Wanted). unmarked l c.args.done.now) c.self.view_is
