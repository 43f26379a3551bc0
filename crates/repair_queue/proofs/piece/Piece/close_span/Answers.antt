use Rattle.std.proofs.Common.{drop, ap, subst, ◌∙◌}
use Rattle.std.proofs.lemmas.List.{take_rest}
use Rattle.repair_queue.specs.{AreNoLess}
use Rattle.repair_queue.proofs.piece.Piece.close_span.Goals as goal

pub invariant_of-self : goal.invariant_of-self
invariant_of-self c =
    let here = c.self.inside in
    let least = c.least_of-least.result in
    let no_less : AreNoLess least (drop here.from here.wanted.items) =
    subst (AreNoLess least) (take_rest c.deref.result.now here.from ∙ ap (drop here.from) c.deref.ensures.value) c.least_of-least.ensures in
    record {
      within = c.self.invariant.within;
      spans = c.since-self-inside.ensures (drop here.from here.wanted.items) c.self.invariant.spans no_less;
    }
