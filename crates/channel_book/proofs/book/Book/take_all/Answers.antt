-- One event more is taken.
use Rattle.std.proofs.Common.{[], ◌∷◌, ◌++◌, List, length, sym, ap, ◌∙◌, subst, arith, append_assoc}
use Rattle.std.specs.Vec.Iter.{into_iter_items}
use Rattle.rams_model.specs.declared.Event.{Event}
use Rattle.rams_model.specs.Service.{Answered}
use Rattle.channel_book.specs.{HasTaken}
use Rattle.channel_book.proofs.Stepping.{takes_on}
use Rattle.channel_book.proofs.book.Book.take_all.Goals as goal

pub loop-event-preserved : goal.loop-event-preserved
loop-event-preserved c =
    let l = c.loop-event in
    let i = l.invariant in
    let front = i.taken.0 in
    let event = c.in-Some.event in
    let later = into_iter_items c.next.new.self in
    let old = c.args.self.now.entries in
    let steps = c.in-Some.ensures.steps in
    let answer = c.in_ok-answer.answer in
    record {
      can_next = tt;
      is_finite = tt;
      taken = (
        front ++ event ∷ [],
        append_assoc front (event ∷ []) later ∙ (ap (λ (es : List Event). front ++ es) (sym steps.0) ∙ i.taken.1),
        subst (λ (given : List Answered). HasTaken c.args.list (front ++ event ∷ []) old given c.take.new.self.entries) (sym c.push_reserved.ensures.items)
            (takes_on c.args.list front old l.answers.items l.self.entries event answer c.take.new.self.entries i.taken.2 c.in_ok-answer.ensures.added),
      );
      room = omega (arith, i.room, ap length steps.0, c.push_reserved.ensures.len, c.push_reserved.ensures.capacity);
      settings = c.in_ok-answer.ensures.settings ∙ i.settings;
    }
