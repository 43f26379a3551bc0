use Rattle.std.proofs.Common.{◌∙◌, ◌<◌, ◌≤◌, length, refl, arith}
use Rattle.std.proofs.lemmas.List.{length-set}
use Rattle.book_text.proofs.answer_text.Fronts.{starts_on, starts_with_itself}
use Rattle.pool.specs.pool_loop.{all_left}
use Rattle.pool.proofs.pool_loop.Sides.{none_done, goes_on, all_done}
use Rattle.pool.proofs.pool_loop.walking.append_all.Goals as goal

pub loop-place-init : goal.loop-place-init
loop-place-init c = record { halfway = none_done c.args.event c.args.route c.args.text.now.items (all_left c.args.left.now) (all_left c.args.left.now) c.args.text.now.items refl refl; begun = starts_with_itself c.args.text.now.items; many = refl }

pub loop-place-preserved : goal.loop-place-preserved
loop-place-preserved c =
    let less : c.loop-place.place < length c.loop-place.left = omega (arith, c.loop-place-test.true, c.loop-place.invariant.many) in
    record {
      halfway = goes_on c.args.event c.args.route c.args.text.now.items (all_left c.args.left.now) c.loop-place.left c.append_heard.new.left c.loop-place.text.items c.append_heard.new.text.items c.loop-place.place c.index-left-place.result
          c.loop-place.invariant.halfway less c.in_ok-append_heard.ensures.left c.in_ok-append_heard.ensures.text;
      begun = rw c.in_ok-append_heard.ensures.text (starts_on c.args.text.now.items c.loop-place.text.items _ c.loop-place.invariant.begun);
      many = length-set c.loop-place.left c.loop-place.place c.append_heard.new.left ∙ c.loop-place.invariant.many;
    }

pub returns-clause-text : goal.returns-clause-text
returns-clause-text c =
    let all : length c.loop-place.left ≤ c.loop-place.place = omega (arith, c.loop-place-test.false, c.loop-place.invariant.many) in
    (all_done c.args.event c.args.route c.args.text.now.items (all_left c.args.left.now) c.loop-place.left c.loop-place.text.items c.loop-place.place c.loop-place.invariant.halfway all).0

pub returns-clause-left : goal.returns-clause-left
returns-clause-left c =
    let all : length c.loop-place.left ≤ c.loop-place.place = omega (arith, c.loop-place-test.false, c.loop-place.invariant.many) in
    (all_done c.args.event c.args.route c.args.text.now.items (all_left c.args.left.now) c.loop-place.left c.loop-place.text.items c.loop-place.place c.loop-place.invariant.halfway all).1
