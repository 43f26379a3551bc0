use Rattle.std.proofs.Common.{◌≡◌, ◌+◌, ◌-◌, ◌≤◌, List, length, take, drop, length-drop, refl, ap, sym, ◌∙◌, arith}
use Rattle.std.proofs.lemmas.Bool.{eqb-true}
use Rattle.std.proofs.lemmas.List.{take_rest}
use Rattle.rams_model.specs.Service.{Wanted}
use Rattle.tick_core.specs.{with_waiting, with_all_wanted}
use Rattle.tick_core.proofs.Piecewise.{more_wait}
use Rattle.tick_core.proofs.Repairing.{wanted_end}
use Rattle.tick_core.proofs.Spent.{front_waits, first_goes, first_leaves}
use Rattle.tick_core.proofs.repairs.Repairs.pass_over.Goals as goal

pub loop-left-preserved : goal.loop-left-preserved
loop-left-preserved c =
    let held = c.args.holding.now in
    let ws = c.loop-left.left.now in
    let k = c.held_front-held.result in
    let rest = take (length ws - k) (drop k ws) in
    let is : rest ≡ drop k ws = take_rest ws k in
    let before = with_waiting c.loop-left.waiting c.loop-left.self in
    let front = with_waiting (c.loop-left.waiting + k) c.loop-left.self in
    let after = with_waiting c.in_ok-then.then c.drop_first.new.self in
    let made = c.in_ok-then.ensures in
    record {
      so_far = ap (λ (l : List Wanted). with_all_wanted held l after) made.rest
          ∙ (first_goes held rest front after made.first
          ∙ (ap (λ (l : List Wanted). with_all_wanted held l front) is
          ∙ (front_waits held k ws before front c.held_front-held.ensures.within c.loop-left.invariant.spent c.held_front-held.ensures.held (more_wait c.loop-left.waiting k c.loop-left.self) ∙ c.loop-left.invariant.so_far)));
      spent = first_leaves held rest front after made.first c.loop-left.invariant.spent;
      few = omega (arith, made.few, ap length made.rest, length-drop 1 rest, ap length is, length-drop k ws, c.held_front-held.ensures.within, c.loop-left.invariant.few);
    }

pub returns-clause-passed : goal.returns-clause-passed
returns-clause-passed c =
    let ws = c.loop-left.left.now in
    let none : length ws ≤ 0 = omega (arith, eqb-true (length ws) 0 (sym c.loop-left-test.ensures)) in
    wanted_end c.args.holding.now ws ws 0 (with_waiting c.loop-left.waiting c.loop-left.self) _ refl none c.loop-left.invariant.so_far
