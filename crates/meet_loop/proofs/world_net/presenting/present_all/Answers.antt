use Rattle.std.proofs.Common.{ap, ◌∙◌}
use Rattle.receiver_core.specs.declared.Shown.{Shown}
use Rattle.meet_loop.specs.world_laws.{note}
use Rattle.meet_loop.specs.declared.world_laws.world.WorldItem.TheVariants as item
use Rattle.meet_loop.specs.world_net.{show_at}
use Rattle.meet_loop.proofs.world_net.AllShown.{presenting_ends, presenting_more, presents_less, was_shown, none_now, still_with}
use Rattle.meet_loop.proofs.world_net.presenting.present_all.Goals as goal

pub loop-shown-smaller : goal.loop-shown-smaller
loop-shown-smaller c =
    let q = was_shown c.loop-shown.receiver.got c.in-Some.shown c.in-Some.ensures.shown in
    presents_less _ _ _ q.1 c.in-Some.ensures.after

pub loop-shown-preserved : goal.loop-shown-preserved
loop-shown-preserved c =
    let q = was_shown c.loop-shown.receiver.got c.in-Some.shown c.in-Some.ensures.shown in
    presenting_more (show_at c.args.id c.args.client) _ _ _ _ _ _ q.0 _ c.loop-shown.invariant q.1 c.in-Some.ensures.after c.in-Some.ensures.reach c.in_ok-say.ensures
    (ap (λ (s : Shown). note c.args.id (item.Show c.args.client s.n s.packet)) q.2)

pub returns-clause-notes : goal.returns-clause-notes
returns-clause-notes c = (presenting_ends (show_at c.args.id c.args.client) _ _ _ _ c.loop-shown.invariant (none_now c.loop-shown.receiver.got c.in_default.ensures.shown)).0

pub returns-clause-receiver : goal.returns-clause-receiver
returns-clause-receiver c =
    let none = none_now c.loop-shown.receiver.got c.in_default.ensures.shown in
    still_with _ _ none c.in_default.ensures.after ∙ (presenting_ends (show_at c.args.id c.args.client) _ _ _ _ c.loop-shown.invariant none).1
