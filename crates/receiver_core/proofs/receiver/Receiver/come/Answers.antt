-- What was got, and the bounds of its numbers.
use Rattle.std.proofs.Common.{◌≡◌, ◌+◌, ◌<◌, ◌≤◌, ◌^◌, Option, IfSome, option_map, refl, sym, subst, arith}
use Rattle.rams_model.specs.Receiver.{Playing, again, after_media, arrived, first_number, or_begun}
use Rattle.receiver_core.specs.{Seen, IsBounded, played, reach, with_got}
use Rattle.receiver_core.proofs.Bounds.{again_bounded, reached, at_most, within}
use Rattle.receiver_core.proofs.Calls.{after_again}
use Rattle.receiver_core.proofs.receiver.Receiver.come.Goals as goal

pub invariant_of-self-2 : goal.invariant_of-self-2
invariant_of-self-2 c =
    let i = c.self.inside in
    let few = subst (λ (s : Seen). played s.got.play < 2 ^ 40 → played i.play < 2 ^ 40) c.self.view_is (λ f. f) c.requires.few in
    let bounded = again_bounded (played i.play) i.named c.args.sequence c.args.low c.args.packet i.play (reached (2 ^ 40) i.play c.self.invariant.play) in
    record {
      media = c.self.invariant.media;
      again = c.self.invariant.again;
      play = subst (λ (play : Option Playing). IfSome play (IsBounded (2 ^ 40))) (sym c.in_ok-came.ensures.after)
          (within (played i.play + 1) (2 ^ 40) (option_map (arrived c.args.low c.args.packet) (or_begun i.play (first_number i.named c.args.sequence c.args.low))) (omega (arith, few)) bounded);
    }

pub returns-clause-few : goal.returns-clause-few
returns-clause-few c =
    let i = c.self.inside in
    let bounded = again_bounded (played i.play) i.named c.args.sequence c.args.low c.args.packet i.play (reached (2 ^ 40) i.play c.self.invariant.play) in
    let few = subst (λ (play : Option Playing). IfSome play (IsBounded (played i.play + 1))) (sym c.in_ok-came.ensures.after) bounded in
    subst (λ (s : Seen). played c.arrive_again.new.play ≤ reach s + 1) c.self.view_is (at_most (played i.play + 1) c.arrive_again.new.play few)

pub returns-clause-after : goal.returns-clause-after
returns-clause-after c =
    let i = c.self.inside in
    let s : Seen = record { tuned = i.tuned; got = record { named = i.named; ended = i.ended; play = i.play } } in
    subst (λ (t : Seen). with_got (record s.got { play = c.arrive_again.new.play }) s ≡ with_got (after_media (again c.args.sequence c.args.low c.args.packet) t.got) t) c.self.view_is
    (after_again s (again c.args.sequence c.args.low c.args.packet) c.args.sequence c.args.low c.args.packet c.arrive_again.new.play refl c.in_ok-came.ensures.after)
