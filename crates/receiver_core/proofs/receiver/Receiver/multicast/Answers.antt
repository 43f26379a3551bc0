-- What was got, and the bounds of its numbers.
use Rattle.std.proofs.Common.{◌≡◌, ◌+◌, ◌<◌, ◌≤◌, ◌^◌, Option, IfSome, option_map, sym, subst, arith}
use Rattle.rams_model.specs.Formats.{stripped}
use Rattle.rams_model.specs.Receiver.{Playing, after_media, arrived_by_multicast, brought_by_multicast}
use Rattle.receiver_core.specs.{Seen, IsBounded, played, reach, with_got}
use Rattle.receiver_core.proofs.Bounds.{multicast_bounded, reached, at_most, within}
use Rattle.receiver_core.proofs.Calls.{after_unfit, after_multicast}
use Rattle.receiver_core.proofs.receiver.Receiver.multicast.Goals as goal

pub returns-in-Err-clause-after : goal.returns-in-Err-clause-after
returns-in-Err-clause-after c =
    let i = c.self.inside in
    let s : Seen = record { tuned = i.tuned; got = record { named = i.named; ended = i.ended; play = i.play } } in
    subst (λ (t : Seen). t ≡ with_got (after_media (brought_by_multicast t.tuned c.args.bytes.now) t.got) t) c.self.view_is
    (after_unfit s (brought_by_multicast s.tuned c.args.bytes.now) c.in-Err.came c.in-Err.ensures)

pub invariant_of-self-2 : goal.invariant_of-self-2
invariant_of-self-2 c =
    let i = c.self.inside in
    let p = c.in-Ok.packet in
    let few = subst (λ (s : Seen). played s.got.play < 2 ^ 40 → played i.play < 2 ^ 40) c.self.view_is (λ f. f) c.requires.few in
    let bounded = multicast_bounded (played i.play) p.sequence (stripped p) i.play (reached (2 ^ 40) i.play c.self.invariant.play) in
    record {
      media = c.self.invariant.media;
      again = c.self.invariant.again;
      play = subst (λ (play : Option Playing). IfSome play (IsBounded (2 ^ 40))) (sym c.in_ok-answer.ensures.after)
          (within (played i.play + 1) (2 ^ 40) (option_map (arrived_by_multicast p.sequence (stripped p)) i.play) (omega (arith, few)) bounded);
    }

pub returns-clause-few : goal.returns-clause-few
returns-clause-few c =
    let i = c.self.inside in
    let p = c.in-Ok.packet in
    let bounded = multicast_bounded (played i.play) p.sequence (stripped p) i.play (reached (2 ^ 40) i.play c.self.invariant.play) in
    let few = subst (λ (play : Option Playing). IfSome play (IsBounded (played i.play + 1))) (sym c.in_ok-answer.ensures.after) bounded in
    subst (λ (s : Seen). played c.arrive_by_multicast.new.play ≤ reach s + 1) c.self.view_is (at_most (played i.play + 1) c.arrive_by_multicast.new.play few)

pub returns-clause-after : goal.returns-clause-after
returns-clause-after c =
    let i = c.self.inside in
    let s : Seen = record { tuned = i.tuned; got = record { named = i.named; ended = i.ended; play = i.play } } in
    let p = c.in-Ok.packet in
    subst (λ (t : Seen). with_got (record s.got { play = c.arrive_by_multicast.new.play }) s ≡ with_got (after_media (brought_by_multicast t.tuned c.args.bytes.now) t.got) t)
    c.self.view_is
    (after_multicast s (brought_by_multicast s.tuned c.args.bytes.now) p.sequence (stripped p) c.arrive_by_multicast.new.play c.in-Ok.ensures c.in_ok-answer.ensures.after)
