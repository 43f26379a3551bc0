-- What is left, and the bounds of its numbers.
use Rattle.std.proofs.Common.{◌≡◌, ◌^◌, Option, IfSome, sym, subst}
use Rattle.rams_model.specs.Receiver.{Playing, after_shown}
use Rattle.receiver_core.specs.{Seen, IsBounded, played, reach, with_got}
use Rattle.receiver_core.proofs.Bounds.{shown_bounded, shown_reach}
use Rattle.receiver_core.proofs.Calls.{after_present}
use Rattle.receiver_core.proofs.receiver.Receiver.present.Goals as goal

pub invariant_of-self : goal.invariant_of-self
invariant_of-self c =
    let i = c.self.inside in
    record {
      media = c.self.invariant.media;
      again = c.self.invariant.again;
      play = subst (λ (play : Option Playing). IfSome play (IsBounded (2 ^ 40))) (sym c.present.ensures.after) (shown_bounded (2 ^ 40) i.play c.self.invariant.play);
    }

pub returns-clause-after : goal.returns-clause-after
returns-clause-after c =
    let i = c.self.inside in
    let s : Seen = record { tuned = i.tuned; got = record { named = i.named; ended = i.ended; play = i.play } } in
    subst (λ (t : Seen). with_got (record s.got { play = c.present.new.play }) s ≡ with_got (after_shown t.got) t) c.self.view_is (after_present s c.present.new.play c.present.ensures.after)

pub returns-clause-reach : goal.returns-clause-reach
returns-clause-reach c =
    let i = c.self.inside in
    subst (λ (t : Seen). played c.present.new.play ≡ reach t) c.self.view_is
    (subst (λ (play : Option Playing). played play ≡ played i.play) (sym c.present.ensures.after) (shown_reach (2 ^ 40) i.play c.self.invariant.play))
