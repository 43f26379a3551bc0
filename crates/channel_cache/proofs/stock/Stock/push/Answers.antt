use Rattle.std.proofs.Common.{◌≤◌, ◌==◌, List, refl, sym, ◌∙◌, ap, subst, arith}
use Rattle.rams_model.specs.declared.Held.{Held}
use Rattle.rams_model.specs.Packets.{hi, from_number}
use Rattle.channel_cache.specs.access_index.{StandsFor}
use Rattle.channel_cache.specs.packet_ring.Seen as rings
use Rattle.channel_cache.specs.Stocked.{Seen}
use Rattle.rams_model.specs.Laws.{AreAtLeast}
use Rattle.channel_cache.specs.{AreWhole}
use Rattle.channel_cache.proofs.Wholes.{AreWhole-with, least_with}
use Rattle.channel_cache.proofs.Stocking.{pushed_marks, next_mark, room_left}
use Rattle.channel_cache.proofs.stock.Stock.push.Goals as goal

pub push-requires-2-clause-room : goal.push-requires-2-clause-room
push-requires-2-clause-room c =
    let ring = c.self.inside.ring in
    let h = c.args.held in
    let above : hi ring.held ≤ h.n = subst (λ (v : Seen). hi v.ring.held ≤ h.n) (sym c.self.view_is) c.requires.above in
    let marks = pushed_marks ring c.push.new.self c.lo.result h c.self.invariant.lawful above c.push.ensures.step c.lo.ensures.value in
    let room = room_left c.drop_below.new.self (from_number c.lo.result ring.held) c.push.new.self.held h c.push.new.self.capacity
    (c.drop_below.ensures.stands ring.held c.self.invariant.marks) marks c.push.ensures.ring.fits in
    omega (arith, room, ap (λ v. v.capacity) c.drop_below.ensures.step, c.self.invariant.alike, ap (λ r. r.capacity) c.push.ensures.step)

pub push-requires-2-clause-next : goal.push-requires-2-clause-next
push-requires-2-clause-next c =
    let ring = c.self.inside.ring in
    let h = c.args.held in
    let above : hi ring.held ≤ h.n = subst (λ (v : Seen). hi v.ring.held ≤ h.n) (sym c.self.view_is) c.requires.above in
    let marks = pushed_marks ring c.push.new.self c.lo.result h c.self.invariant.lawful above c.push.ensures.step c.lo.ensures.value in
    next_mark c.drop_below.new.self (from_number c.lo.result ring.held) c.push.new.self.held h (c.drop_below.ensures.stands ring.held c.self.invariant.marks) marks c.push.ensures.ring.follows

pub invariant_of-self : goal.invariant_of-self
invariant_of-self c =
    let ring = c.self.inside.ring in
    let h = c.args.held in
    let above : hi ring.held ≤ h.n = subst (λ (v : Seen). hi v.ring.held ≤ h.n) (sym c.self.view_is) c.requires.above in
    let marks = pushed_marks ring c.push.new.self c.lo.result h c.self.invariant.lawful above c.push.ensures.step c.lo.ensures.value in
    record {
      lawful = c.push.ensures.ring;
      marks = subst (λ (hs : List Held). StandsFor c.push-2.new.self hs) marks
          (c.push-2.ensures.stands (from_number c.lo.result ring.held) h refl refl refl refl (c.drop_below.ensures.stands ring.held c.self.invariant.marks));
      alike = ap (λ v. v.capacity) c.push-2.ensures.step ∙ (ap (λ v. v.capacity) c.drop_below.ensures.step ∙ (c.self.invariant.alike ∙ sym (ap (λ r. r.capacity) c.push.ensures.step)));
      whole = subst (λ (r : rings.Seen). AreWhole r.held) (sym c.push.ensures.step) (AreWhole-with ring.capacity ring.held h (h.n == hi ring.held) c.self.invariant.whole c.requires.whole);
      large = subst (λ (r : rings.Seen). AreAtLeast c.min-self-inside.result r.held) (sym c.push.ensures.step) (least_with c.self.inside.least_wire c.min-self-inside.result ring.capacity ring.held h (h.n == hi ring.held) (omega (arith, c.min-self-inside.ensures)) c.self.invariant.large);
    }
