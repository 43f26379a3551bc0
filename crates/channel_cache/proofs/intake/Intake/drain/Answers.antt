use Rattle.std.proofs.Common.{ℕ, ◌≤◌, ◌++◌, sym, ◌∙◌, ap, arith}
use Rattle.rams_model.specs.declared.Held.{Held}
use Rattle.channel_cache.specs.reorder_window.{without}
use Rattle.channel_cache.specs.reorder_window.Seen as windows
use Rattle.channel_cache.specs.Stocked as stocks
use Rattle.channel_cache.specs.{packets_of}
use Rattle.rams_model.specs.Packets.{hi}
use Rattle.channel_cache.proofs.Stocking.{pushed_end}
use Rattle.channel_cache.proofs.Wholes.{whole_fits}
use Rattle.channel_cache.proofs.Draining.{goes_out, is_next, one_out, one_held, all_out}
use Rattle.channel_cache.proofs.intake.Intake.drain.Goals as goal

pub push-requires-clause-small : goal.push-requires-clause-small
push-requires-clause-small c =
    let v = c.loop-held.self in
    let out = goes_out v.window c.release.new.self (c.in-Some.field-0-0, c.in-Some.held) (sym c.release.ensures.item ∙ c.in-Some.is) c.release.ensures.step in
    (is_next v c.release.new.self (c.in-Some.field-0-0, c.in-Some.held) c.loop-held.invariant.intake out).small

pub push-requires-clause-few : goal.push-requires-clause-few
push-requires-clause-few c =
    let v = c.loop-held.self in
    let out = goes_out v.window c.release.new.self (c.in-Some.field-0-0, c.in-Some.held) (sym c.release.ensures.item ∙ c.in-Some.is) c.release.ensures.step in
    let next = is_next v c.release.new.self (c.in-Some.field-0-0, c.in-Some.held) c.loop-held.invariant.intake out in
    omega (arith, c.requires.few, c.loop-held.invariant.grows.total, next.more, whole_fits c.in-Some.held next.item.whole)

pub loop-held-preserved : goal.loop-held-preserved
loop-held-preserved c =
    let v = c.loop-held.self in
    let w = c.release.new.self in
    let e : ℕ × Held = (c.in-Some.field-0-0, c.in-Some.held) in
    let out = goes_out v.window w e (sym c.release.ensures.item ∙ c.in-Some.is) c.release.ensures.step in
    let next = is_next v w e c.loop-held.invariant.intake out in
    let grew = c.loop-held.invariant.grows in
    let capacity = ap (λ (s : stocks.Seen). s.ring.capacity) c.push.ensures.step in
    let some : 1 ≤ v.stock.ring.capacity = omega (arith, c.push.ensures.ring.room, capacity) in
    record {
      intake = one_out v w c.push.new.self.ring c.push.new.self.total e c.loop-held.invariant.intake some out (ap (λ (s : stocks.Seen). s.ring) c.push.ensures.step);
      window = out.rest ∙ ap (λ (x : windows.Seen Held). record x { kept = w.kept }) c.loop-held.invariant.window;
      grows = record {
        width = ap (λ (x : windows.Seen Held). x.width) out.rest ∙ grew.width;
        capacity = capacity ∙ grew.capacity;
        end = omega (arith, grew.end, next.above, ap (λ (s : stocks.Seen). hi s.ring.held) c.push.ensures.step, pushed_end v.stock.ring e.1 some);
        total = omega (arith, grew.total, next.more, whole_fits e.1 next.item.whole, ap (λ (s : stocks.Seen). s.total) c.push.ensures.step);
      };
      stands = λ before s out waits holds.
          let h = c.loop-held.invariant.stands before s out waits holds in
          one_held w v.stock.ring c.push.new.self.ring before s h.out e (c.in-Some.ensures.stands s h.out h.waits) (c.push.ensures.stands (before ++ packets_of h.out) h.holds);
    }

pub returns-clause-stands : goal.returns-clause-stands
returns-clause-stands c = λ before s out waits holds.
    let v = c.loop-held.self in
    let h = c.loop-held.invariant.stands before s out waits holds in
    let none = sym c.release.ensures.item ∙ c.in_default.is in
    all_out v c.release.new.self before s h.out (c.release.ensures.step ∙ ap (without v.window) none) (c.in_default.ensures.stands s h.out h.waits) h.waits h.holds
