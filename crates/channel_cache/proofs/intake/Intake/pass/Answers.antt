use Rattle.std.proofs.Common.{◌≤◌, ◌++◌, ap, arith}
use Rattle.rams_model.specs.declared.Held.{Held}
use Rattle.rams_model.specs.Packets.{hi}
use Rattle.channel_cache.specs.reorder_window.{released}
use Rattle.channel_cache.specs.reorder_window.Seen as windows
use Rattle.channel_cache.specs.Stocked as stocks
use Rattle.channel_cache.specs.{packets_of}
use Rattle.channel_cache.proofs.Stocking.{pushed_end}
use Rattle.channel_cache.proofs.Wholes.{whole_fits}
use Rattle.channel_cache.proofs.Passing.{by_out, by_next, by_same, by_settled, by_holds}
use Rattle.channel_cache.proofs.intake.Intake.pass.Goals as goal

pub push-requires-clause-above : goal.push-requires-clause-above
push-requires-clause-above c = (by_next c.args.self.now c.pass.new.self c.args.held c.requires.settled c.requires.small c.requires.whole (c.pass.ensures.by c.args.held)).above

pub push-requires-clause-few : goal.push-requires-clause-few
push-requires-clause-few c = omega (arith, c.requires.few, whole_fits c.args.held c.requires.whole)

pub returns-clause-came : goal.returns-clause-came
returns-clause-came c = (c.pass.ensures.by c.args.held).came

pub returns-clause-settled : goal.returns-clause-settled
returns-clause-settled c =
    let v = c.args.self.now in
    let capacity = ap (λ (s : stocks.Seen). s.ring.capacity) c.push.ensures.step in
    let some : 1 ≤ v.stock.ring.capacity = omega (arith, c.push.ensures.ring.room, capacity) in
    by_settled v c.pass.new.self c.push.new.self.ring c.push.new.self.total c.args.held c.requires.settled c.requires.small c.requires.whole some (c.pass.ensures.by c.args.held)
    (ap (λ (s : stocks.Seen). s.ring) c.push.ensures.step)

pub returns-clause-grows : goal.returns-clause-grows
returns-clause-grows c =
    let v = c.args.self.now in
    let h = c.args.held in
    let by = c.pass.ensures.by h in
    let next = by_next v c.pass.new.self h c.requires.settled c.requires.small c.requires.whole by in
    let capacity = ap (λ (s : stocks.Seen). s.ring.capacity) c.push.ensures.step in
    let some : 1 ≤ v.stock.ring.capacity = omega (arith, c.push.ensures.ring.room, capacity) in
    record {
      width = ap (λ (x : windows.Seen Held). x.width) (by_out v.window c.pass.new.self h by).rest;
      capacity = capacity;
      end = omega (arith, next.above, ap (λ (s : stocks.Seen). hi s.ring.held) c.push.ensures.step, pushed_end v.stock.ring h some);
      total = omega (arith, whole_fits h c.requires.whole, by_same v.window c.pass.new.self h by, ap (λ (s : stocks.Seen). s.total) c.push.ensures.step);
    }

pub returns-clause-window : goal.returns-clause-window
returns-clause-window c = (by_out c.args.self.now.window c.pass.new.self c.args.held (c.pass.ensures.by c.args.held)).rest

pub returns-clause-stands : goal.returns-clause-stands
returns-clause-stands c = λ before s held.
    let v = c.args.self.now in
    let h = c.args.held in
    let out = released v.window.width v.window.ended s in
    let went = c.pass.ensures.stands h s out held.waits in
    (went.came, by_holds v c.pass.new.self c.push.new.self.ring c.push.new.self.total h before s (c.pass.ensures.by h) went (c.push.ensures.stands (before ++ packets_of out) held.holds))
