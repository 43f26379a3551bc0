use Rattle.std.proofs.Common.{ℕ, ◌-◌, ◌<◌, ◌≤◌, sym, ◌∙◌, ap, subst, arith}
use Rattle.channel_cache.specs.declared.access_index.point.Point.{Point}
use Rattle.rams_model.specs.Packets.{age_ms}
use Rattle.channel_cache.specs.access_index.{start_unless}
use Rattle.channel_cache.proofs.access_index.Halving.{last_before, last_full, last_old}
use Rattle.channel_cache.proofs.access_index.lows.choose_low.Goals as goal

pub leaves_room-requires : goal.leaves_room-requires
leaves_room-requires c =
    let p = c.index-point.result.now in
    let is = c.index-point.ensures in
    last_before c.args.ask.now c.args.lows.now.items c.old_count-count.result p c.requires.rise (omega (arith, c.if-count-eq0.false)) c.old_count-count.ensures.within is

pub returns-then-not-leaves_room : goal.returns-then-not-leaves_room
returns-then-not-leaves_room c =
    let p = c.index-point.result.now in
    let is = c.index-point.ensures in
    last_full c.args.ask.now c.args.lows.now.items c.old_count-count.result p c.requires.rise (omega (arith, c.if-count-eq0.false)) c.old_count-count.ensures.within is
    (sym c.leaves_room.ensures ∙ c.if-not-leaves_room.true) c.old_count-count.ensures.same

pub start_at-requires : goal.start_at-requires
start_at-requires c =
    let p = c.index-point.result.now in
    let is = c.index-point.ensures in
    last_before c.args.ask.now c.args.lows.now.items c.old_count-count.result p c.requires.rise (omega (arith, c.if-count-eq0.false)) c.old_count-count.ensures.within is

pub returns : goal.returns
returns c =
    let ask = c.args.ask.now in
    let p = c.index-point.result.now in
    let count = c.old_count-count.result in
    let some : 0 < count = omega (arith, c.if-count-eq0.false) in
    let is = c.index-point.ensures in
    let old = subst (λ (q : Point). ask.min_ms ≤ age_ms ask.last q.ts) (sym is) (c.old_count-count.ensures.old p some) in
    c.start_at.ensures
    ∙ (ap (λ (n : ℕ). start_unless ask.max_ms n p.n (ask.total - p.before)) c.age_ms.ensures
    ∙ last_old ask c.args.lows.now.items count p some c.old_count-count.ensures.within is (sym c.leaves_room.ensures ∙ c.if-not-leaves_room.false) old c.old_count-count.ensures.same)
