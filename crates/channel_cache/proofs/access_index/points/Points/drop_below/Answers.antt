use Rattle.std.proofs.Common.{◌≡◌, ◌<◌, ◌^◌, List, length, rules, sym, ap, ◌∙◌, arith}
use Rattle.channel_cache.specs.declared.access_index.point.Point.{Point}
use Rattle.channel_cache.specs.access_index.{above, lows_of}
use Rattle.std.proofs.lemmas.Grind.{common_steps}
use Rattle.channel_cache.proofs.access_index.Lowest.{lows_above, lid_rest}
use Rattle.channel_cache.proofs.access_index.Spanning.{spanned_rest, spanned_next}
use Rattle.channel_cache.proofs.access_index.points.Points.drop_below.Goals as goal

pub loop-lo-preserved-then-self-eq-SPAN : goal.loop-lo-preserved-then-self-eq-SPAN
loop-lo-preserved-then-self-eq-SPAN c =
    let i = c.loop-lo.self-inside in
    let some : 0 < length i.points.items = search rules in
    record {
      items = search rules;
      capacity = c.pop_front.ensures.capacity ∙ c.loop-lo.invariant.capacity;
      spanned = rw (c.pop_front-then-self-eq-SPAN.ensures.rest, c.pop_front.ensures.rest) (spanned_next i.gone i.spans.items i.points.items c.if-self-eq-SPAN.true some c.loop-lo.invariant.spanned);
      room = omega (arith, c.loop-lo.invariant.room, c.pop_front.ensures.capacity, c.pop_front-then-self-eq-SPAN.ensures.capacity);
      lows = c.loop-lo.invariant.lows;
      lows_room = c.loop-lo.invariant.lows_room;
      lids = rw c.pop_front.ensures.rest (lid_rest i.lids.first i.points.items c.loop-lo.invariant.lids.0, lid_rest i.lids.second i.points.items c.loop-lo.invariant.lids.1);
    }

pub loop-lo-preserved : goal.loop-lo-preserved
loop-lo-preserved c =
    let i = c.loop-lo.self-inside in
    let some : 0 < length i.points.items = search rules in
    record {
      items = search rules;
      capacity = c.pop_front.ensures.capacity ∙ c.loop-lo.invariant.capacity;
      spanned = rw c.pop_front.ensures.rest (spanned_rest i.gone i.spans.items i.points.items (omega (arith, c.if-self-eq-SPAN.false, c.loop-lo.invariant.spanned.few)) some c.loop-lo.invariant.spanned);
      room = omega (arith, c.loop-lo.invariant.room, c.pop_front.ensures.capacity);
      lows = c.loop-lo.invariant.lows;
      lows_room = c.loop-lo.invariant.lows_room;
      lids = rw c.pop_front.ensures.rest (lid_rest i.lids.first i.points.items c.loop-lo.invariant.lids.0, lid_rest i.lids.second i.points.items c.loop-lo.invariant.lids.1);
    }

pub loop-lo-init : goal.loop-lo-init
loop-lo-init c =
    let i = c.self.inside in
    let lo = c.args.lo in
    let points : i.points.items ≡ c.args.self.now.items = ap (λ r. r.items) c.self.view_is in
    record {
      items = ap (above lo) points;
      capacity = ap (λ r. r.capacity) c.self.view_is;
      spanned = c.self.invariant.spanned;
      room = c.self.invariant.room;
      lows = c.drop_lows.ensures.items
          ∙ (ap (above lo) (c.self.invariant.lows ∙ ap (λ (ps : List Point). lows_of ps) points) ∙ sym (lows_above 0 (2 ^ 62) 0 c.requires.0 lo c.args.self.now.items c.requires.1));
      lows_room = omega (arith, c.drop_lows.ensures.capacity, c.self.invariant.lows_room, ap (λ r. r.capacity) c.self.view_is);
      lids = c.self.invariant.lids;
    }

pub invariant_of-self : goal.invariant_of-self
invariant_of-self c =
    let i = c.loop-lo.self-inside in
    let kept : above c.args.lo i.points.items ≡ i.points.items = grind (arith, common_steps) in
    record {
      spanned = c.loop-lo.invariant.spanned;
      room = c.loop-lo.invariant.room;
      lows = c.loop-lo.invariant.lows ∙ ap (λ (ps : List Point). lows_of ps) (sym c.loop-lo.invariant.items ∙ kept);
      lows_room = omega (arith, c.loop-lo.invariant.capacity, c.loop-lo.invariant.lows_room);
      lids = c.loop-lo.invariant.lids;
    }
