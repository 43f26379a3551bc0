use Rattle.std.proofs.Common.{List, sym, ◌∙◌, ap, subst, rules, arith}
use Rattle.channel_cache.specs.declared.access_index.point.Point.{Point}
use Rattle.channel_cache.specs.access_index.{lows_of, AreLids}
use Rattle.channel_cache.proofs.access_index.points.Points.new.Goals as goal

pub invariant_of-result : goal.invariant_of-result
unfolding lows_of
invariant_of-result c = record {
  spanned = search rules;
  room = search rules;
  lows = c.in_ok-with_capacity-3.ensures.items ∙ sym (ap (λ (ps : List Point). lows_of ps) c.in_ok-with_capacity.ensures.items);
  lows_room = omega (arith, c.in_ok-with_capacity-3.ensures.capacity, c.in_ok-with_capacity.ensures.exact);
  lids = subst (AreLids c.new.result) (sym c.in_ok-with_capacity.ensures.items) c.new.ensures;
}
