use Rattle.std.proofs.Common.{ℕ, ◌^◌, List, min, max, sym, ◌∙◌, ap, subst, arith}
use Rattle.rams_model.specs.Packets.{from_number}
use Rattle.channel_cache.specs.declared.access_index.point.Point.{Point}
use Rattle.channel_cache.specs.access_index.{left_from, StandsFor, AreTimes, RiseIn}
use Rattle.channel_cache.specs.access_index.Seen.{Seen}
use Rattle.channel_cache.proofs.access_index.Rising.{rise_above, rise_wider}
use Rattle.channel_cache.proofs.access_index.Edge.{left_is, times_above}
use Rattle.channel_cache.proofs.access_index.Standing.{left_stands}
use Rattle.channel_cache.proofs.access_index.index.Index.drop_below.Goals as goal

pub drop_below-requires : goal.drop_below-requires
drop_below-requires c =
    let i = c.self.inside in
    (i.total, rise_wider i.lo i.hi 0 i.total 0 (2 ^ 62) 0 i.total i.points.items (omega arith) c.self.invariant.small (omega arith) (omega arith) c.self.invariant.rise)

pub invariant_of-self : goal.invariant_of-self
invariant_of-self c =
    let i = c.self.inside in
    let lo = c.min-self-inside.ensures ∙ ap (λ (n : ℕ). min n i.hi) c.max.ensures in
    record {
      rise = subst (λ (n : ℕ). RiseIn n i.hi 0 i.total c.drop_below.new.self.items) (sym lo)
          (subst (λ (ps : List Point). RiseIn (min (max i.lo c.args.lo) i.hi) i.hi 0 i.total ps) (sym (ap (λ r. r.items) c.drop_below.ensures)) (rise_above i.lo i.hi 0 i.total c.args.lo i.points.items c.self.invariant.rise));
      small = c.self.invariant.small;
      few = c.self.invariant.few;
      room = omega (arith, c.self.invariant.room, ap (λ r. r.capacity) c.drop_below.ensures);
      times = subst (λ (ps : List Point). AreTimes ps) (sym (ap (λ r. r.items) c.drop_below.ensures)) (times_above c.args.lo i.points.items c.self.invariant.times);
    }

pub returns-clause-step : goal.returns-clause-step
returns-clause-step c =
    let i = c.self.inside in
    let lo = c.min-self-inside.ensures ∙ ap (λ (n : ℕ). min n i.hi) c.max.ensures in
    left_is i.edge i.capacity i.lo i.hi i.last i.total c.args.lo c.min-self-inside.result i.points.items c.drop_below.new.self.items c.self.invariant.times c.self.invariant.rise lo (ap (λ r. r.items) c.drop_below.ensures)
    ∙ ap (λ v. left_from v c.args.lo) c.self.view_is

pub returns-clause-stands : goal.returns-clause-stands
returns-clause-stands c = λ marks stood.
    subst (λ (v : Seen). StandsFor v (from_number c.args.lo marks)) (sym (returns-clause-step c)) (left_stands c.args.self.now c.args.lo marks stood)
