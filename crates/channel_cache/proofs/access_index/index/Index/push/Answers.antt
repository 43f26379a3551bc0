use Rattle.std.proofs.Common.{◌≡◌, [], ◌∷◌, ◌++◌, ◌==◌, if◌then◌else◌, sym, ◌∙◌, ap, subst, arith}
use Rattle.std.proofs.lemmas.Bool.Decides.{nat_tests}
use Rattle.channel_cache.specs.access_index.{pushed, since, StandsFor}
use Rattle.channel_cache.specs.access_index.Seen.{Seen}
use Rattle.channel_cache.proofs.access_index.Edge.{since_small}
use Rattle.channel_cache.proofs.access_index.Rising.{rise-length}
use Rattle.channel_cache.proofs.access_index.Standing.{pushed_stands}
use Rattle.channel_cache.proofs.access_index.Pushing.{IsTaken, taken_point, taken_other, taken_is, taken_rise, taken_times}
use Rattle.channel_cache.proofs.access_index.index.Index.push.Goals as goal
use Rattle.channel_cache.proofs.access_index.index.Index.push.Goals.{then-access, else-access, then-self, else-self}

pub push-requires : goal.push-requires
push-requires c =
    let i = c.self.inside in
    omega (arith, rise-length i.lo i.hi 0 i.total i.points.items c.self.invariant.rise, c.self.invariant.room, ap (λ v. v.hi) c.self.view_is, ap (λ v. v.lo) c.self.view_is, ap (λ v. v.capacity) c.self.view_is, c.requires.room)

pub invariant_of-self : goal.invariant_of-self
invariant_of-self c =
    let old = c.self.inside in
    let new = c.if-access.self-inside in
    let first : c.if-self.self ≡ (if old.lo == old.hi then c.args.n else old.lo) = elim c.if-self.branch [ then-self w ↦ grind (arith, nat_tests) | else-self w ↦ grind (arith, nat_tests) ] in
    let taken : IsTaken old new c.edge_for-self-inside.result c.if-self.self c.args.n (since c.edge_for-self-inside.result c.args.ts) c.args.access = elim c.if-access.branch [
      | then-access w ↦ taken_point old new w.push.new.self c.edge_for-self-inside.result c.if-self.self c.args.n w.since.result (since c.edge_for-self-inside.result c.args.ts) c.args.access w.since.ensures w.self-inside-is w.if-access.true w.push.ensures
      | else-access w ↦ taken_other old new c.edge_for-self-inside.result c.if-self.self c.args.n (since c.edge_for-self-inside.result c.args.ts) c.args.access w.self-inside-is w.if-access.false
    ] in
    record {
      rise = taken_rise old new c.edge_for-self-inside.result c.if-self.self c.args.n (since c.edge_for-self-inside.result c.args.ts) c.args.wire c.from.result c.args.access c.self.invariant.rise first c.from.ensures
          (λ some. let lo : old.lo ≡ c.args.self.now.lo = ap (λ v. v.lo) c.self.view_is in let hi : old.hi ≡ c.args.self.now.hi = ap (λ v. v.hi) c.self.view_is in c.requires.next (omega (arith, some)) ∙ sym hi) taken;
      small = omega (arith, c.requires.small);
      few = omega (arith, c.from.ensures, taken.total, c.requires.few, ap (λ v. v.total) c.self.view_is);
      room = omega (arith, taken.capacity, taken.room, c.self.invariant.room);
      times = taken_times old new c.edge_for-self-inside.result c.if-self.self c.args.n (since c.edge_for-self-inside.result c.args.ts) c.args.access (since_small c.edge_for-self-inside.result c.args.ts) c.self.invariant.times taken;
    }

pub returns-clause-step : goal.returns-clause-step
returns-clause-step c =
    let old = c.self.inside in
    let new = c.if-access.self-inside in
    let first : c.if-self.self ≡ (if old.lo == old.hi then c.args.n else old.lo) = elim c.if-self.branch [ then-self w ↦ grind (arith, nat_tests) | else-self w ↦ grind (arith, nat_tests) ] in
    let taken : IsTaken old new c.edge_for-self-inside.result c.if-self.self c.args.n (since c.edge_for-self-inside.result c.args.ts) c.args.access = elim c.if-access.branch [
      | then-access w ↦ taken_point old new w.push.new.self c.edge_for-self-inside.result c.if-self.self c.args.n w.since.result (since c.edge_for-self-inside.result c.args.ts) c.args.access w.since.ensures w.self-inside-is w.if-access.true w.push.ensures
      | else-access w ↦ taken_other old new c.edge_for-self-inside.result c.if-self.self c.args.n (since c.edge_for-self-inside.result c.args.ts) c.args.access w.self-inside-is w.if-access.false
    ] in
    taken_is old new c.edge_for-self-inside.result c.if-self.self c.args.n c.args.ts c.args.wire c.from.result c.args.access (omega arith) (omega arith) c.self.invariant.rise c.edge_for-self-inside.ensures first c.from.ensures taken
    ∙ ap (λ v. pushed v c.args.n c.args.ts c.args.wire c.args.access) c.self.view_is

pub returns-clause-stands : goal.returns-clause-stands
returns-clause-stands c = λ marks h is_n is_ts is_wire is_access stood.
    subst (λ (v : Seen). StandsFor v (marks ++ h ∷ [])) (sym (returns-clause-step c))
    (pushed_stands c.args.self.now c.args.n c.args.ts c.args.wire c.args.access marks h c.requires.next is_n is_ts is_wire is_access stood)
