use Rattle.std.proofs.Common.{◌∷◌, [], List, length, sym, ◌∙◌, ap, subst, length-append, arith}
use Rattle.channel_cache.specs.declared.access_index.point.Point.{Point}
use Rattle.channel_cache.specs.access_index.{under, RiseLast}
use Rattle.channel_cache.proofs.access_index.Lowest.{risen_without, without_last, under_last}
use Rattle.channel_cache.proofs.access_index.lows.drop_from.Goals as goal

pub loop-lows-preserved : goal.loop-lows-preserved
loop-lows-preserved c =
    let d = c.loop-lows.lows in
    let s = c.ends_from.ensures.some c.loop-lows-test.true in
    let last = c.pop_back.ensures.rest ∙ without_last d.items s.0 s.1 _ s.2 d.ok.0 in
    record {
      items = ap (under c.args.ts) last ∙ (under_last c.args.ts d.items s.0 s.1 s.2 s.3 ∙ c.loop-lows.invariant.items);
      risen = subst (λ (ps : List Point). RiseLast (length ps) ps) (sym last) (risen_without d.items s.0 s.1 s.2 c.loop-lows.invariant.risen);
      few = omega (arith, ap length last, ap length s.2, length-append s.0 (s.1 ∷ []), c.loop-lows.invariant.few);
      capacity = c.pop_back.ensures.capacity ∙ c.loop-lows.invariant.capacity;
    }

pub loop-lows-smaller : goal.loop-lows-smaller
loop-lows-smaller c =
    let d = c.loop-lows.lows in
    let s = c.ends_from.ensures.some c.loop-lows-test.true in
    let last = c.pop_back.ensures.rest ∙ without_last d.items s.0 s.1 _ s.2 d.ok.0 in
    omega (arith, c.pop_back.new.self.ok.0, d.ok.0, ap length last, ap length s.2, length-append s.0 (s.1 ∷ []))

pub returns-clause-items : goal.returns-clause-items
returns-clause-items c = sym (c.ends_from.ensures.none c.loop-lows-test.false) ∙ c.loop-lows.invariant.items
