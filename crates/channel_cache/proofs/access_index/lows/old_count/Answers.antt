use Rattle.std.proofs.Common.{ℕ, ◌^◌, ◌<◌, ◌∙◌, subst, arith}
use Rattle.channel_cache.proofs.access_index.Halving.{half_young}
use Rattle.channel_cache.proofs.access_index.lows.old_count.Goals as goal

pub loop-low-preserved : goal.loop-low-preserved
loop-low-preserved c =
    let ask = c.args.ask.now in
    let points = c.args.lows.now.items in
    let l = c.loop-low in
    let place = c.place_between-place in
    let middle = place.result in
    let point = c.index.result.now in
    let young = subst (λ (n : ℕ). n < ask.min_ms) c.age_ms.ensures c.if-age_ms-ask.false in
    let small : ask.last < 2 ^ 32 = omega (arith, c.fits-ask) in
    let all = c.args.lows.now.ok.0 in
    record {
      ordered = place.ensures.least;
      within = omega (arith, l.invariant.within, place.ensures.most);
      old = l.invariant.old;
      same = half_young ask points middle l.high point small c.requires.risen c.requires.past (omega (arith, place.ensures.most)) (omega (arith, l.invariant.within, all))
          (omega (arith, l.invariant.within, all, place.ensures.most)) c.index.ensures young
          ∙ l.invariant.same;
    }
