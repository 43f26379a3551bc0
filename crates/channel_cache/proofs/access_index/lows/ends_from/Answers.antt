use Rattle.std.proofs.Common.{◌≡◌, ℕ, ◌-◌, ◌<◌, length, get_or, ◌∙◌, ap, arith}
use Rattle.std.proofs.lemmas.Bool.{leb-false}
use Rattle.std.proofs.lemmas.List.{get_or_default}
use Rattle.channel_cache.specs.declared.access_index.point.Point.{Point}
use Rattle.channel_cache.proofs.access_index.Lowest.{under_risen}
use Rattle.channel_cache.proofs.access_index.lows.ends_from.Goals as goal

pub returns-in-Some-clause-none : goal.returns-in-Some-clause-none
returns-in-Some-clause-none c = λ young.
    let d = c.args.lows.now in
    let p = c.in-Some.point.now in
    let less : p.ts < c.args.ts = leb-false c.args.ts p.ts young in
    let is : p ≡ get_or d.items (length d.items - 1) p = c.in-Some.ensures.lookup ∙ ap (λ (n : ℕ). get_or d.items (n - 1) p) d.ok.0 in
    under_risen c.args.ts d.items c.requires (λ e some. let same : p ≡ get_or d.items (length d.items - 1) e = is ∙ get_or_default d.items (length d.items - 1) p e (omega arith) in omega (arith, less, ap (λ (q : Point). q.ts) same))
