-- The spans while points come and go, and what they tell of the points.
use Rattle.std.proofs.Common.{◌≡◌, ℕ, ◌+◌, ◌-◌, ◌*◌, ◌/◌, ◌<◌, ◌≤◌, ◌⊎◌, List, [], ◌∷◌, ◌++◌, length, min, get_or, take, drop, inl, inr, sym, ◌∙◌, ap, subst, length-append, length-drop, get_or-drop, lt_of_not-le, arith}
use Rattle.std.proofs.lemmas.Bool.{cases_lt}
use Rattle.std.proofs.lemmas.List.{get_or_append_left, get_or_push, take_min}
use Rattle.channel_cache.specs.declared.{access_index.point.Ask.Ask, access_index.point.Point.Point, access_index.span.Span.Span}
use Rattle.channel_cache.specs.access_index.{start_of, IsIn, Reaches, Spanned, IsNoted}
use Rattle.channel_cache.proofs.access_index.Choosing.{no_point, start_passed}

in_same : (s t : Span) (ts : ℕ) → s ≡ t → IsIn s ts → IsIn t ts
in_same s t ts same within = subst (λ (u : Span). IsIn u ts) same within

-- ---- a point comes
pushed_within : (gone : ℕ) (old new : List Span) (ps : List Point) (p e : Point) (d : Span) (j : ℕ) → Spanned gone old ps → IsNoted (gone + length ps) p.ts old new → j ≤ length ps → (j < length ps) ⊎ (length ps ≤ j)
    → IsIn (get_or new ((gone + j) / 64) d) (get_or (ps ++ p ∷ []) j e).ts
pushed_within gone old new ps p e d j spanned noted some (inl below) =
    let all : gone + length ps ≤ 64 * length old = spanned.all in
    subst (λ (q : Point). IsIn (get_or new ((gone + j) / 64) d) q.ts) (sym (get_or_append_left ps (p ∷ []) e j below))
    (noted.others ((gone + j) / 64) d (get_or ps j e).ts (omega arith) (spanned.within j d e below))
pushed_within gone old new ps p e d j spanned noted some (inr from) =
    let same : length ps ≡ j = omega arith in
    subst (λ (q : Point). IsIn (get_or new ((gone + j) / 64) d) q.ts) (sym (get_or_push ps p e j same))
    (subst (λ (n : ℕ). IsIn (get_or new ((gone + n) / 64) d) p.ts) same (noted.own d))

pub spanned_push : (gone : ℕ) (old new : List Span) (ps : List Point) (p : Point) → Spanned gone old ps → IsNoted (gone + length ps) p.ts old new → Spanned gone new (ps ++ p ∷ [])
spanned_push gone old new ps p spanned noted =
    record {
      few = spanned.few;
      all = omega (arith, length-append ps (p ∷ []), noted.number);
      tight = omega (arith, length-append ps (p ∷ []), noted.number);
      within = λ j d e some. pushed_within gone old new ps p e d j spanned noted (omega (arith, length-append ps (p ∷ []))) (cases_lt j (length ps));
    }

-- ---- the first point goes
-- its span stays
pub spanned_rest : (gone : ℕ) (spans : List Span) (ps : List Point) → gone + 1 < 64 → 0 < length ps → Spanned gone spans ps → Spanned (gone + 1) spans (drop 1 ps)
spanned_rest gone spans ps few some spanned =
    record {
      few = few;
      all = omega (arith, length-drop 1 ps, spanned.all);
      tight = omega (arith, length-drop 1 ps, spanned.tight);
      within = λ j d e below.
          let same : (gone + (1 + j)) / 64 ≡ (gone + 1 + j) / 64 = ap (λ n. n / 64) (omega arith) in
          subst (λ (q : Point). IsIn (get_or spans ((gone + 1 + j) / 64) d) q.ts) (sym (get_or-drop 1 ps j e))
          (in_same (get_or spans ((gone + (1 + j)) / 64) d) (get_or spans ((gone + 1 + j) / 64) d) (get_or ps (1 + j) e).ts (ap (λ (n : ℕ). get_or spans n d) same) (spanned.within (1 + j) d e (omega (arith, length-drop 1 ps))));
    }

-- its span goes too
pub spanned_next : (gone : ℕ) (spans : List Span) (ps : List Point) → gone + 1 ≡ 64 → 0 < length ps → Spanned gone spans ps → Spanned 0 (drop 1 spans) (drop 1 ps)
spanned_next gone spans ps last some spanned =
    record {
      few = omega arith;
      all = omega (arith, length-drop 1 ps, length-drop 1 spans, spanned.all);
      tight = omega (arith, length-drop 1 ps, length-drop 1 spans, spanned.all, spanned.tight);
      within = λ j d e below.
          let next : (gone + (1 + j)) / 64 ≡ 1 + (0 + j) / 64 = omega arith in
          subst (λ (q : Point). IsIn (get_or (drop 1 spans) ((0 + j) / 64) d) q.ts) (sym (get_or-drop 1 ps j e))
          (in_same (get_or spans ((gone + (1 + j)) / 64) d) (get_or (drop 1 spans) ((0 + j) / 64) d) (get_or ps (1 + j) e).ts
          (ap (λ (n : ℕ). get_or spans n d) next ∙ sym (get_or-drop 1 spans ((0 + j) / 64) d)) (spanned.within (1 + j) d e (omega (arith, length-drop 1 ps))));
    }

-- ---- the search
-- the points of a span, in front of which are those of the spans before it
pub span_start : (gone place : ℕ) (spans : List Span) (ps : List Point) → Spanned gone spans ps → place < length spans → place * 64 - gone ≤ min ((place + 1) * 64 - gone) (length ps)
span_start gone place spans ps spanned some = omega (arith, spanned.few, spanned.tight)

-- where no timestamp of a span is old enough, no point of it is
pub span_passed : (a : Ask) (gone place : ℕ) (spans : List Span) (s : Span) (ps : List Point) → Spanned gone spans ps → place < length spans → s ≡ get_or spans place s → (Reaches s a.last a.min_ms → ⊥)
    → start_of a (take (place * 64 - gone) ps) ≡ start_of a (take (min ((place + 1) * 64 - gone) (length ps)) ps)
span_passed a gone place spans s ps spanned some is young =
    let start = place * 64 - gone in
    let end = min ((place + 1) * 64 - gone) (length ps) in
    let ordered : start ≤ end = span_start gone place spans ps spanned some in
    let whole : start + (end - start) ≡ end = omega arith in
    start_passed a ps start (end - start) (omega arith) (λ j from below.
    let here : (gone + j) / 64 ≡ place = omega arith in
    let in_span = in_same (get_or spans ((gone + j) / 64) s) s (get_or ps j no_point).ts (ap (λ (n : ℕ). get_or spans n s) here ∙ sym is) (spanned.within j s no_point (omega arith)) in
    lt_of_not-le (λ old. young ((get_or ps j no_point).ts, in_span, old)))
    ∙ ap (λ (n : ℕ). start_of a (take n ps)) whole

-- behind it are the points of the spans that were passed over
pub span_kept : (a : Ask) (gone place : ℕ) (ps : List Point) → 0 < place → start_of a (take (min ((place - 1 + 1) * 64 - gone) (length ps)) ps) ≡ start_of a (take (place * 64 - gone) ps)
span_kept a gone place ps some =
    let same : (place - 1 + 1) * 64 - gone ≡ place * 64 - gone = omega arith in
    ap (start_of a) (take_min ((place - 1 + 1) * 64 - gone) ps) ∙ ap (λ (n : ℕ). start_of a (take n ps)) same
