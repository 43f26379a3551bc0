use Rattle.std.proofs.Common.{◌≡◌, ◌-◌, ◌^◌, List, [], ◌∷◌, ◌++◌, ◌<◌, length, take, deque_len, refl, sym, ◌∙◌, ap, subst, arith}
use Rattle.channel_cache.specs.declared.access_index.point.Point.{Point}
use Rattle.channel_cache.specs.access_index.{choice_for, start_of, RiseIn, RiseLast, AreAtMost}
use Rattle.channel_cache.proofs.access_index.Choosing.{before_last, take_newest, choice_full}
use Rattle.channel_cache.proofs.access_index.Lowest.{lows_rise, lows_risen, lows_past, lows_start, choice_start}
use Rattle.channel_cache.proofs.access_index.Spanning.{span_passed, span_kept}
use Rattle.channel_cache.proofs.access_index.points.Points.choose.Goals as goal
use Rattle.channel_cache.proofs.access_index.points.Points.choose.Goals.{In-Some}

-- the points in front of the newest
abbrev front : In-Some → List Point
front c = take (deque_len c.self.inside.points - 1) c.self.inside.points.items

joined : (c : In-Some) → c.args.self.now.items ≡ front c ++ c.in-Some.newest.now ∷ []
joined c =
    sym (ap (λ r. r.items) c.self.view_is) ∙ take_newest c.self.inside.points.items (deque_len c.self.inside.points) c.in-Some.newest.now c.self.inside.points.ok.0 (c.in-Some.ensures.variant.0 refl) c.in-Some.ensures.lookup

rise : (c : In-Some) → RiseIn 0 (2 ^ 62) 0 c.args.ask.now.total (front c ++ c.in-Some.newest.now ∷ [])
rise c = subst (λ (ps : List Point). RiseIn 0 (2 ^ 62) 0 c.args.ask.now.total ps) (joined c) c.requires

items : (c : In-Some) → c.self.inside.points.items ≡ c.args.self.now.items
items c = ap (λ r. r.items) c.self.view_is

rise_all : (c : In-Some) → RiseIn 0 (2 ^ 62) 0 c.args.ask.now.total c.self.inside.points.items
rise_all c = subst (λ (ps : List Point). RiseIn 0 (2 ^ 62) 0 c.args.ask.now.total ps) (sym (items c)) c.requires

pub choose_low-requires-clause-rise : goal.choose_low-requires-clause-rise
choose_low-requires-clause-rise c =
    let i = (goal.at.choose_low-requires-clause-rise c).In-Some in
    subst (λ (ps : List Point). RiseIn 0 (2 ^ 62) 0 c.args.ask.now.total ps) (sym c.self.invariant.lows) (lows_rise 0 (2 ^ 62) 0 c.args.ask.now.total c.self.inside.points.items (rise_all i))

pub choose_low-requires-clause-risen : goal.choose_low-requires-clause-risen
choose_low-requires-clause-risen c = subst (λ (ps : List Point). RiseLast (length ps) ps) (sym c.self.invariant.lows) (lows_risen c.self.inside.points.items)

pub choose_low-requires-clause-past : goal.choose_low-requires-clause-past
choose_low-requires-clause-past c =
    let i = c.self.inside in
    let over = c.are_over.ensures c.if-are_over.true i.points.items (sym (c.len.ensures ∙ i.points.ok.0)) c.self.invariant.lids in
    subst (AreAtMost c.args.ask.now.last) (sym c.self.invariant.lows) (lows_past c.args.ask.now.last i.points.items over)

pub returns-then-are_over : goal.returns-then-are_over
returns-then-are_over c =
    let i = (goal.at.returns-then-are_over c).In-Some in
    let ask = c.args.ask.now in
    let points = c.self.inside.points.items in
    let over = c.are_over.ensures c.if-are_over.true points (sym (c.len.ensures ∙ c.self.inside.points.ok.0)) c.self.invariant.lids in
    let small : ask.last < 2 ^ 32 = omega (arith, c.fits-ask) in
    c.choose_low.ensures
    ∙ (ap (start_of ask) c.self.invariant.lows
    ∙ (lows_start ask points small (rise_all i) over
    ∙ (ap (start_of ask) (items i)
    ∙ choice_start ask c.args.self.now.items (front i) c.in-Some.newest.now (joined i) (sym c.leaves_room.ensures ∙ c.if-not-leaves_room.false))))

pub leaves_room-requires : goal.leaves_room-requires
leaves_room-requires c =
    let i = (goal.at.leaves_room-requires c).In-Some in
    (before_last 0 (2 ^ 62) 0 c.args.ask.now.total (front i) c.in-Some.newest.now (rise i)).1

pub returns-then-not-leaves_room : goal.returns-then-not-leaves_room
returns-then-not-leaves_room c =
    let i = (goal.at.returns-then-not-leaves_room c).In-Some in
    sym (ap (choice_for c.args.ask.now) (joined i)
    ∙ choice_full c.args.ask.now 0 (2 ^ 62) 0 (front i) c.in-Some.newest.now (rise i) (sym c.leaves_room.ensures ∙ c.if-not-leaves_room.true))

pub loop-place-preserved : goal.loop-place-preserved
loop-place-preserved c =
    let i = c.self.inside in
    let ask = c.args.ask.now in
    let some : c.loop-place.place - 1 < length i.spans.items = omega (arith, c.loop-place-test.true, c.loop-place.invariant.within, i.spans.ok.0) in
    record {
      within = omega (arith, c.loop-place.invariant.within);
      same =
          span_passed ask i.gone (c.loop-place.place - 1) i.spans.items c.index.result.now i.points.items c.self.invariant.spanned some c.index.ensures (λ reached. let yes = c.reaches.ensures.1 reached in cc)
          ∙ (span_kept ask i.gone c.loop-place.place i.points.items c.loop-place-test.true ∙ c.loop-place.invariant.same);
    }
