use Rattle.std.proofs.Common.{◌≡◌, ℕ, ◌-◌, ◌^◌, ◌<◌, ◌≤◌, true, List, [], ◌∷◌, ◌++◌, take, slice_range, sym, ◌∙◌, ap, subst, append_assoc}
use Rattle.std.specs.VecDeque.Iter.{deque_iter_rest}
use Rattle.channel_cache.specs.declared.access_index.point.Point.{Point}
use Rattle.channel_cache.specs.access_index.{start_unless, start_of, RiseIn}
use Rattle.channel_cache.proofs.access_index.Choosing.{start_old, start_young, start_full, before_last, rise_front, rise_take, take_range}
use Rattle.channel_cache.proofs.access_index.points.Points.look.Goals as goal
use Rattle.channel_cache.proofs.access_index.points.Points.look.Goals.{In-Some}

-- the points in front of the one that is looked at
abbrev front : In-Some → List Point
front c = take c.args.start c.args.self.now.items ++ deque_iter_rest c.next.new.self.iter

-- those that were left have it as their last
joined : (c : In-Some) → take c.args.start c.args.self.now.items ++ deque_iter_rest c.loop-point.point-iterator.iter ≡ front c ++ c.in-Some.point.now ∷ []
joined c =
    let first = take c.args.start c.args.self.now.items in
    ap (λ ps. first ++ ps) c.in-Some.ensures.steps ∙ sym (append_assoc first (deque_iter_rest c.next.new.self.iter) (c.in-Some.point.now ∷ []))

same : (c : In-Some) → start_of c.args.ask.now (front c ++ c.in-Some.point.now ∷ []) ≡ start_of c.args.ask.now (take c.args.end c.args.self.now.items)
same c = sym (ap (start_of c.args.ask.now) (joined c)) ∙ c.loop-point.invariant.same

rise : (c : In-Some) → RiseIn 0 (2 ^ 62) 0 c.args.ask.now.total (front c ++ c.in-Some.point.now ∷ [])
rise c = subst (λ (ps : List Point). RiseIn 0 (2 ^ 62) 0 c.args.ask.now.total ps) (joined c) c.loop-point.invariant.rise

before : (c : In-Some) → c.in-Some.point.now.before ≤ c.args.ask.now.total
before c = (before_last 0 (2 ^ 62) 0 c.args.ask.now.total (front c) c.in-Some.point.now (rise c)).1

pub loop-point-init : goal.loop-point-init
loop-point-init c =
    let points = c.args.self.now.items in
    let items : c.self.inside.points.items ≡ points = ap (λ r. r.items) c.self.view_is in
    let rest : deque_iter_rest c.into_iter-point-iterator.result.iter ≡ slice_range c.self.inside.points.items c.args.start c.args.end = cc in
    let whole = ap (λ ps. take c.args.start points ++ ps) (rest ∙ ap (λ ps. slice_range ps c.args.start c.args.end) items) ∙ take_range points c.args.start c.args.end c.requires.ordered in
    record {
      same = ap (start_of c.args.ask.now) whole;
      rise = subst (λ (ps : List Point). RiseIn 0 (2 ^ 62) 0 c.args.ask.now.total ps) (sym whole) (rise_take 0 (2 ^ 62) 0 c.args.ask.now.total c.args.end points c.requires.rise);
    }

pub leaves_room-requires : goal.leaves_room-requires
leaves_room-requires c = before (goal.at.leaves_room-requires c).In-Some

pub returns-then-not-leaves_room-clause-some : goal.returns-then-not-leaves_room-clause-some
returns-then-not-leaves_room-clause-some c =
    let i = (goal.at.returns-then-not-leaves_room-clause-some c).In-Some in
    sym (start_full c.args.ask.now 0 (2 ^ 62) 0 (front i) c.in-Some.point.now (rise i) (sym c.leaves_room.ensures ∙ c.if-not-leaves_room.true)) ∙ same i

pub start_at-requires : goal.start_at-requires
start_at-requires c = before (goal.at.start_at-requires c).In-Some

pub returns-then-age-ask-clause-some : goal.returns-then-age-ask-clause-some
returns-then-age-ask-clause-some c =
    let i = (goal.at.returns-then-age-ask-clause-some c).In-Some in
    let ask = c.args.ask.now in
    let point = c.in-Some.point.now in
    let old = subst (λ (n : ℕ). ask.min_ms ≤ n) c.age_ms-age.ensures c.if-age-ask.true in
    c.start_at.ensures
    ∙ (ap (λ (n : ℕ). start_unless ask.max_ms n point.n (ask.total - point.before)) c.age_ms-age.ensures
    ∙ (sym (start_old ask (front i) point (sym c.leaves_room.ensures ∙ c.if-not-leaves_room.false) old) ∙ same i))

pub loop-point-preserved : goal.loop-point-preserved
loop-point-preserved c =
    let i = (goal.at.loop-point-preserved c).In-Some in
    let ask = c.args.ask.now in
    let point = c.in-Some.point.now in
    let young = subst (λ (n : ℕ). n < ask.min_ms) c.age_ms-age.ensures c.if-age-ask.false in
    record {
      same = sym (start_young ask (front i) point true (sym c.leaves_room.ensures ∙ c.if-not-leaves_room.false) young) ∙ same i;
      rise = rise_front 0 (2 ^ 62) 0 ask.total (front i) (point ∷ []) (rise i);
    }
