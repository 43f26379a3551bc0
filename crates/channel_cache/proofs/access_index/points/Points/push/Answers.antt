use Rattle.std.proofs.Common.{ℕ, ◌+◌, ◌++◌, ◌∷◌, [], List, length, refl, sym, ap, ◌∙◌, subst, arith}
use Rattle.channel_cache.specs.access_index.{IsNoted, RiseLast, lows_of, under}
use Rattle.channel_cache.specs.declared.access_index.point.Point.{Point}
use Rattle.channel_cache.proofs.access_index.Lowest.{lows_risen, lows_few, lows_more}
use Rattle.channel_cache.proofs.access_index.Spanning.{spanned_push}
use Rattle.channel_cache.proofs.access_index.points.Points.push.Goals as goal

pub push_low-requires-clause-risen : goal.push_low-requires-clause-risen
push_low-requires-clause-risen c =
    let i = c.self.inside in subst (λ (ps : List Point). RiseLast (length ps) ps) (sym c.self.invariant.lows) (lows_risen i.points.items)

pub push_low-requires-clause-room : goal.push_low-requires-clause-room
push_low-requires-clause-room c =
    let i = c.self.inside in
    omega (arith, ap length c.self.invariant.lows, lows_few i.points.items, c.self.invariant.lows_room, c.requires, ap (λ r. length r.items) c.self.view_is, ap (λ r. r.capacity) c.self.view_is)

pub invariant_of-self : goal.invariant_of-self
invariant_of-self c =
    let i = c.self.inside in
    let p = c.args.point in
    let count = c.len.ensures ∙ i.points.ok.0 in
    let noted = subst (λ (n : ℕ). IsNoted (i.gone + n) p.ts i.spans.items c.note.new.spans.items) count c.note.ensures.noted in
    record {
      spanned = rw c.push_back_reserved.ensures.items (spanned_push i.gone i.spans.items c.note.new.spans.items i.points.items p c.self.invariant.spanned noted);
      room = omega (arith, c.self.invariant.room, c.note.ensures.capacity, c.push_back_reserved.ensures.capacity);
      lows = c.push_low.ensures.items
          ∙ (ap (λ (ps : List Point). under p.ts ps ++ p ∷ []) c.self.invariant.lows ∙ (sym (lows_more i.points.items p) ∙ ap (λ (ps : List Point). lows_of ps) (sym c.push_back_reserved.ensures.items)));
      lows_room = omega (arith, c.self.invariant.lows_room, c.push_low.ensures.capacity, c.push_back_reserved.ensures.capacity);
      lids = rw c.push_back_reserved.ensures.items (c.with-self-inside.ensures i.points.items p refl c.self.invariant.lids);
    }
