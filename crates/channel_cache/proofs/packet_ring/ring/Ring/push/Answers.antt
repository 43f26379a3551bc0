use Rattle.std.proofs.Common.{◌∷◌, [], ◌++◌, ap, sym, subst, ◌∙◌}
use Rattle.circular_buffer.specs.Buffer.{buffer}
use Rattle.channel_cache.specs.declared.packet_ring.ring.Ring.TheInside.{Inside}
use Rattle.channel_cache.specs.packet_ring.{IsRing, StandsFor}
use Rattle.channel_cache.specs.packet_ring.Seen.{Seen}
use Rattle.channel_cache.proofs.packet_ring.Ends.{pushed_stands}
use Rattle.channel_cache.proofs.packet_ring.Following.{pushed_is_ring}
use Rattle.channel_cache.proofs.packet_ring.Putting.{shown, put_behind, put_alone, handed_behind, handed_alone}
use Rattle.channel_cache.proofs.packet_ring.ring.Ring.push.Goals as goal
use Rattle.channel_cache.proofs.packet_ring.ring.Ring.push.Goals.{then-held-hi, else-held-hi}

pub returns-clause-step : goal.returns-clause-step
returns-clause-step c =
    let v = c.args.self.now in
    let before = c.if-held-hi.self-inside.packets in
    let after = c.push_back.new.self in
    elim c.if-held-hi.branch [
      | then-held-hi w ↦ put_alone v c.args.held before after c.hi.ensures.ring.room (λ next. w.if-held-hi.true (next ∙ sym c.hi.ensures.value))
          (ap (λ (i : Inside). i.packets) w.self-inside-is ∙ (w.clear.ensures ∙ ap (λ (u : Seen). buffer [] u.capacity) c.self.view_is)) c.push_back.ensures.items
      | else-held-hi w ↦ put_behind v c.args.held before after (w.if-held-hi.false ∙ c.hi.ensures.value)
          (ap (λ (i : Inside). shown i.packets) w.self-inside-is ∙ c.self.view_is) c.push_back.ensures.items
    ]

pub returns-clause-gone : goal.returns-clause-gone
returns-clause-gone c =
    let v = c.args.self.now in
    let before = c.if-held-hi.self-inside.packets in
    c.push_back.ensures.value ∙ elim c.if-held-hi.branch [
      | then-held-hi w ↦ handed_alone v c.args.held before c.hi.ensures.ring.room (λ next. w.if-held-hi.true (next ∙ sym c.hi.ensures.value))
          (ap (λ (i : Inside). i.packets) w.self-inside-is ∙ (w.clear.ensures ∙ ap (λ (u : Seen). buffer [] u.capacity) c.self.view_is))
      | else-held-hi w ↦ handed_behind v c.args.held before c.hi.ensures.ring.room (w.if-held-hi.false ∙ c.hi.ensures.value)
          (ap (λ (i : Inside). shown i.packets) w.self-inside-is ∙ c.self.view_is)
    ]

pub invariant_of-self : goal.invariant_of-self
invariant_of-self c =
    subst (λ (v : Seen). IsRing v) (sym (returns-clause-step c)) (pushed_is_ring c.args.self.now c.args.held c.hi.ensures.ring c.requires.small)

pub returns-clause-ring : goal.returns-clause-ring
returns-clause-ring c = invariant_of-self c

pub returns-clause-stands : goal.returns-clause-stands
returns-clause-stands c = λ source stood.
    subst (λ (v : Seen). StandsFor v (source ++ c.args.held ∷ [])) (sym (returns-clause-step c)) (pushed_stands c.args.self.now source c.args.held c.hi.ensures.ring.room stood)
