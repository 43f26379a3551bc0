use Rattle.std.proofs.Common.{◌≡◌, ℕ, ◌-◌, slice_get, option_copied, ap, sym, ◌∙◌, arith}
use Rattle.rams_model.specs.Packets.{lo}
use Rattle.channel_cache.specs.packet_ring.Seen.{Seen}
use Rattle.channel_cache.proofs.packet_ring.Following.{found_at, none_below, lent_is_there, lent_has_its_number}
use Rattle.channel_cache.proofs.packet_ring.ring.Ring.get.Goals as goal

pub returns-in_err-place-clause-value : goal.returns-in_err-place-clause-value
returns-in_err-place-clause-value c =
    let below = none_below c.args.self.now c.args.n c.lo.ensures.ring (omega (arith, c.lo.ensures.value, c.in_err-place.ensures)) in
    ap option_copied c.from_residual.ensures ∙ sym below

pub returns-clause-value : goal.returns-clause-value
returns-clause-value c =
    let v = c.args.self.now in
    let place : c.in_ok-place.place ≡ c.args.n - lo v.held = c.in_ok-place.ensures.1 ∙ ap (λ (n : ℕ). c.args.n - n) c.lo.ensures.value in
    c.get.ensures ∙ (ap (λ (u : Seen). slice_get u.held c.in_ok-place.place) c.self.view_is
    ∙ (ap (λ (k : ℕ). slice_get v.held k) place ∙ found_at v c.args.n c.lo.ensures.ring (omega (arith, c.in_ok-place.ensures.0, c.lo.ensures.value))))

pub returns-clause-number : goal.returns-clause-number
returns-clause-number c = lent_has_its_number c.get.result c.args.n c.args.self.now.held (returns-clause-value c)

pub returns-clause-within : goal.returns-clause-within
returns-clause-within c =
    let there = lent_is_there c.get.result c.args.self.now.held c.in_ok-place.place (c.get.ensures ∙ ap (λ (u : Seen). slice_get u.held c.in_ok-place.place) c.self.view_is) in
    let ring = c.lo.ensures.ring in (
      λ some. (omega (arith, c.in_ok-place.ensures.0, c.lo.ensures.value), omega (arith, there.0 some, c.in_ok-place.ensures.0, c.in_ok-place.ensures.1, c.lo.ensures.value, ring.ends)),
      λ within. there.1 (omega (arith, within.0, within.1, c.in_ok-place.ensures.0, c.in_ok-place.ensures.1, c.lo.ensures.value, ring.ends)),
    )
