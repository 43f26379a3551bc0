use Rattle.std.proofs.Common.{◌≡◌, ℕ, ◌&&◌, cond, eqb, List, Some, refl, subst}
use Rattle.meet_loop.specs.world_net.{at_pair}
use Rattle.meet_loop.proofs.world_net.Pairs.{entry_more}
use Rattle.meet_loop.proofs.world_net.places.Places.add.Goals as goal

pub returns : goal.returns
returns c = λ i m.
    let old = c.self.inside.places.entries in
    let new = c.insert.new.self.entries in
    subst (λ (es : List ((ℕ × ℕ) × ℕ)). at_pair new i m ≡ cond (eqb c.args.id i && eqb c.args.client m) (Some c.args.place) (at_pair es i m)) c.self.view_is
    (entry_more old new c.args.id c.args.client i m _ c.args.place (c.in_ok-insert.ensures.updates.0 (i, m)) refl)
