use Rattle.std.proofs.Common.{◌≡◌, ℕ, [], ◌∷◌, ◌++◌, Option, sym, subst}
use Rattle.std.specs.Prelude.{MatchOption}
use Rattle.channel_cache.specs.reorder_window.{released, after_release, StandsFor}
use Rattle.channel_cache.specs.reorder_window.Seen.{Seen}
use Rattle.channel_cache.proofs.reorder_window.Standing.{release_stands}
use Rattle.channel_cache.proofs.reorder_window.window.Window.release.Goals as goal

pub returns-clause-stands : goal.returns-clause-stands
returns-clause-stands g c = λ s out stood.
    let v = c.args.self.now in
    subst (λ (w : Seen g.row.T.Denot). MatchOption c.pop_free.result (out ≡ released v.width v.ended s) (λ e. StandsFor w s (out ++ e ∷ []))) (sym c.pop_free.ensures.step)
    (subst (λ (r : Option (ℕ × g.row.T.Denot)). MatchOption r (out ≡ released v.width v.ended s) (λ e. StandsFor (after_release v) s (out ++ e ∷ []))) (sym c.pop_free.ensures.item)
    (release_stands v s out c.pop_free.ensures.was stood))
