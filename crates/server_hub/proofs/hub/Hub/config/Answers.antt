use Rattle.std.proofs.Common.{Some, sym, ap, ◌∙◌, subst, arith}
use Rattle.server_hub.specs.session_core.Seen as cores
use Rattle.server_hub.specs.{StandsFor}
use Rattle.server_hub.specs.Seen.{Seen}
use Rattle.server_hub.proofs.Keeping.{place_within, none_is, none_found, found_settings, settings_served}
use Rattle.server_hub.proofs.hub.Hub.config.Goals as goal

pub returns-in_err-place-clause-value : goal.returns-in_err-place-clause-value
returns-in_err-place-clause-value c =
    rw (← c.self.view_is, c.from_residual.ensures) (sym (none_is _ _ _ _ c.self.invariant _ c.deref.ensures.value c.args.id c.in_err-place.ensures.none).0)

pub returns-in_err-place-clause-stands : goal.returns-in_err-place-clause-stands
returns-in_err-place-clause-stands c = λ channels s.
    rw (
      c.from_residual.ensures,
      none_found _ _ _ _ c.self.invariant _ c.deref.ensures.value c.args.id c.in_err-place.ensures.none channels
          (subst (λ (v : Seen). StandsFor v channels) (sym c.self.view_is) s),
    )

pub index-requires : goal.index-requires
index-requires c = omega (arith, place_within _ _ _ _ c.self.invariant _ c.deref.ensures.value c.args.id c.in_ok-place.place c.in_ok-place.ensures.there, c.self.inside.cores.ok.0)

pub returns-clause-value : goal.returns-clause-value
returns-clause-value c =
    rw (← c.self.view_is, found_settings _ _ _ _ c.self.invariant _ c.deref.ensures.value c.args.id c.in_ok-place.place c.index.result.now c.in_ok-place.ensures.there)
    (ap Some (c.config.ensures ∙ ap (λ (core : cores.Seen). core.settings) c.index.ensures))

pub returns-clause-stands : goal.returns-clause-stands
returns-clause-stands c = λ channels s.
    ap Some (c.config.ensures ∙ ap (λ (core : cores.Seen). core.settings) c.index.ensures)
    ∙ sym (found_settings _ _ _ _ c.self.invariant _ c.deref.ensures.value c.args.id c.in_ok-place.place c.index.result.now c.in_ok-place.ensures.there)
    ∙ settings_served c.args.id c.self.inside.cores.items channels (subst (λ (v : Seen). StandsFor v channels) (sym c.self.view_is) s)
