use Rattle.std.proofs.Common.{sym, subst, arith}
use Rattle.server_hub.specs.{StandsFor}
use Rattle.server_hub.specs.Seen.{Seen}
use Rattle.server_hub.proofs.Finding.{hi_found}
use Rattle.server_hub.proofs.Keeping.{place_within, none_is, one_is, none_found, found_channel}
use Rattle.server_hub.proofs.hub.Hub.hi.Goals as goal

pub returns-in_err-place-clause-there : goal.returns-in_err-place-clause-there
returns-in_err-place-clause-there c =
    rw (← c.self.view_is, c.from_residual.ensures) (sym (none_is _ _ _ _ c.self.invariant _ c.deref.ensures.value c.args.id c.in_err-place.ensures.none).1)

pub returns-in_err-place-clause-stands : goal.returns-in_err-place-clause-stands
returns-in_err-place-clause-stands c = λ channels s.
    rw (
      c.from_residual.ensures,
      none_found _ _ _ _ c.self.invariant _ c.deref.ensures.value c.args.id c.in_err-place.ensures.none channels
          (subst (λ (v : Seen). StandsFor v channels) (sym c.self.view_is) s),
    )

pub index-requires : goal.index-requires
index-requires c = omega (arith, place_within _ _ _ _ c.self.invariant _ c.deref.ensures.value c.args.id c.in_ok-place.place c.in_ok-place.ensures.there, c.self.inside.cores.ok.0)

pub returns-clause-there : goal.returns-clause-there
returns-clause-there c = rw (← c.self.view_is) (sym (one_is _ _ _ _ c.self.invariant _ c.deref.ensures.value c.args.id c.in_ok-place.place c.in_ok-place.ensures.there).1)

pub returns-clause-stands : goal.returns-clause-stands
returns-clause-stands c = λ channels s.
    hi_found c.args.id c.index.result.now _ channels c.hi.result
    (found_channel _ _ _ _ c.self.invariant _ c.deref.ensures.value c.args.id c.in_ok-place.place c.index.result.now c.in_ok-place.ensures.there channels
    (subst (λ (v : Seen). StandsFor v channels) (sym c.self.view_is) s))
    c.index.ensures c.hi.ensures
