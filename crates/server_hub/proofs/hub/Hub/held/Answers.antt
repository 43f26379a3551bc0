use Rattle.std.proofs.Common.{sym, subst, arith}
use Rattle.server_hub.specs.{StandsFor}
use Rattle.server_hub.specs.Seen.{Seen}
use Rattle.server_hub.proofs.Finding.{held_found}
use Rattle.server_hub.proofs.Keeping.{place_within, none_found, found_channel}
use Rattle.server_hub.proofs.hub.Hub.held.Goals as goal

pub returns-in_err-place : goal.returns-in_err-place
returns-in_err-place c = λ channels s.
    rw (
      c.from_residual.ensures,
      none_found _ _ _ _ c.self.invariant _ c.deref.ensures.value c.args.id c.in_err-place.ensures.none channels
          (subst (λ (v : Seen). StandsFor v channels) (sym c.self.view_is) s),
    )

pub index-requires : goal.index-requires
index-requires c = omega (arith, place_within _ _ _ _ c.self.invariant _ c.deref.ensures.value c.args.id c.in_ok-place.place c.in_ok-place.ensures.there, c.self.inside.cores.ok.0)

pub returns : goal.returns
returns c = λ channels s.
    held_found c.args.id c.args.n c.index.result.now _ channels _
    (found_channel _ _ _ _ c.self.invariant _ c.deref.ensures.value c.args.id c.in_ok-place.place c.index.result.now c.in_ok-place.ensures.there channels
    (subst (λ (v : Seen). StandsFor v channels) (sym c.self.view_is) s))
    c.index.ensures c.held.ensures
