use Rattle.std.proofs.Common.{◌≡◌, ◌+◌, ◌^◌, ◌<◌, IfSome, sym, subst}
use Rattle.reckoning.specs.ext_seq.{Seen}
use Rattle.reckoning.proofs.ext_seq.Noting.{IsWithin-either, within_small}
use Rattle.reckoning.proofs.ext_seq.numbering.Numbering.advance.Goals as goal

small_in : (v w : Seen) → w ≡ v → IfSome v.greatest (λ g. g < 2 ^ 62) → IfSome w.greatest (λ g. g < 2 ^ 62)
small_in v w is small = subst (λ (x : Seen). IfSome x.greatest (λ g. g < 2 ^ 62)) (sym is) small

pub invariant_of-self-in-Restart-1 : goal.invariant_of-self-in-Restart-1
invariant_of-self-in-Restart-1 c =
    (c.in-Restart.ensures.within (2 ^ 46) (within_small c.self.inside.greatest c.self.invariant (small_in c.args.self.now _ c.self.view_is c.requires))).0

pub invariant_of-self-in-First : goal.invariant_of-self-in-First
invariant_of-self-in-First c =
    (IsWithin-either (2 ^ 46 + 1) c.in-First.n c.number_of-noted.result c.in-First.is
    (c.number_of-noted.ensures.within (2 ^ 46) (within_small c.self.inside.greatest c.self.invariant (small_in c.args.self.now _ c.self.view_is c.requires)))).0
