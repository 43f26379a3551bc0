use Rattle.std.proofs.Common.{ℕ, ◌+◌, ◌<◌, ◌∷◌, sym, ◌∙◌, ap, subst, arith}
use Rattle.rams_model.specs.Packets.{numbered}
use Rattle.reckoning.specs.ext_seq.{Seen, noted, moved, IsWithin, StandsFor}
use Rattle.reckoning.proofs.ext_seq.Noting.{rises, stands_after}
use Rattle.reckoning.proofs.ext_seq.numbering.Numbering.note.Goals as goal

pub returns-clause-rises : goal.returns-clause-rises
returns-clause-rises c = λ packets within.
    let v = c.args.self.now in
    let low : c.args.seq < 65536 = omega (arith, c.ranges.seq) in
    subst (λ (w : Seen). IsWithin (packets + 1) w.greatest) (sym (c.advance.ensures.step ∙ ap (λ x. moved v c.args.seq x) c.advance.ensures.number)) (rises v c.args.seq packets low within)

pub returns-clause-stands : goal.returns-clause-stands
returns-clause-stands c = λ window arrivals a is stood.
    let v = c.args.self.now in
    let low : a.sequence < 65536 = omega (arith, is, c.ranges.seq) in
    let after = subst (λ (s : ℕ). StandsFor (moved v s (noted (numbered v.greatest v.kept s))) window (a ∷ arrivals)) is (stands_after v window arrivals a low stood) in
    subst (λ (w : Seen). StandsFor w window (a ∷ arrivals)) (sym (c.advance.ensures.step ∙ ap (λ x. moved v c.args.seq x) c.advance.ensures.number)) after
