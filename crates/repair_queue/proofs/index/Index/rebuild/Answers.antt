use Rattle.std.proofs.Common.{◌≡◌, ◌≤◌, ◌+◌, List, ◌++◌, length, take, length-append, ap, sym, ◌∙◌, subst, arith}
use Rattle.rams_model.specs.Service.{Wanted}
use Rattle.repair_queue.specs.declared.wanted.TheConstants.{MOST_PENDING}
use Rattle.repair_queue.specs.{all_of, Indexes}
use Rattle.repair_queue.proofs.Pieces.{all_more, all_within}
use Rattle.repair_queue.proofs.index.Index.rebuild.Goals as goal

pub loop-piece-preserved : goal.loop-piece-preserved
loop-piece-preserved c =
    let ps = c.parts.result.0.now in
    let i = c.loop-piece.piece-index in
    let p = c.pending.result.now in
    let before = all_of (take i ps) in
    let more : all_of (take (i + 1) ps) ≡ before ++ p = all_more ps i c.piece-item.result c.loop-piece-test.true c.piece-item.is ∙ ap (λ (l : List Wanted). before ++ l) (sym c.pending.ensures) in
    let few : length (before ++ p) ≤ MOST_PENDING =
    omega (arith, length-append before p, all_within ps i c.piece-item.result c.loop-piece-test.true c.piece-item.is, ap length c.pending.ensures, length-append (all_of ps) c.parts.result.1.now, ap length c.parts.ensures, c.requires) in
    subst (Indexes c.add_all.new.self) (sym more) (c.add_all.ensures before few c.loop-piece.invariant)
