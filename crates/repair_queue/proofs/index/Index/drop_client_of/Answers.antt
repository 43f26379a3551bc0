use Rattle.std.proofs.Common.{◌≡◌, not, List, take, get_or, arith, sym, ◌∙◌, subst}
use Rattle.rams_model.specs.Service.{Wanted, wanted}
use Rattle.repair_queue.specs.{is_of, without, Owes}
use Rattle.repair_queue.proofs.Pending.{filter-filter-le}
use Rattle.repair_queue.proofs.Indexed.{without_more}
use Rattle.repair_queue.proofs.Pieces.{once_middle, goes}
use Rattle.repair_queue.proofs.index.Index.drop_client_of.Goals as goal

pub loop-w-preserved : goal.loop-w-preserved
loop-w-preserved c =
    let ws = c.args.pending.now in
    let client = c.args.run.client in
    let i = c.loop-w.w-index in
    let w = wanted c.w.inside.client c.w.inside.n in
    let at : w ≡ get_or ws i w = subst (λ (x : Wanted). x ≡ get_or ws i x) (sym c.w.view_is) c.w-item.is in
    let u = without client (take i ws) in
    record {
      removed = λ front back once owes.
          goes (λ (l : List Wanted). Owes c.loop-w.self l c.loop-w.run) (λ (l : List Wanted). Owes c.remove-run.new.self l c.remove-run.result) front u _ ws back i w c.remove-run.ensures.removed c.loop-w-test.true at
          (without_more client i ws w c.loop-w-test.true at (c.if-w-run.false ∙ c.loop-w.invariant.client))
          (once_middle front u ws back i (λ f. filter-filter-le f (λ v. not (is_of client v)) (take i ws)) once) (c.loop-w.invariant.removed front back once owes);
      client = c.remove-run.ensures.client ∙ (c.if-w-run.false ∙ c.loop-w.invariant.client);
      short = omega arith;
    }
