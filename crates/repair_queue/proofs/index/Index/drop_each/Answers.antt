use Rattle.std.proofs.Common.{◌≡◌, ◌<◌, true, false, List, length, sym, ◌∙◌, subst, take, drop, get_or, ◌++◌, ap, arith, append-nil}
use Rattle.std.proofs.lemmas.List.{get_or_default}
use Rattle.rams_model.specs.Service.{Wanted, wanted}
use Rattle.repair_queue.specs.{unmarked, Owes}
use Rattle.repair_queue.proofs.Pending.{filter-unmarked-le}
use Rattle.repair_queue.proofs.Marked.{unmarked_more, unmarked_rest}
use Rattle.repair_queue.proofs.Pieces.{once_middle, stays, goes}
use Rattle.repair_queue.proofs.index.Index.drop_each.Goals as goal

pub loop-i-preserved-then-not-is_done : goal.loop-i-preserved-then-not-is_done
loop-i-preserved-then-not-is_done c =
    let ws = c.args.pending.now in
    let i = c.loop-i.i in
    let w = get_or ws i (wanted 0 0) in
    let short : i < length ws = omega arith in
    let at : get_or ws i w ≡ w = get_or_default ws i _ _ short in
    record {
      removed = λ front back once owes.
          stays (λ (l : List Wanted). Owes c.loop-i.self l c.loop-i.run) front (unmarked (take i ws) (take i c.args.done.now)) _ ws back i w short at
          (unmarked_more ws c.args.done.now i w false short c.loop-i-test.true at c.if-not-is_done.true) (c.loop-i.invariant.removed front back once owes);
      short = omega arith;
    }

pub loop-i-preserved : goal.loop-i-preserved
loop-i-preserved c =
    let ws = c.args.pending.now in
    let i = c.loop-i.i in
    let w = c.index-pending-i.result in
    let short : i < length ws = omega arith in
    let at : w ≡ get_or ws i w = c.index-pending-i.is in
    let u = unmarked (take i ws) (take i c.args.done.now) in
    record {
      removed = λ front back once owes.
          goes (λ (l : List Wanted). Owes c.loop-i.self l c.loop-i.run) (λ (l : List Wanted). Owes c.remove-run.new.self l c.remove-run.result) front u _ ws back i w c.remove-run.ensures.removed short at
          (unmarked_more ws c.args.done.now i w true short c.loop-i-test.true (sym at) c.if-not-is_done.false ∙ append-nil u)
          (once_middle front u ws back i (λ f. filter-unmarked-le f (take i ws) (take i c.args.done.now)) once) (c.loop-i.invariant.removed front back once owes);
      short = omega arith;
    }

pub returns-clause-removed : goal.returns-clause-removed
returns-clause-removed c = λ front back once owes.
    let ws = c.args.pending.now in
    let done = c.args.done.now in
    let all : c.loop-i.i ≡ length done = omega (arith, c.loop-i-test.false, c.loop-i.auto) in
    let is = ap (λ n. unmarked (take n ws) (take n done) ++ drop n ws) all ∙ unmarked_rest ws done (omega arith) in
    subst (λ (l : List Wanted). Owes c.loop-i.self (front ++ l ++ back) c.loop-i.run) is (c.loop-i.invariant.removed front back once owes)
