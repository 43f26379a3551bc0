use Rattle.std.proofs.Common.{◌≡◌, ℕ, ◌+◌, ◌-◌, ◌≤◌, false, Bool, List, [], ◌++◌, length, take, take_all, drop, length-drop, append-nil, sym, ap, ◌∙◌, arith, subst}
use Rattle.std.specs.List.{list_any}
use Rattle.std.proofs.lemmas.List.{take-append-drop, take_rest, drop-drop, length-take-le}
use Rattle.rams_model.specs.Service.{Wanted}
use Rattle.repair_queue.specs.{unmarked, Owes}
use Rattle.repair_queue.proofs.Pending.{filter-unmarked-le, unmarked_none}
use Rattle.repair_queue.proofs.Pieces.{once_middle, run_goes, unmarked_run}
use Rattle.repair_queue.proofs.index.Index.drop_of.Goals as goal

-- a block and the rest
block_first : (ws : List Wanted) (i n end : ℕ) → i + n ≡ end → drop i ws ≡ take n (drop i ws) ++ drop end ws
block_first ws i n end ends = sym (take-append-drop n (drop i ws)) ∙ ap (λ (l : List Wanted). take n (drop i ws) ++ l) (drop-drop n i ws ∙ ap (λ (m : ℕ). drop m ws) ends)

block_more : (ws : List Wanted) (done : List Bool) (i n end : ℕ) → i + n ≡ end → end ≤ length ws → end ≤ length done
    → unmarked (take end ws) (take end done) ≡ unmarked (take i ws) (take i done) ++ unmarked (take n (drop i ws)) (take n (drop i done))
block_more ws done i n end ends short flags = ap (λ (m : ℕ). unmarked (take m ws) (take m done)) (sym ends) ∙ unmarked_run ws done i n (omega arith) (omega arith)

pub loop-start-preserved-then-is_any_set : goal.loop-start-preserved-then-is_any_set
loop-start-preserved-then-is_any_set c =
    let ws = c.args.pending.now in
    let done = c.args.done.now in
    let i = c.loop-start.start in
    let n = i + 8 - i in
    let u = unmarked (take i ws) (take i done) in
    let flags : i + 8 ≤ length done = omega (arith, c.loop-start-test.true) in
    let short : i + 8 ≤ length ws = omega (arith, c.requires.one_each, flags) in
    let ends : i + n ≡ i + 8 = omega arith in
    record {
      removed = λ front back once owes.
          run_goes (λ (l : List Wanted). Owes c.loop-start.self l c.loop-start.run) (λ (l : List Wanted). Owes c.drop_each-run.new.self l c.drop_each-run.result) front u (drop i ws) (take n (drop i ws)) (drop (i + 8) ws) _ _ back
          c.drop_each-run.ensures.removed (block_first ws i n (i + 8) ends) (block_more ws done i n (i + 8) ends short flags)
          (once_middle front u ws back i (λ f. filter-unmarked-le f (take i ws) (take i done)) once) (c.loop-start.invariant.removed front back once owes);
      short = omega (arith, c.drop_each-run.ensures.len, c.loop-start.invariant.short, length-take-le n (drop i ws) (omega (arith, length-drop i ws, short)));
      within = flags;
    }

pub loop-start-preserved : goal.loop-start-preserved
loop-start-preserved c =
    let ws = c.args.pending.now in
    let done = c.args.done.now in
    let i = c.loop-start.start in
    let n = i + 8 - i in
    let u = unmarked (take i ws) (take i done) in
    let flags : i + 8 ≤ length done = omega (arith, c.loop-start-test.true) in
    let short : i + 8 ≤ length ws = omega (arith, c.requires.one_each, flags) in
    let ends : i + n ≡ i + 8 = omega arith in
    let unset : list_any (λ is_done. is_done) (take n (drop i done)) ≡ false = sym c.is_any_set.ensures ∙ c.if-is_any_set.false in
    let same = sym (unmarked_none (take n (drop i ws)) (take n (drop i done)) unset) in
    record {
      removed = λ front back once owes.
          run_goes (λ (l : List Wanted). Owes c.loop-start.self l c.loop-start.run) (λ (l : List Wanted). Owes c.loop-start.self l c.loop-start.run) front u (drop i ws) (take n (drop i ws)) (drop (i + 8) ws) _ _ back
          (λ f b o owed. subst (λ (l : List Wanted). Owes c.loop-start.self (f ++ l ++ b) c.loop-start.run) same owed) (block_first ws i n (i + 8) ends) (block_more ws done i n (i + 8) ends short flags)
          (once_middle front u ws back i (λ f. filter-unmarked-le f (take i ws) (take i done)) once) (c.loop-start.invariant.removed front back once owes);
      short = omega (arith, c.loop-start.invariant.short);
      within = flags;
    }

pub returns-clause-removed : goal.returns-clause-removed
returns-clause-removed c = λ front back once owes.
    let ws = c.args.pending.now in
    let done = c.args.done.now in
    let i = c.loop-start.start in
    let k = length ws - i in
    let u = unmarked (take i ws) (take i done) in
    let ends : i + k ≡ length ws = omega (arith, c.loop-start.invariant.within, c.requires.one_each) in
    let same : k ≡ length done - i = omega (arith, c.requires.one_each) in
    let whole : unmarked (take (length ws) ws) (take (length ws) done) ≡ unmarked ws done =
    ap (λ (l : List Wanted). unmarked l (take (length ws) done)) (take_all (length ws) ws (omega arith)) ∙ ap (unmarked ws) (take_all (length ws) done (omega (arith, c.requires.one_each))) in
    let is : unmarked ws done ≡ u ++ unmarked (take k (drop i ws)) (take (length done - i) (drop i done)) =
    sym whole ∙ (block_more ws done i k (length ws) ends (omega arith) (omega (arith, c.requires.one_each)) ∙ ap (λ (m : ℕ). u ++ unmarked (take k (drop i ws)) (take m (drop i done))) same) in
    let gone =
    run_goes (λ (l : List Wanted). Owes c.loop-start.self l c.loop-start.run) (λ (l : List Wanted). Owes c.drop_each.new.self l c.drop_each.result) front u (drop i ws) (take k (drop i ws)) [] _ (unmarked ws done) back
    c.drop_each.ensures.removed (sym (take_rest ws i) ∙ sym (append-nil (take k (drop i ws)))) is
    (once_middle front u ws back i (λ f. filter-unmarked-le f (take i ws) (take i done)) once) (c.loop-start.invariant.removed front back once owes) in
    subst (λ (l : List Wanted). Owes c.drop_each.new.self (front ++ l ++ back) c.drop_each.result) (append-nil (unmarked ws done)) gone
