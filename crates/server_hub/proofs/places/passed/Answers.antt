use Rattle.std.proofs.Common.{◌≡◌, ℕ, false, ◌==◌, List, take, drop, sym, ap, ◌∙◌, arith}
use Rattle.std.specs.List.{list_any}
use Rattle.server_hub.proofs.Passing.{passed_more}
use Rattle.server_hub.proofs.places.passed.Goals as goal

pub loop-from-preserved : goal.loop-from-preserved
loop-from-preserved c =
    let ids = c.args.ids.now in
    let id = c.args.id in
    let block = c.split_at-in-loop-from.ensures.front ∙ ap (λ (xs : List ℕ). take 8 xs) c.split_at.ensures.back in
    let none : list_any (λ k. k == id) (take 8 (drop c.loop-from.from ids)) ≡ false = ap (list_any (λ k. k == id)) (sym block) ∙ (sym c.has.ensures ∙ c.if-has.false) in
    record {
      within = omega arith;
      none = passed_more id c.loop-from.from 8 ids c.loop-from.invariant.none none;
    }
