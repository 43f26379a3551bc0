use Rattle.std.proofs.Common.{◌≡◌, false, sym, ◌∙◌, arith, refl}
use Rattle.std.specs.List.{list_any}
use Rattle.rams_model.specs.Service.{is_wanted}
use Rattle.repair_queue.proofs.Indexed.{pair_more, pair_back, count_more}
use Rattle.repair_queue.proofs.index.Index.put.Goals as goal

pub returns-then-not-branch-2-clause-indexed : goal.returns-then-not-branch-2-clause-indexed
returns-then-not-branch-2-clause-indexed c = λ ws whole is.
    let new : list_any (is_wanted c.args.client c.args.n) ws ≡ false = sym (is.pairs whole c.args.client c.args.n) ∙ grind arith in
    record {
      pairs = λ w k m. pair_back c.args.client c.args.n k m ws _ _ _ _ refl new (is.pairs whole k m) (c.in_ok-put.ensures.marks k m) (c.in_ok-take.ensures k m);
      counts = λ w k. grind (arith, c.in_ok-add_one.ensures.counts k, is.counts whole k);
    }

pub returns-clause-indexed : goal.returns-clause-indexed
returns-clause-indexed c = λ ws whole is. record {
  pairs = λ w k m. pair_more c.args.client c.args.n k m ws _ _ _ refl (is.pairs whole k m) (c.in_ok-put.ensures.marks k m);
  counts = λ w k. grind (arith, c.in_ok-add_one.ensures.counts k, is.counts whole k, count_more c.args.client c.args.n k ws);
}
