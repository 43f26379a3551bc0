use Rattle.std.proofs.Common.{◌≡◌, ◌<◌, true, false, not, length, sym, ap, ◌∙◌, arith}
use Rattle.std.proofs.lemmas.Bool.Decides.{nat_tests}
use Rattle.std.proofs.lemmas.List.Filters.{FiltersInPlace-more_no, FiltersInPlace-more_set}
use Rattle.rams_model.specs.Service.{Wanted}
use Rattle.repair_queue.specs.{is_of}
use Rattle.repair_queue.proofs.places.drop_client.Goals as goal

pub loop-i-preserved-then-w-client : goal.loop-i-preserved-then-w-client
loop-i-preserved-then-w-client c =
    let short : c.loop-i.i < length c.loop-i.places.items = omega (arith, c.loop-i-test.true, c.len-i-end.ensures, c.loop-i.invariant.moved.long) in
    let client : c.index-w.result.now.client ≡ c.args.client = sym (ap (λ (w : Wanted). w.client) c.w.view_is) ∙ c.if-w-client.true in
    let passes : not (is_of c.args.client c.index-w.result.now) ≡ false = grind (arith, nat_tests, client) in
    record {
      moved = FiltersInPlace-more_no c.loop-i.invariant.moved short passes c.index-w.ensures;
      capacity = c.loop-i.invariant.capacity;
    }

pub loop-i-preserved : goal.loop-i-preserved
loop-i-preserved c =
    let short : c.loop-i.i < length c.loop-i.places.items = omega (arith, c.loop-i-test.true, c.len-i-end.ensures, c.loop-i.invariant.moved.long) in
    let client : c.w.inside.client ≡ c.index-w.result.now.client = ap (λ (w : Wanted). w.client) c.w.view_is in
    let passes : not (is_of c.args.client c.index-w.result.now) ≡ true = grind (arith, nat_tests, client, c.if-w-client.false) in
    record {
      moved = FiltersInPlace-more_set c.loop-i.invariant.moved short passes c.index-w.ensures;
      capacity = c.loop-i.invariant.capacity;
    }
