use Rattle.std.proofs.Common.{◌≡◌, vec_capacity, not}
use Rattle.std.proofs.lemmas.List.Filters.{FiltersInPlace}
use Rattle.repair_queue.specs.{is_of}
use Rattle.repair_queue.proofs.places.drop_client.Given as goal

-- The other clients' repairs so far stand in front, and the rest is as it was.
abbrev pub invariant-loop-i : goal.invariant-loop-i
invariant-loop-i l = record {
  moved : FiltersInPlace (λ w. not (is_of l.client w)) l.fn.places.items l.places.items l.kept l.i;
  capacity : vec_capacity l.places ≡ vec_capacity l.fn.places;
}
