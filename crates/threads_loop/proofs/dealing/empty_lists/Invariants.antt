use Rattle.std.proofs.Common.{◌≡◌, ℕ, [], length, map}
use Rattle.std.specs.Prelude.{slice_index_or}
use Rattle.threads_loop.proofs.dealing.empty_lists.Given as goal

abbrev pub invariant-loop : goal.invariant-loop
invariant-loop l = record {
  count : length l.all.items ≡ l.counter;
  empty : (list : ℕ) → slice_index_or (map (λ v. v.items) l.all.items) list [] ≡ [];
}
