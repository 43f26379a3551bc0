-- What is added up so far, and what is held from the present number on, is all from the first on.
use Rattle.std.proofs.Common.{◌≡◌, ◌+◌, ◌-◌, ◌*◌, ◌≤◌}
use Rattle.std.specs.Prelude.{max}
use Rattle.rams_model.specs.Packets.{behind, lo}
use Rattle.feedback_core.proofs.holding.behind.Given as goal

abbrev pub invariant-loop-number : goal.invariant-loop-number
invariant-loop-number l = record {
  so_far : l.behind + behind l.number l.cache.held ≡ behind l.fn.n l.cache.held;
  small : l.behind ≤ (l.number - max l.fn.n (lo l.cache.held)) * 4294967296;
}
