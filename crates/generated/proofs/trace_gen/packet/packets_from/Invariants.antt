use Rattle.std.proofs.Common.{◌≡◌, ℕ, ◌+◌, ◌-◌, ◌++◌}
use Rattle.generated.specs.trace_gen.Draws as draws
use Rattle.generated.specs.trace_gen.{draws_before, texts_from}
use Rattle.generated.proofs.trace_gen.packet.packets_from.Given as goal

-- Those that are written, and those that are still to come, are all.
abbrev pub invariant-loop-j : goal.invariant-loop-j
invariant-loop-j l = (seed : ℕ) → l.fn.before ≡ draws.state seed (draws_before l.block + l.first) →
    (l.state ≡ draws.state seed (draws_before l.block + l.j)) × (l.text.items ++ texts_from seed l.block l.j (10 - l.j) ≡ texts_from seed l.block l.first (10 - l.first))
