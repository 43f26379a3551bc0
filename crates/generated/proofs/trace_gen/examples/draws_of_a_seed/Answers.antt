-- The definitions compute the draws.
use Rattle.std.proofs.Common.{refl}
use Rattle.generated.specs.trace_gen.{state}
use Rattle.generated.specs.trace_gen.Worked.{FirstDraws, Sizes}
use Rattle.generated.proofs.trace_gen.examples.draws_of_a_seed.Goals as goal

computed : FirstDraws × Sizes
unfolding state
computed = ((refl, refl, refl), (refl, refl))

pub returns-clause-first_draws : goal.returns-clause-first_draws
returns-clause-first_draws c = computed.0

pub returns-clause-sizes : goal.returns-clause-sizes
returns-clause-sizes c = computed.1
