use Rattle.std.proofs.Common.{◌≡◌, length}
use Rattle.converters.specs.description_loop.sdp_config.{past_spaces}
use Rattle.converters.proofs.description_loop.sdp_config.attribute.past_spaces.Given as goal

-- what stands behind the spaces of what is left is the same
abbrev pub invariant-loop-rest : goal.invariant-loop-rest
invariant-loop-rest l = past_spaces l.rest ≡ past_spaces l.bytes

abbrev pub decreases-loop-rest : goal.decreases-loop-rest
decreases-loop-rest l = length l.rest
