use Rattle.std.proofs.Common.{◌≡◌, length}
use Rattle.std.specs.Prelude.{◌==◌}
use Rattle.std.specs.List.{list_any}
use Rattle.rams_model.specs.Formats.{words32}
use Rattle.wire_packets.proofs.packet_bytes.words.has_word.Given as goal

-- the number is among what is left where it is in the list
abbrev pub invariant-loop-rest : goal.invariant-loop-rest
invariant-loop-rest l = list_any (λ w. w == l.number) (words32 l.rest) ≡ list_any (λ w. w == l.number) (words32 l.bytes)

abbrev pub decreases-loop-rest : goal.decreases-loop-rest
decreases-loop-rest l = length l.rest
