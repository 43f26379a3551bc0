-- The definitions compute the events.
use Rattle.std.proofs.Common.{refl}
use Rattle.hex.specs.Hex.{decode_pairs}
use Rattle.rams_model.specs.Formats.{header, spelling, words_from, rams_request, rams_stop}
use Rattle.generated.specs.trace_gen.{state, packet, request, nack, stop}
use Rattle.generated.specs.trace_gen.Worked.{Headers, Datagrams}
use Rattle.generated.proofs.trace_gen.examples.events_of_a_seed.Goals as goal

computed : Headers × Datagrams
unfolding decode_pairs header spelling words_from rams_request rams_stop state packet request nack stop
computed = ((refl, refl, refl, refl), refl)

pub returns-clause-headers : goal.returns-clause-headers
returns-clause-headers c = computed.0

pub returns-clause-datagrams : goal.returns-clause-datagrams
returns-clause-datagrams c = computed.1
