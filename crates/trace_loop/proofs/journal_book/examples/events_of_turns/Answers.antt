-- The definitions compute the events.
use Rattle.std.proofs.Common.{refl}
use Rattle.trace_loop.specs.journal_book.{turns_of, events_of_turns}
use Rattle.trace_loop.specs.journal_book.Worked.{TwoPortsEach, TicksFallDue}
use Rattle.trace_loop.proofs.journal_book.examples.events_of_turns.Goals as goal

computed : TwoPortsEach × TicksFallDue
unfolding turns_of events_of_turns
computed = (refl, (refl, refl, refl, refl, refl))

pub returns-clause-ports : goal.returns-clause-ports
returns-clause-ports c = computed.0

pub returns-clause-ticks : goal.returns-clause-ticks
returns-clause-ticks c = computed.1
