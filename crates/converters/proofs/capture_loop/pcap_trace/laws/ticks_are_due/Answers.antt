use Rattle.converters.proofs.capture_loop.pcap_trace.Ticks.{due_so}
use Rattle.converters.proofs.capture_loop.pcap_trace.laws.ticks_are_due.Goals as goal

pub returns : goal.returns
returns c = due_so
