-- Moments as code has them.
use Rattle.converters.specs.declared.capture_loop.pcap_trace.due.Span.{Span}
use Rattle.converters.specs.capture_loop.pcap_trace.Moments as moments

abbrev pub shown_span : Span → moments.Span
shown_span s = record { first = s.first; top = s.top }
