pub mod Numbers
pub mod Files
pub mod Frames
pub mod Moments
pub mod Seen
unfoldable pub use Rattle.converters.specs.capture_loop.pcap_trace.Numbers.{short_by, word_by, short_at, word_at}
unfoldable pub use Rattle.converters.specs.capture_loop.pcap_trace.Files.{order_of, head_at, most_captured, record_at, kind_at}
unfoldable pub use Rattle.converters.specs.capture_loop.pcap_trace.Frames.{packet_in, header_size, total_length, is_fragment, is_udp, udp_length, datagram_of, datagram_at, shown_udp}
pub use Rattle.converters.specs.capture_loop.pcap_trace.Frames.{Datagram}
unfoldable pub use Rattle.converters.specs.capture_loop.pcap_trace.Moments.{widened, ticks_by, ticks_so_far, ticks_between, next_due, TicksAreDue}
pub use Rattle.converters.specs.capture_loop.pcap_trace.Moments.{Span, Elapsed, IsCountOf}
