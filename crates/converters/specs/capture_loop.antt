pub mod pcap_trace
pub mod Windows
pub mod Files
pub mod Events
pub mod Text
pub mod Telling
pub mod Steps
pub use Rattle.converters.specs.capture_loop.Windows.{IsWindow, BeginsWith}
unfoldable pub use Rattle.converters.specs.capture_loop.Files.{captured_in, cut_by, record_in, ended_by, with_first, records_in, most_records, order_in, file_records}
pub use Rattle.converters.specs.capture_loop.Files.{Captured, RecordsEnd, whole, broken, too_many, Records}
unfoldable pub use Rattle.converters.specs.capture_loop.Events.{datagram_heard, frame_heard, ticks_and, record_events, clock_told, events_in, new_clock, events_by, file_events}
unfoldable pub use Rattle.converters.specs.capture_loop.Text.{fault_word, refused_record, refused_capture, ending, event_room, limited, records_text, text_by_order, file_text, behind_end, head_clock, capture_text, capture_events}
unfoldable pub use Rattle.converters.specs.capture_loop.Telling.{IsCaptureEnd, HasReadCapture}
pub use Rattle.converters.specs.capture_loop.Telling.{HasFilePart, IsTrace}
unfoldable pub use Rattle.converters.specs.capture_loop.Steps.{IsNext, IsNextWithin, HasOrder, last, ComesTo, HasLinesOf, records_outcome, records_events}
pub use Rattle.converters.specs.capture_loop.Steps.{Numbered, AreWritten}
