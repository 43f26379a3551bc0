pub mod Calls
pub mod Faults
pub mod Memory
pub mod Moments
pub mod Wire
unfoldable pub use Rattle.ram_io.specs.Calls.{IsFailing, number_after, called, faulted}
pub use Rattle.ram_io.specs.Calls.{Counts}
unfoldable pub use Rattle.ram_io.specs.Faults.{Rose}
pub use Rattle.ram_io.specs.Faults.{HasCause}
unfoldable pub use Rattle.ram_io.specs.Memory.{new_counts, new_source, after_take, after_failed_take, new_sink, after_put, after_failed_put, IsSteadySink, new_wire, after_receive, place_behind, after_send, after_failed_call, IsSteadyWire, IsFullFor, datagram_at, datagrams, IsFromClient, AreWithin}
pub use Rattle.ram_io.specs.Memory.{SourceState, SinkState, WireState, IsWireState}
unfoldable pub use Rattle.ram_io.specs.Moments.{later, GivesNext}
unfoldable pub use Rattle.ram_io.specs.Wire.{outgoing, seen, cut, next_answer, TakesNext, SendsOne}
pub use Rattle.ram_io.specs.Wire.{Outgoing}
