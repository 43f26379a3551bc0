pub mod Draws
pub mod Generated
pub mod Places
pub mod Worked
unfoldable pub use Rattle.generated.specs.trace_gen.Draws.{stepped, state, drawn}
unfoldable pub use Rattle.generated.specs.trace_gen.Generated.{media, channel, config, draws_before, size, numbered, text, texts_from, packet, client, lost, request, nack, stop, feedback, block, made}
unfoldable pub use Rattle.generated.specs.trace_gen.Places.{place, left, draws_at, with_first, event_on, AreReady, IsReady, IsReadNext, next_on}
pub use Rattle.generated.specs.trace_gen.Places.{Place, IsPlace, IsRead}
