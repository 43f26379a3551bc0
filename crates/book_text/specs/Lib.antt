pub mod order_datagrams
pub mod answer_text
pub mod NoChannel
pub mod SendFront
unfoldable pub use Rattle.book_text.specs.NoChannel.{no_channel_line}
unfoldable pub use Rattle.book_text.specs.SendFront.{send_front}
