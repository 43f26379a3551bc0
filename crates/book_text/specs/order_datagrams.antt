pub mod Rendering
unfoldable pub use Rattle.book_text.specs.order_datagrams.Rendering.{Renders, has_plain, IsRetransmission, EachOrderOfAnAnswerRenders, EachOrderOfABookRenders}
