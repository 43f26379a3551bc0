pub mod Printed
unfoldable pub use Rattle.trace_loop.specs.trace_book.printed_books.Printed.{comes_to, places, numbered_lines, own_event, heard_lines, unheard_line, own_lines, channels_at, BooksArePrinted, ABookAloneIsPrinted}
pub use Rattle.trace_loop.specs.trace_book.printed_books.Printed.{PrintsItsBooks}
