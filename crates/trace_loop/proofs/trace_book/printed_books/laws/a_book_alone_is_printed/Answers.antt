use Rattle.trace_loop.proofs.trace_book.printed_books.Printing.{alone_is}
use Rattle.trace_loop.proofs.trace_book.printed_books.laws.a_book_alone_is_printed.Goals as goal

pub returns : goal.returns
returns c = alone_is
