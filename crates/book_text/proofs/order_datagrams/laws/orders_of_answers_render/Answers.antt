use Rattle.book_text.proofs.order_datagrams.ReadPackets.{answer_renders, book_renders}
use Rattle.book_text.proofs.order_datagrams.laws.orders_of_answers_render.Goals as goal

pub returns-clause-answers : goal.returns-clause-answers
returns-clause-answers c s events event = answer_renders s events event

pub returns-clause-books : goal.returns-clause-books
returns-clause-books c s e book l = book_renders s e book l
