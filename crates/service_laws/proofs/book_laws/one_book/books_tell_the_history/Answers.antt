use Rattle.rams_model.specs.Service.{book}
use Rattle.rams_model.proofs.OneBook.{is_lawful}
use Rattle.service_laws.specs.book_laws.{notes_of}
use Rattle.service_laws.proofs.book_laws.OneLawful.{tells, was_made, in_book}
use Rattle.service_laws.proofs.book_laws.one_book.books_tell_the_history.Goals as goal

pub returns-clause-tells : goal.returns-clause-tells
returns-clause-tells c = tells

pub returns-clause-made : goal.returns-clause-made
returns-clause-made c = was_made

pub returns-clause-told : goal.returns-clause-told
returns-clause-told c s note packet before m = (book s m.events, is_lawful s m.events, notes_of m.later, in_book s note packet before m)
