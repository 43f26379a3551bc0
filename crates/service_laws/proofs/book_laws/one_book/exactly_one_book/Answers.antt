use Rattle.rams_model.specs.Service.{book}
use Rattle.service_laws.proofs.book_laws.OneLawful.{the_book, earlier_lawful}
use Rattle.service_laws.proofs.book_laws.one_book.exactly_one_book.Goals as goal

pub returns-clause-one : goal.returns-clause-one
returns-clause-one c s events = (book s events, the_book s events)

pub returns-clause-earlier : goal.returns-clause-earlier
returns-clause-earlier c = earlier_lawful
