use Rattle.rams_model.proofs.OneBook.{same_events, is_lawful, only_book}
use Rattle.rams_model.proofs.laws.exactly_one_book.Goals as goal

pub returns : goal.returns
returns c s events = (is_lawful s events, same_events s events, only_book s events)
