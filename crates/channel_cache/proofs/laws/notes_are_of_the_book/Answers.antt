use Rattle.channel_cache.proofs.Booked.{noted_so}
use Rattle.channel_cache.proofs.laws.notes_are_of_the_book.Goals as goal

pub returns : goal.returns
returns c = noted_so
