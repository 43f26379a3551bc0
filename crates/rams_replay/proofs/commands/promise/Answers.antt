use Rattle.std.specs.Prelude.{All}
use Rattle.trace_loop.specs.trace_book.printed_books.{PrintsItsBooks}
use Rattle.trace_loop.specs.trace_book.{KeepsPromises, KeepsTheLink, served_by}
use Rattle.trace_loop.proofs.Whole.{told_all}
use Rattle.rams_replay.specs.{ComesPromised}
use Rattle.meet_loop.specs.world_book.{ReceiversPresent, world_of}
use Rattle.rams_replay.proofs.commands.promise.Goals as goal

pub returns-clause-printed : goal.returns-clause-printed
returns-clause-printed g c = told_all (g.S.Source.left c.args._source.now) PrintsItsBooks c.books_are_printed.ensures

pub returns-clause-lawful : goal.returns-clause-lawful
returns-clause-lawful g c = told_all (g.S.Source.left c.args._source.now) (λ xs. All KeepsPromises (served_by xs)) c.traces_are_served_lawfully.ensures

pub returns-clause-link : goal.returns-clause-link
returns-clause-link g c = told_all (g.S.Source.left c.args._source.now) KeepsTheLink c.traces_stay_within_the_link.ensures

pub returns-clause-lawful_world : goal.returns-clause-lawful_world
returns-clause-lawful_world g c = told_all (g.S.Source.left c.args._source.now) (λ xs. All KeepsPromises (world_of xs).channels) c.worlds_are_served_lawfully.ensures

pub returns-clause-receivers : goal.returns-clause-receivers
returns-clause-receivers g c = told_all (g.S.Source.left c.args._source.now) (λ xs. ReceiversPresent (world_of xs)) c.receivers_present_their_sources.ensures

pub returns-clause-comes : goal.returns-clause-comes
returns-clause-comes g c = told_all (g.S.Source.left c.args._source.now) ComesPromised (λ xs workers trace may. record {
  lines = c.traces_are_served_by_their_lines.ensures trace;
  ends = c.traces_end_so.ensures trace;
  lawful = c.traces_are_served_lawfully.ensures trace;
  link = c.traces_stay_within_the_link.ensures trace;
})
