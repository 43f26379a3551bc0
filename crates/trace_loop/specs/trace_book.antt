pub mod trace_serving
pub mod printed_books
pub mod TraceText
pub mod Stages
pub mod Runs
pub mod Promises
pub mod Links
pub mod Worked
unfoldable pub use Rattle.trace_loop.specs.trace_book.TraceText.{first_line, most_events, channel_text, named_text, event_text, event_of, run, trace_text, served_by}
unfoldable pub use Rattle.trace_loop.specs.trace_book.Stages.{settings_of, new_channels, IsStage, TheOpeningIsAStage, StagesAreKept}
unfoldable pub use Rattle.trace_loop.specs.trace_book.Runs.{taken, event_at, came, events_text, TracesAreServedByTheirLines, TracesEndSo}
pub use Rattle.trace_loop.specs.trace_book.Runs.{IsServed, EndsSo}
unfoldable pub use Rattle.trace_loop.specs.trace_book.Promises.{IsOfBytes, ChannelsKeepTheirPromises, TracesAreServedLawfully}
pub use Rattle.trace_loop.specs.trace_book.Promises.{WasSo, WasMade, HasOneBook, RetransmitsTheSource, SendsInOrder, TellsWhereBurstsBegin, TellsWhatCame, RespectsItsStop, TellsBurstsTruly, SendsWhatIsAsked, IsWithinBudgets, IsWithinBudgetsOverTicks, KeepsBudgets, RefusesTruly, AnswersByTheTable, KeepsJoinTimes, TellsItsClients, ServesEachTick, GivesUpTruly, KeepsPromises}
unfoldable pub use Rattle.trace_loop.specs.trace_book.Links.{TracesStayWithinTheLink}
pub use Rattle.trace_loop.specs.trace_book.Links.{StayWithinTheLink, KeepsTheLink}
