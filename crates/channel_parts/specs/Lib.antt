pub mod Standing
pub mod Facts
pub mod Given
unfoldable pub use Rattle.channel_parts.specs.Standing.{burst_kept, IsBudget, new_parts}
pub use Rattle.channel_parts.specs.Standing.{IsEntry, IsTable, IsQueue, IsCache, StandsFor}
unfoldable pub use Rattle.channel_parts.specs.Facts.{KnownClientsRise, OpenedClientsRise, OpenedHaveBursts, KnownClientsAreFew, OnlyKnownClientsHaveBursts, OpenedAreTheKnownWithBursts, RepairsAreOfKnownClients, RepairsAreWithinLimits, OpenBurstsAreWithinBounds, OpenBurstsHaveATickLeft, KnownClientsAreIdleForLess, ReservedLeavesTheReserve, EachBurstIsReserved, AcceptsReserve, UpdatesReserve, EndsRelease, is_of_reserved, OtherNotesReserveNothing, EventsReserveNothing, MessagesReserveNothing, LeftIsWithinShareAndSwell, TheEndOfTheHeldNeverFalls, HaveLowNumbers, HeldNumbersAreSmall, ReadPacketsHaveLowNumbers, SequencesHave16Bits}
pub use Rattle.channel_parts.specs.Facts.{IsWithinBounds}
unfoldable pub use Rattle.channel_parts.specs.Given.{HeldPacketsAreInOrder, KnownClientsHaveEntries, EntriesAreOfTheirClients, EntriesAreInBounds, amount_of, ReservedIsOfTheEntries, LivePacketsChangeTheCache, OtherEventsLeaveTheCache}
pub use Rattle.channel_parts.specs.Given.{IsHeld, IsBurstInBounds, IsEntryInBounds, IsTaken, GoOn}
