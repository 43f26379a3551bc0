-- What the definitions mean, said apart from how they compute.
pub mod Meaning
pub mod CatchUp
unfoldable pub use Rattle.rams_model.specs.Laws.Meaning.{IsAmong, Rises, EachPacketStandsOnce, TheSourceOnlyGrows, TheAwaitedIsTheLeast, TheEndIsTheLongest, HeldPacketsFollow, IsByStop, TheRunIsTheLongest, NonePasses, is_old_enough, IsChoice, TheChosenIsTheNewest, TheStopIsTheLeast, NoneIs, makes_known, ends_known, KnownIsSinceTheLastBye, is_accept_of, is_end_of, OpenIsSinceTheLastEnd, is_queued, ends_pending, PendingIsSinceTheLastRepair, is_stop_at, ends_stop, newest_stop, StopIsOfTheLastStopAt, numbers_sent, ticks_begun, latest_rate, BurstIsSinceTheLastAccept, BurstIsOpenSinceTheLastEnd, is_event, is_sending, is_sending_to, sizes_sent, ChannelHasLeft, newest_left, BurstHasLeft, ExactlyOneBook}
pub use Rattle.rams_model.specs.Laws.Meaning.{IsLongestEnd, MayBeSent, IsNewest, IsRefusedFor, IsLeastNamed, StandsWithout, IsBurst, none, young, old}
unfoldable pub use Rattle.rams_model.specs.Laws.CatchUp.{source, ComesNearer, CatchesUp, NothingIsLeft, CatchingUpEnds, until_end, moments, JoinsSlowly, AreAtLeast, while_open, IsQuietBurst, told_join}
pub use Rattle.rams_model.specs.Laws.CatchUp.{IsQuiet}
