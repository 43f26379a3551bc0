pub mod session_core
pub mod Pairs
pub mod Served
pub mod Seen
pub mod Steps
pub mod Sent
pub mod Coming
pub mod JoinTimes
pub mod Worked
unfoldable pub use Rattle.server_hub.specs.Pairs.{Pairwise}
unfoldable pub use Rattle.server_hub.specs.Served.{served, id_of, with_event, answer_to, hi_of, held_of, channel_of, after_event_of, answer_of, after_tick, answer_at, answers_to_tick, event_of, after_event, told, told_of, told_to}
pub use Rattle.server_hub.specs.Served.{Told, no_channel, says}
unfoldable pub use Rattle.server_hub.specs.Seen.{new_hub, all_settings, settings_of, ids_of, has_id, shares_of, AllServe, StandsFor, refused}
pub use Rattle.server_hub.specs.Seen.{FitLink, IsHub, AreFields, Serves, KeepsSettings, AddsSettings}
unfoldable pub use Rattle.server_hub.specs.Steps.{AllTick}
pub use Rattle.server_hub.specs.Steps.{StepsAt, Ticks}
unfoldable pub use Rattle.server_hub.specs.Sent.{size_of, bytes_of, bytes_of_all, all_shares, kept, all_kept, all_swells, TicksStayWithinTheLink, TicksSendAtMostLinkAndSwells, answers_said, answers_to, OnlyTicksSend, after_events, sent_over, ticks_among, ChannelsStayWithinTheLink, ChannelsSendAtMostLinkAndSwells}
unfoldable pub use Rattle.server_hub.specs.Coming.{events_of, EachChannelGetsItsEvents}
unfoldable pub use Rattle.server_hub.specs.JoinTimes.{AllKeepJoinTimes}
unfoldable pub use Rattle.server_hub.specs.Worked.{of_channel, notes_said, all_said, request, new_channel, EventsGoToTheirChannels}
