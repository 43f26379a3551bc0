-- What the service of a channel is: its history, what the history says, and the one lawful answer to each event.
pub mod ChannelSettings
pub mod Messages
pub mod HeardEvents
pub mod ChannelHistory
pub mod Clients
pub mod Infos
pub mod Bursts
pub mod Pending
pub mod Buckets
pub mod Rates
pub mod Verdict
pub mod Answers
pub mod Tick
pub mod Orders
pub mod LawfulBook
pub mod EventAnswer
unfoldable pub use Rattle.rams_model.specs.Service.ChannelSettings.{settings, most_bytes, names_in_range, bytes_in_range, bounds_in_range, channel_in_range, tick_in_range, checked}
pub use Rattle.rams_model.specs.Service.ChannelSettings.{Settings}
unfoldable pub use Rattle.rams_model.specs.Service.Messages.{named, rams_message, feedback_message, message_of, is_rams, with_one_rams, messages}
pub use Rattle.rams_model.specs.Service.Messages.{Message, bye, nack, asks, stops}
unfoldable pub use Rattle.rams_model.specs.Service.HeardEvents.{arrival, heard_packet, heard_live, heard_feedback, heard_of}
pub use Rattle.rams_model.specs.Service.HeardEvents.{Heard, live, dropped, feedback, unframed, tick}
unfoldable pub use Rattle.rams_model.specs.Service.ChannelHistory.{History, arrivals, stream, hold, as_tick_began}
pub use Rattle.rams_model.specs.Service.ChannelHistory.{Item, began, told, noted}
unfoldable pub use Rattle.rams_model.specs.Service.Clients.{is_among, placed, with_client, without, known, opened, sendings, sequence, sender, newest_sender, or_sender, ssrc}
unfoldable pub use Rattle.rams_model.specs.Service.Infos.{burst_info, accept_info, next_msn, update_info, bare_info, refuse_info, end_info}
unfoldable pub use Rattle.rams_model.specs.Service.Bursts.{next, kept, size_of, begun, in_tick, after_note, newest_changed, bursts_after, is_of, bursts, if_open, newest_open, open_burst, has_open}
pub use Rattle.rams_model.specs.Service.Bursts.{Burst}
unfoldable pub use Rattle.rams_model.specs.Service.Pending.{wanted, is_wanted, pending, is_pending, pending_of, is_busy, is_served, quiet_ticks, idle}
pub use Rattle.rams_model.specs.Service.Pending.{Wanted}
unfoldable pub use Rattle.rams_model.specs.Service.Buckets.{most_of, reserved, after_sending, channel_left, is_burst_of, is_repair_of, sent_now, budget_of, cap, run_left, kept_from_repairs, may_take}
unfoldable pub use Rattle.rams_model.specs.Service.Rates.{bytes_of, bits_of, rate_of, ceiling, waste, join_ticks, stop_of}
unfoldable pub use Rattle.rams_model.specs.Service.Verdict.{asked_rate, is_slow, is_too_much, is_full, join_from, begins, changes, on_burst, on_request, verdict}
unfoldable pub use Rattle.rams_model.specs.Service.Answers.{is_before, is_early, room, repair_note, held_answer, number_answer, after_numbers, after_nack, stop_set, on_stop, stop_burst, after_stop, is_bye_of, after_bye, after_message, after_messages}
pub use Rattle.rams_model.specs.Service.Answers.{Room}
unfoldable pub use Rattle.rams_model.specs.Service.Tick.{run, send, is_lost, is_stop, after_run, run_sent, burst_served, all_served, repaired, all_repaired, all_forgotten, bursts_served, repairs_sent, idle_forgotten, after_tick}
unfoldable pub use Rattle.rams_model.specs.Service.Orders.{info_order, packet_order, again_order, update_order, end_order, order_of, newest_notes, newest_orders, newest_answer, client_of, wire_sizes, sent_again, datagram}
unfoldable pub use Rattle.rams_model.specs.Service.LawfulBook.{after_hearing, after, history_of, answer, Book, events_of, IsLawful, book}
pub use Rattle.rams_model.specs.Service.LawfulBook.{Entry}
unfoldable pub use Rattle.rams_model.specs.Service.EventAnswer.{answered}
pub use Rattle.rams_model.specs.Service.EventAnswer.{Answered}
