pub mod Spelling
pub mod World
pub mod Sources
pub mod Turns
pub mod Happening
pub mod Channels
pub mod Worlds
pub mod Worked
pub mod TwoReceivers
pub use Rattle.meet_loop.specs.world_laws.World.{Way, posts, tells, repeats, Datagram, Listener, Step}
unfoldable pub use Rattle.meet_loop.specs.world_laws.World.{new_world, datagram_at, is_listener, listens, listener_of, first_replaced, step, note, refused}
unfoldable pub use Rattle.meet_loop.specs.world_laws.Sources.{source_of, takes, hears_number, as_it_came, packet_of_source}
pub use Rattle.meet_loop.specs.world_laws.Sources.{IsTunedTo}
unfoldable pub use Rattle.meet_loop.specs.world_laws.Turns.{next_number, is_too_far, waiting, presenting, pieces_in, turns_to_present, presented_all, show_note, posted, post_note, after_turns, hearing, delivering, delivering_near}
unfoldable pub use Rattle.meet_loop.specs.world_laws.Happening.{way_of, sent, send_note, notes_with_orders, sent_by, said_of, said_by, sent_where, said_where, all_sent, all_said, serving, tuned_to, new_listener, with_listener, tuning, if_listening, giving_by, giving, casting_packet, casting, post_all, asking, leave, leaving, happens, world_after}
unfoldable pub use Rattle.meet_loop.specs.world_laws.Worlds.{BringsBytes, OfEachReceiver, EachReceiverPresentsAPrefix, PresentsWhatIsDelivered, EachReceiverPresentsWhatIsDelivered, AreMedia, NoMediaAreForeignOrBad, EachDeliveryIsFair, IsInfo, AreInfos, NoInfosAreForeignOrBad}
pub use Rattle.meet_loop.specs.world_laws.Worlds.{IsNew, HasFields}
unfoldable pub use Rattle.meet_loop.specs.world_laws.Channels.{EachPacketOfTheSourceCame, IsAgain, EachOrderIsForAPacketOfTheSource, TheSourceKeepsItsPackets}
pub use Rattle.meet_loop.specs.world_laws.Channels.{CameAs, SendsAgain}
