-- The events of a world, and what becomes of each.
use Rattle.std.specs.Prelude.{ℕ, true, false, if◌then◌else◌, List, [], ◌∷◌, ◌++◌, map, take, drop, Option, Some, None}
use Rattle.std.specs.List.{list_any, flat_map}
use Rattle.rams_model.specs.declared.{Order.Order, Event.Event, Note.Note, Tuned.Tuned}
use Rattle.rams_model.specs.declared.Order.TheVariants as order
use Rattle.rams_model.specs.declared.Event.TheVariants as event
use Rattle.rams_model.specs.Service.{Settings, Answered, client_of, datagram}
use Rattle.rams_model.specs.Texts.{order_count}
use Rattle.rams_model.specs.Receiver.{brought_again, brought_by_multicast, told_by, request_datagram, bye_datagram, reception, asked}
use Rattle.server_hub.specs.declared.HubEvent.{HubEvent}
use Rattle.server_hub.specs.declared.HubEvent.TheVariants as hub
use Rattle.server_hub.specs.{id_of, answer_to, channel_of, after_event}
use Rattle.server_hub.specs.Served.{Served}
use Rattle.meet_loop.specs.declared.{world_laws.world.WorldEvent.WorldEvent, world_laws.world.WorldNote.WorldNote}
use Rattle.meet_loop.specs.declared.world_laws.world.WorldEvent.TheVariants.{Hub, Tune, Give, Mcast, Ask, Drop}
use Rattle.meet_loop.specs.declared.world_laws.world.WorldItem.TheVariants as item
use Rattle.meet_loop.specs.world_laws.World.{Way, posts, tells, repeats, Datagram, Listener, World, new_world, datagram_at, is_listener, listens, listener_of, first_replaced, Step, step, note, refused}
use Rattle.meet_loop.specs.world_laws.Sources.{packet_of_source}
use Rattle.meet_loop.specs.world_laws.Turns.{posted, post_note, hearing, delivering_near}

-- ---- what comes to the server

abbrev pub way_of : Order → Way
way_of (order.Rtx client n sequence packet) = repeats n
way_of (order.Info client info) = tells

-- the datagram of an order of a channel
abbrev pub sent : Served → Order → Datagram
sent c o = record { id = id_of c; client = client_of o; way = way_of o; bytes = datagram c.settings o }

abbrev pub send_note : Served → Order → WorldNote
send_note c o = note (id_of c) (item.Send (client_of o) (datagram c.settings o))

-- the notes of a channel, each with its datagram behind it
unfoldable pub notes_with_orders : Served → List Note → List Order → List WorldNote
notes_with_orders c [] orders = []
notes_with_orders c (n ∷ notes) orders =
    note (id_of c) (item.Note n) ∷ (map (send_note c) (take (order_count n) orders) ++ notes_with_orders c notes (drop (order_count n) orders))

-- what a channel sends of an event, and what is said of it
abbrev pub sent_by : Event → Served → List Datagram
sent_by e c = map (sent c) (answer_to e c).orders

abbrev pub said_of : Served → Answered → List WorldNote
said_of c a = notes_with_orders c a.notes a.orders

abbrev pub said_by : Event → Served → List WorldNote
said_by e c = said_of c (answer_to e c)

abbrev pub sent_where : Event → Option Served → List Datagram
sent_where e None = []
sent_where e (Some c) = sent_by e c

abbrev pub said_where : ℕ → Event → Option Served → List WorldNote
said_where id e None = note id (item.NoChannel id) ∷ []
said_where id e (Some c) = said_by e c

-- the same of all channels, in their order
abbrev pub all_sent : HubEvent → List Served → List Datagram
all_sent (hub.Live id bytes) channels = sent_where (event.Live bytes) (channel_of id channels)
all_sent (hub.Feedback id client bytes) channels = sent_where (event.Feedback client bytes) (channel_of id channels)
all_sent hub.Tick channels = flat_map (sent_by event.Tick) channels

abbrev pub all_said : HubEvent → List Served → List WorldNote
all_said (hub.Live id bytes) channels = said_where id (event.Live bytes) (channel_of id channels)
all_said (hub.Feedback id client bytes) channels = said_where id (event.Feedback client bytes) (channel_of id channels)
all_said hub.Tick channels = flat_map (said_by event.Tick) channels

abbrev pub serving : HubEvent → World → Step
serving e w = step (record w { channels = after_event e w.channels; datagrams = w.datagrams ++ all_sent e w.channels }) (all_said e w.channels)

-- ---- a receiver is tuned

abbrev pub tuned_to : Settings → ℕ → ℕ → Tuned
tuned_to s client ssrc = record { client = client; ssrc = ssrc; media = s.channel.ssrc; pt = s.channel.pt; rtx = s.channel.rtx }

abbrev pub new_listener : Served → ℕ → ℕ → Listener
new_listener c client ssrc = record { id = id_of c; tuned = tuned_to c.settings client ssrc; turns = []; left = false }

-- it asks for a burst at once
abbrev pub with_listener : Listener → World → Step
with_listener l w =
    step (record w { datagrams = w.datagrams ++ posted l (request_datagram l.tuned) ∷ []; listeners = w.listeners ++ l ∷ [] }) (post_note l (request_datagram l.tuned) ∷ [])

-- A client is tuned to a channel once, even where its receiver left.
abbrev pub tuning : ℕ → ℕ → ℕ → Option Served → World → Step
tuning id client ssrc None w = refused w id (item.NoChannel id)
tuning id client ssrc (Some c) w =
    if list_any (is_listener id client) w.listeners then refused w id (item.TunedBefore client) else with_listener (new_listener c client ssrc) w

-- ---- a datagram is delivered

abbrev pub if_listening : ℕ → ℕ → Option Listener → World → (Listener → Step) → Step
if_listening id client None w f = refused w id (item.NoReceiver client)
if_listening id client (Some l) w f = f l

-- One of a receiver comes to the server, and one of the server to the receiver that it was sent to.
abbrev pub giving_by : Way → Datagram → World → Step
giving_by posts d w = serving (hub.Feedback d.id d.client d.bytes) w
giving_by tells d w = if_listening d.id d.client (listener_of d.id d.client w) w (λ l. hearing (told_by l.tuned d.bytes) l w)
giving_by (repeats n) d w = if_listening d.id d.client (listener_of d.id d.client w) w (λ l. delivering_near n (brought_again l.tuned d.bytes) l w)

abbrev pub giving : ℕ → Option Datagram → World → Step
giving number None w = refused w 0 (item.NoDatagram number)
giving number (Some d) w = giving_by d.way d w

-- ---- a packet comes by multicast

abbrev pub casting_packet : ℕ → Option (List ℕ) → Listener → World → Step
casting_packet n None l w = refused w l.id (item.NoPacket n)
casting_packet n (Some bytes) l w = delivering_near n (brought_by_multicast l.tuned bytes) l w

abbrev pub casting : ℕ → ℕ → ℕ → Option Served → World → Step
casting id client n None w = refused w id (item.NoChannel id)
casting id client n (Some c) w = if_listening id client (listener_of id client w) w (λ l. casting_packet n (packet_of_source c n) l w)

-- ---- a receiver asks, or leaves

abbrev pub post_all : List (List ℕ) → Listener → World → Step
post_all bytes l w = step (record w { datagrams = w.datagrams ++ map (posted l) bytes }) (map (post_note l) bytes)

abbrev pub asking : ℕ → ℕ → Option Served → World → Step
asking id client None w = refused w id (item.NoChannel id)
asking id client (Some c) w = if_listening id client (listener_of id client w) w (λ l. post_all (asked l.tuned (reception l.turns)) l w)

-- as it leaves it posts a BYE (RFC 3550, 6.6)
abbrev pub leave : Listener → World → Step
leave l w =
    post_all (bye_datagram l.tuned ∷ []) l (record w { listeners = first_replaced (listens l.id l.tuned.client) (record l { left = true }) w.listeners })

abbrev pub leaving : ℕ → ℕ → Option Served → World → Step
leaving id client None w = refused w id (item.NoChannel id)
leaving id client (Some c) w = if_listening id client (listener_of id client w) w (λ l. leave l w)

-- ---- all of it

-- An event of a world.
unfoldable pub happens : WorldEvent → World → Step
happens (Hub e) w = serving e w
happens (Tune id client ssrc) w = tuning id client ssrc (channel_of id w.channels) w
happens (Give number) w = giving number (datagram_at number w) w
happens (Mcast id client n) w = casting id client n (channel_of id w.channels) w
happens (Ask id client) w = asking id client (channel_of id w.channels) w
happens (Drop id client) w = leaving id client (channel_of id w.channels) w

-- The world after these events, the newest first, which began with these channels.
unfoldable pub world_after : List Served → List WorldEvent → World
world_after channels [] = new_world channels
world_after channels (e ∷ events) = (happens e (world_after channels events)).world
