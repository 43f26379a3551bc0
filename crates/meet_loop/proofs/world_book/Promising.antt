-- What comes to the channels of a world is made of bytes.
use Rattle.std.proofs.Common.{◌≡◌, ℕ, suc, List, [], ◌∷◌, ◌++◌, map, Option, Some, None, refl, subst, arith, eqb, cond}
use Rattle.std.specs.Prelude.{All, option_to_list, option_map}
use Rattle.std.specs.List.{list_any, flat_map}
use Rattle.std.proofs.lemmas.Bool.{cond_both}
use Rattle.std.proofs.lemmas.Option.{slice_get_within, get_or_from_slice_get}
use Rattle.std.proofs.lemmas.List.Elements.{All-nil, All-cons, All-append}
use Rattle.rams_model.specs.declared.{Order.Order, Event.Event}
use Rattle.rams_model.specs.declared.Order.TheVariants as order
use Rattle.rams_model.specs.declared.Event.TheVariants as event
use Rattle.rams_model.specs.Receiver.{Media, Turn, Told, hears, delivers, reception, told_answer, media_answer, join_answer, join_datagram, asked, request_datagram, bye_datagram}
use Rattle.server_hub.specs.declared.HubEvent.{HubEvent}
use Rattle.server_hub.specs.declared.HubEvent.TheVariants as hub
use Rattle.server_hub.specs.{id_of, with_event, after_event_of, after_tick, after_event, answer_to, channel_of}
use Rattle.server_hub.specs.Served.{Served}
use Rattle.trace_loop.specs.trace_book.{IsOfBytes}
use Rattle.meet_loop.specs.declared.{world_laws.world.WorldEvent.WorldEvent, world_laws.world.WorldNote.WorldNote}
use Rattle.meet_loop.specs.declared.world_laws.world.WorldEvent.TheVariants.{Hub, Tune, Give, Mcast, Ask, Drop}
use Rattle.meet_loop.specs.declared.world_laws.world.WorldItem.TheVariants as item
use Rattle.meet_loop.specs.world_laws.World.{Way, posts, tells, repeats, Datagram, Listener, World, Step}
use Rattle.meet_loop.specs.world_laws.{datagram_at, is_listener, listener_of, note, refused, packet_of_source, next_number, is_too_far, posted, after_turns, hearing, delivering, delivering_near, sent, sent_by, sent_where, all_sent, serving, new_listener, with_listener, tuning, if_listening, giving_by, giving, casting_packet, casting, asking, leaving, happens}
use Rattle.meet_loop.proofs.world_book.Posts.{AreBytes, AllBytes, requested_is, joined_is, asked_is, left_is}

-- an event of the server that is made of bytes
abbrev pub IsHubOfBytes : HubEvent → Type 0
IsHubOfBytes (hub.Live id bytes) = AreBytes bytes
IsHubOfBytes (hub.Feedback id client bytes) = AreBytes bytes
IsHubOfBytes hub.Tick = Unit {0}

abbrev pub IsWorldOfBytes : WorldEvent → Type 0
IsWorldOfBytes (Hub e) = IsHubOfBytes e
IsWorldOfBytes _ = Unit {0}

-- a datagram that a receiver posted is made of bytes
abbrev PostedBy : Way → List ℕ → Type 0
PostedBy posts bytes = AreBytes bytes
PostedBy tells bytes = Unit {0}
PostedBy (repeats n) bytes = Unit {0}

abbrev IsPosted : Datagram → Type 0
IsPosted d = PostedBy d.way d.bytes

abbrev HasBytesOf : Served → Type 0
HasBytesOf c = All IsOfBytes c.events

-- A world of bytes.
pub record IsOf (w : World) : Type 0 where
  pub channels : All HasBytesOf w.channels
  pub datagrams : All IsPosted w.datagrams

-- the rest of what holds of each
others : {A : Type 0} (P : A → Type 0) (x : A) (xs : List A) → All P (x ∷ xs) → All P xs
others P x xs a = λ k d less. a (suc k) d (omega (arith, less))

first_of : {A : Type 0} (P : A → Type 0) (x : A) (xs : List A) → All P (x ∷ xs) → P x
first_of P x xs a = a 0 x (omega arith)

-- channels get an event
one_gets : (id : ℕ) (e : Event) (cs : List Served) → IsOfBytes e → All HasBytesOf cs → All HasBytesOf (after_event_of id e cs)
one_gets id e [] i a = All-nil HasBytesOf
one_gets id e (c ∷ cs) i a =
    let mine = first_of HasBytesOf c cs a in
    let now = cond_both (eqb (id_of c) id) (with_event e c) c HasBytesOf (λ t. All-cons IsOfBytes e c.events i mine) (λ f. mine) in
    All-cons HasBytesOf (cond (eqb (id_of c) id) (with_event e c) c) (after_event_of id e cs) now (one_gets id e cs i (others HasBytesOf c cs a))

all_get : (cs : List Served) → All HasBytesOf cs → All HasBytesOf (after_tick cs)
all_get [] a = All-nil HasBytesOf
all_get (c ∷ cs) a =
    All-cons HasBytesOf (with_event event.Tick c) (after_tick cs) (All-cons IsOfBytes event.Tick c.events tt (first_of HasBytesOf c cs a)) (all_get cs (others HasBytesOf c cs a))

channels_get : (e : HubEvent) (cs : List Served) → IsHubOfBytes e → All HasBytesOf cs → All HasBytesOf (after_event e cs)
channels_get (hub.Live id bytes) cs i a = one_gets id (event.Live bytes) cs i a
channels_get (hub.Feedback id client bytes) cs i a = one_gets id (event.Feedback client bytes) cs i a
channels_get hub.Tick cs i a = all_get cs a

-- what the server sends wasn't posted
order_is : (c : Served) (o : Order) → IsPosted (sent c o)
order_is c (order.Rtx client n sequence packet) = tt
order_is c (order.Info client info) = tt

orders_are : (c : Served) (orders : List Order) → All IsPosted (map (sent c) orders)
orders_are c [] = All-nil IsPosted
orders_are c (o ∷ orders) = All-cons IsPosted (sent c o) (map (sent c) orders) (order_is c o) (orders_are c orders)

where_are : (e : Event) (o : Option Served) → All IsPosted (sent_where e o)
where_are e None = All-nil IsPosted
where_are e (Some c) = orders_are c (answer_to e c).orders

ticks_are : (cs : List Served) → All IsPosted (flat_map (sent_by event.Tick) cs)
ticks_are [] = All-nil IsPosted
ticks_are (c ∷ cs) = All-append IsPosted (sent_by event.Tick c) (flat_map (sent_by event.Tick) cs) (orders_are c (answer_to event.Tick c).orders) (ticks_are cs)

all_are : (e : HubEvent) (cs : List Served) → All IsPosted (all_sent e cs)
all_are (hub.Live id bytes) cs = where_are (event.Live bytes) (channel_of id cs)
all_are (hub.Feedback id client bytes) cs = where_are (event.Feedback client bytes) (channel_of id cs)
all_are hub.Tick cs = ticks_are cs

abbrev Stays : World → Step → Type 0
Stays w step = IsOf w → IsOf step.world

serving_stays : (e : HubEvent) (w : World) → IsHubOfBytes e → Stays w (serving e w)
serving_stays e w i is =
    record { channels = channels_get e w.channels i is.channels; datagrams = All-append IsPosted w.datagrams (all_sent e w.channels) is.datagrams (all_are e w.channels) }

-- what a receiver posts
posts_are : (l : Listener) (all : List (List ℕ)) → AllBytes all → All IsPosted (map (posted l) all)
posts_are l [] a = All-nil IsPosted
posts_are l (bytes ∷ all) a = All-cons IsPosted (posted l bytes) (map (posted l) all) (first_of AreBytes bytes all a) (posts_are l all (others AreBytes bytes all a))

more_posted : (w : World) (l : Listener) (all : List (List ℕ)) → AllBytes all → IsOf w → All IsPosted (w.datagrams ++ map (posted l) all)
more_posted w l all a is = All-append IsPosted w.datagrams (map (posted l) all) is.datagrams (posts_are l all a)

turns_stay : (said : WorldNote) (turns : List Turn) (all : List (List ℕ)) (l : Listener) (w : World) → AllBytes all → Stays w (after_turns said turns all l w)
turns_stay said turns all l w a is = record { channels = is.channels; datagrams = more_posted w l all a is }

hearing_stays : (told : Told) (l : Listener) (w : World) → Stays w (hearing told l w)
hearing_stays told l w = turns_stay (note l.id (item.Info l.tuned.client (told_answer told (reception l.turns)))) (hears told ∷ l.turns) [] l w (All-nil AreBytes)

near_stays : (x : ℕ) (media : Media) (l : Listener) (w : World) → Stays w (delivering_near x media l w)
near_stays x media l w =
    cond_both (is_too_far (next_number l.turns) x) (refused w l.id (item.TooFar l.tuned.client)) (delivering x media l w) (Stays w) (λ t is. is)
    (λ f. turns_stay (note l.id (item.Media l.tuned.client (media_answer media (reception l.turns)))) (delivers x media ∷ l.turns) (option_to_list (option_map (join_datagram l.tuned) (join_answer media (reception l.turns)))) l w (joined_is l.tuned (join_answer media (reception l.turns))))

tuning_stays : (id client ssrc : ℕ) (o : Option Served) (w : World) → Stays w (tuning id client ssrc o w)
tuning_stays id client ssrc None w = λ is. is
tuning_stays id client ssrc (Some c) w =
    let l = new_listener c client ssrc in
    cond_both (list_any (is_listener id client) w.listeners) (refused w id (item.TunedBefore client)) (with_listener l w) (Stays w) (λ t is. is)
    (λ f is. record { channels = is.channels; datagrams = more_posted w l (request_datagram l.tuned ∷ []) (requested_is l.tuned) is })

listening_stays : (id client : ℕ) (o : Option Listener) (w : World) (f : Listener → Step) → ((l : Listener) → Stays w (f l)) → Stays w (if_listening id client o w f)
listening_stays id client None w f stays = λ is. is
listening_stays id client (Some l) w f stays = stays l

giving_by_stays : (way : Way) (d : Datagram) (w : World) → PostedBy way d.bytes → Stays w (giving_by way d w)
giving_by_stays posts d w i = serving_stays (hub.Feedback d.id d.client d.bytes) w i
giving_by_stays tells d w i = listening_stays d.id d.client (listener_of d.id d.client w) w _ (λ l. hearing_stays _ l w)
giving_by_stays (repeats n) d w i = listening_stays d.id d.client (listener_of d.id d.client w) w _ (λ l. near_stays n _ l w)

giving_stays : (number : ℕ) (o : Option Datagram) (w : World) → datagram_at number w ≡ o → Stays w (giving number o w)
giving_stays number None w e = λ is. is
giving_stays number (Some d) w e = λ is.
    let there = slice_get_within w.datagrams number d e in
    giving_by_stays d.way d w (subst IsPosted (get_or_from_slice_get w.datagrams number d d e) (is.datagrams number d there)) is

packet_stays : (n : ℕ) (o : Option (List ℕ)) (l : Listener) (w : World) → Stays w (casting_packet n o l w)
packet_stays n None l w = λ is. is
packet_stays n (Some bytes) l w = near_stays n _ l w

casting_stays : (id client n : ℕ) (o : Option Served) (w : World) → Stays w (casting id client n o w)
casting_stays id client n None w = λ is. is
casting_stays id client n (Some c) w = listening_stays id client (listener_of id client w) w _ (λ l. packet_stays n (packet_of_source c n) l w)

asking_stays : (id client : ℕ) (o : Option Served) (w : World) → Stays w (asking id client o w)
asking_stays id client None w = λ is. is
asking_stays id client (Some c) w =
    listening_stays id client (listener_of id client w) w _
    (λ l is. record { channels = is.channels; datagrams = more_posted w l (asked l.tuned (reception l.turns)) (asked_is l.tuned (reception l.turns)) is })

leaving_stays : (id client : ℕ) (o : Option Served) (w : World) → Stays w (leaving id client o w)
leaving_stays id client None w = λ is. is
leaving_stays id client (Some c) w =
    listening_stays id client (listener_of id client w) w _
    (λ l is. record { channels = is.channels; datagrams = more_posted w l (bye_datagram l.tuned ∷ []) (left_is l.tuned) is })

pub happens_stays : (e : WorldEvent) (w : World) → IsWorldOfBytes e → Stays w (happens e w)
unfolding happens
happens_stays (Hub e) w i = serving_stays e w i
happens_stays (Tune id client ssrc) w i = tuning_stays id client ssrc (channel_of id w.channels) w
happens_stays (Give number) w i = giving_stays number (datagram_at number w) w refl
happens_stays (Mcast id client n) w i = casting_stays id client n (channel_of id w.channels) w
happens_stays (Ask id client) w i = asking_stays id client (channel_of id w.channels) w
happens_stays (Drop id client) w i = leaving_stays id client (channel_of id w.channels) w
