-- What is kept stands for the world after each event.
use Rattle.std.proofs.Common.{◌≡◌, ℕ, zero, suc, ◌+◌, ◌-◌, ◌^◌, ◌<◌, ◌≤◌, Bool, true, false, ◌&&◌, cond, eqb, ltb, List, [], ◌∷◌, ◌++◌, map, length, set, get_or, Option, None, Some, option_map, option_and_then, is_some, Result, Ok, Err, refl, sym, ap, ◌∙◌, subst, arith, append-nil}
use Rattle.std.specs.Prelude.{if◌then◌else◌, slice_get, IsSome, IfSome, OnOk}
use Rattle.std.specs.List.{list_any}
use Rattle.std.specs.Option.{option_or, option_to_list}
use Rattle.std.proofs.lemmas.Bool.{and_parts, eqb-true}
use Rattle.std.proofs.lemmas.List.{length-map, map-append}
use Rattle.std.proofs.lemmas.Option.{slice_get_within, slice_get-get_or}
use Rattle.rams_model.specs.Service.{Settings}
use Rattle.rams_model.specs.Packets.{has_number}
use Rattle.rams_model.specs.declared.{RtpFault.RtpFault, Tuned.Tuned}
use Rattle.rams_model.specs.declared.MediaCame.TheVariants as came
use Rattle.rams_model.specs.Formats.{Packet, packet_at, spelling, original, original_number}
use Rattle.rams_model.specs.Receiver.{Turn, Media, again, unfit, delivers, Reception, reception, source_first, brought_again, read_again, is_of, media_answer, join_answer, join_datagram, asked, bye_datagram, request_datagram}
use Rattle.receiver_core.specs.{reach, just_tuned}
use Rattle.receiver_core.specs.States.{Seen}
use Rattle.server_hub.specs.declared.HubEvent.{HubEvent}
use Rattle.server_hub.specs.declared.HubEvent.TheVariants as hub
use Rattle.server_hub.specs.Seen as hubs
use Rattle.server_hub.specs.{IsHub, KeepsSettings, settings_of, Pairwise, Told, told_to, after_event, channel_of, hi_of, id_of}
use Rattle.server_hub.specs.Served.{Served}
use Rattle.server_hub.proofs.Changing.{same_settings}
use Rattle.server_hub.proofs.Pairing.{pair_more, pair_set, same_length}
use Rattle.meet_loop.specs.world_laws.World.{Way, Datagram, Listener, World, Step, note}
use Rattle.meet_loop.specs.declared.{world_laws.world.WorldItem.WorldItem, world_laws.world.WorldNote.WorldNote}
use Rattle.meet_loop.specs.declared.{world_net.parts.Parts.Parts, world_net.seat.Seat.Seat}
use Rattle.meet_loop.specs.declared.world_laws.world.WorldItem.TheVariants as item
use Rattle.meet_loop.specs.world_laws.{listener_of, listens, first_replaced, presented_all, posted, after_turns, all_sent, serving, refused, if_listening, next_number, is_too_far, delivering, delivering_near, source_of, packet_of_source, as_it_came, post_all, leave, is_listener, tuned_to, new_listener, with_listener, tuning, datagram_at, giving, giving_by}
use Rattle.meet_loop.specs.world_net.{kept_of, CameAtMost, Goes, EndsAt, EndsSo, packet_below, seat_is_too_far, Kept, KeptFor, Packed, packet_in, at_pair, if_there, listening_at, came_at, place_of, key_of, AreApart, Follows, FollowsBy, IsAt, Hears, HasFew, Took, KeepsHeard, told_notes, told_sent, post_at, posted_at}
use Rattle.meet_loop.proofs.world_net.Answered.{settings_all, told_is_said}
use Rattle.meet_loop.proofs.world_net.CameLive.{found_id, live_kept, feedback_kept, tick_kept}
use Rattle.meet_loop.proofs.world_net.Counting.{far_is}
use Rattle.meet_loop.proofs.world_net.HighPackets.{in_source}
use Rattle.meet_loop.proofs.world_net.Listeners.{found, somebody, nobody, gone, there, same_keys, place_more, apart_more}

-- ---- what comes to the server

packets_after : (h : HubEvent) (channels : List Served) (old new : (ℕ → ℕ → Option (List ℕ))) → ((i n : ℕ) → old i n ≡ came_at (channel_of i channels) n)
    → KeepsHeard h (told_to h channels) old new → (i n : ℕ) → new i n ≡ came_at (channel_of i (after_event h channels)) n
packets_after (hub.Live id bytes) channels old new was keeps i n = live_kept channels id bytes old new was keeps i n
packets_after (hub.Feedback id client bytes) channels old new was keeps i n = keeps i n ∙ was i n ∙ feedback_kept channels id client bytes i n
packets_after hub.Tick channels old new was keeps i n = keeps i n ∙ was i n ∙ tick_kept channels i n

pub served : (h : HubEvent) (w : World) (v : Kept) (later : hubs.Seen) (t : Told) (packets : Packed) (parcels : List Datagram) (old new : List WorldNote) → KeptFor v w
    → (t ≡ told_to h w.channels) × hubs.StandsFor later (after_event h w.channels) → KeepsSettings v.hub later → (h ≡ hub.Tick → IsHub later) → KeepsHeard h t (packet_in v.packets) (packet_in packets)
    → new ≡ old ++ told_notes (settings_of later) t → parcels ≡ v.parcels ++ told_sent (settings_of later) t
    → (new ≡ old ++ (serving h w).notes) × KeptFor (record { hub = later; packets = packets; parcels = parcels; places = v.places; seats = v.seats }) (serving h w).world
served h w v later t packets parcels old new k answered keeps lawful kept said sent =
    let all : settings_of later ≡ settings_all w.channels = keeps.settings ∙ same_settings v.hub.channels w.channels k.hub in
    let both = told_is_said h (settings_of later) w.channels all (λ e. (lawful e).channels.once) in
    let notes : told_notes (settings_of later) t ≡ (serving h w).notes = ap (told_notes (settings_of later)) answered.0 ∙ both.0 in
    let datagrams : told_sent (settings_of later) t ≡ all_sent h w.channels = ap (told_sent (settings_of later)) answered.0 ∙ both.1 in (
      said ∙ ap (λ (l : List WorldNote). old ++ l) notes,
      record {
        hub = answered.1;
        packets = packets_after h w.channels (packet_in v.packets) (packet_in packets) k.packets (subst (λ (x : Told). KeepsHeard h x (packet_in v.packets) (packet_in packets)) answered.0 kept);
        parcels = sent ∙ ap (λ (l : List Datagram). v.parcels ++ l) datagrams ∙ ap (λ (l : List Datagram). l ++ all_sent h w.channels) k.parcels;
        places = k.places;
        apart = k.apart;
        seats = k.seats;
      },
    )

-- ---- a seat

-- A receiver that hasn't left, at a place.
pub record Sits (v : Kept) (id client place : ℕ) : Type 0 where
  pub within : place < length v.seats
  pub seat : Seat
  pub is_there : slice_get v.seats place ≡ Some seat
  pub receiver : Seen
  pub has : seat.receiver ≡ Some receiver
  pub key : at_pair v.places id client ≡ Some place

held_by : (o : Option Seen) (s : Seat) (p place : ℕ) → s.receiver ≡ o → cond (is_some o) (Some p) None ≡ Some place → (r : Seen) × (s.receiver ≡ Some r) × (p ≡ place)
held_by None s p place is e = absurd cc
held_by (Some r) s p place is e = (r, is, cc e)

seat_by : (v : Kept) (id client p place : ℕ) (o : Option Seat) → at_pair v.places id client ≡ Some p → slice_get v.seats p ≡ o → if_there p o ≡ Some place → Sits v id client place
seat_by v id client p place None key is e = absurd cc
seat_by v id client p place (Some s) key is e =
    let h = held_by s.receiver s p place refl e in
    let at : slice_get v.seats place ≡ Some s = ap (slice_get v.seats) (sym h.2) ∙ is in
    record { within = slice_get_within v.seats place s at; seat = s; is_there = at; receiver = h.0; has = h.1; key = key ∙ ap Some h.2 }

place_by : (v : Kept) (id client place : ℕ) (o : Option ℕ) → at_pair v.places id client ≡ o → option_and_then (λ p. if_there p (slice_get v.seats p)) o ≡ Some place → Sits v id client place
place_by v id client place None key e = absurd cc
place_by v id client place (Some p) key e = seat_by v id client p place (slice_get v.seats p) key refl e

pub sits : (v : Kept) (id client place : ℕ) → Some place ≡ listening_at v id client → Sits v id client place
sits v id client place e = place_by v id client place (at_pair v.places id client) refl (sym e)

-- the seat that stands at the place
pub seat_is : (v : Kept) (id client place : ℕ) (s : Sits v id client place) (d : Seat) → d ≡ get_or v.seats place d → d ≡ s.seat
seat_is v id client place s d is =
    let at = slice_get-get_or v.seats place d s.within in
    let same : get_or v.seats place d ≡ s.seat = cc (at, s.is_there) in
    is ∙ same

pub seat_has : (v : Kept) (id client place : ℕ) (s : Sits v id client place) (d : Seat) → d ≡ get_or v.seats place d → d.receiver ≡ Some s.receiver
seat_has v id client place s d is = ap (λ (x : Seat). x.receiver) (seat_is v id client place s d is) ∙ s.has

pub seat_there : (v : Kept) (id client place : ℕ) (s : Sits v id client place) (d : Seat) → d ≡ get_or v.seats place d → IsSome d.receiver
seat_there v id client place s d is = ap is_some (seat_has v id client place s d is)

few_more : (o : Option Seen) → IfSome o (λ r. reach r ≤ 2 ^ 40 - 1) → IfSome o (λ r. reach r < 2 ^ 40)
few_more None h = tt
few_more (Some r) h = omega (arith, h)

pub seat_few : (v : Kept) (id client place : ℕ) (s : Sits v id client place) (d : Seat) → d ≡ get_or v.seats place d → ((k : ℕ) (x : Seat) → k < length v.seats → HasFew (2 ^ 40 - 1) (get_or v.seats k x))
    → IfSome d.receiver (λ r. reach r < 2 ^ 40)
seat_few v id client place s d is few = few_more d.receiver (subst (λ (x : Seat). HasFew (2 ^ 40 - 1) x) (sym is) (few place d s.within))

-- ---- a listener

-- The listener that a seat stands for.
pub record Listens (v : Kept) (w : World) (id client place : ℕ) (s : Sits v id client place) : Type 0 where
  pub listener : Listener
  pub its : slice_get w.listeners place ≡ Some listener
  pub follows : Follows s.seat listener
  pub at : IsAt id client listener
  pub found : listener_of id client w ≡ Some listener
  pub replaced : (new : Listener) → first_replaced (listens listener.id listener.tuned.client) new w.listeners ≡ set w.listeners place new

-- what stands at the place of an element of the second list
other : {A B : Type 0} (R : A → B → Type 0) (xs : List A) (ys : List B) (place : ℕ) (y : B) → Pairwise R xs ys → slice_get ys place ≡ Some y → (x : A) × (slice_get xs place ≡ Some x) × R x y
other R [] [] place y p is = absurd cc
other R [] (b ∷ ys) place y p is = absurd p
other R (a ∷ xs) [] place y p is = absurd p
other R (a ∷ xs) (b ∷ ys) zero y p is = (a, refl, subst (R a) (cc is) p.0)
other R (a ∷ xs) (b ∷ ys) (suc place) y p is = other R xs ys place y p.1 is

pub listens_there : (v : Kept) (w : World) (id client place : ℕ) (s : Sits v id client place) → KeptFor v w → Listens v w id client place s
listens_there v w id client place s k =
    let key : place_of id client (map key_of w.listeners) ≡ Some place = sym (k.places id client) ∙ s.key in
    let f = found id client place w.listeners key in
    let o = other Follows v.seats w.listeners place f.0 k.seats f.1 in
    let same : o.0 ≡ s.seat = cc (o.1, s.is_there) in
    let follows : Follows s.seat f.0 = subst (λ (x : Seat). Follows x f.0) same o.2 in
    let hears : Hears s.receiver s.seat.first f.0 = subst (λ (x : Option Seen). FollowsBy x s.seat.first f.0) s.has follows in
    let t = there id client place f.0 w.listeners key f.1 hears.stays in
    record {
      listener = f.0;
      its = f.1;
      follows = follows;
      at = f.2;
      found = t.0;
      replaced = λ new. ap (λ (i : ℕ). first_replaced (listens i f.0.tuned.client) new w.listeners) f.2.0
          ∙ (ap (λ (c : ℕ). first_replaced (listens id c) new w.listeners) f.2.1 ∙ t.1 new);
    }

-- no listener where no receiver sits
left_by : (v : Kept) (w : World) (id client place : ℕ) (o : Option Seen) (s : Seat) (l : Listener) → KeptFor v w → place_of id client (map key_of w.listeners) ≡ Some place → slice_get w.listeners place ≡ Some l
    → s.receiver ≡ o → cond {A = Option ℕ} (is_some o) (Some place) None ≡ None → Follows s l → listener_of id client w ≡ None
left_by v w id client place None s l k key its is e follows =
    gone id client place l w.listeners k.apart key its (subst (λ (x : Option Seen). FollowsBy x s.first l) is follows)
left_by v w id client place (Some r) s l k key its is e follows = absurd cc

none_by : (v : Kept) (w : World) (id client : ℕ) (o : Option ℕ) → KeptFor v w → at_pair v.places id client ≡ o → option_and_then (λ p. if_there p (slice_get v.seats p)) o ≡ None → listener_of id client w ≡ None
none_by v w id client None k key e = (nobody id client w.listeners (sym (k.places id client) ∙ key)).0
none_by v w id client (Some place) k key e =
    let at : place_of id client (map key_of w.listeners) ≡ Some place = sym (k.places id client) ∙ key in
    let f = found id client place w.listeners at in
    let o = other Follows v.seats w.listeners place f.0 k.seats f.1 in
    left_by v w id client place o.0.receiver o.0 f.0 k at f.1 refl (sym (ap (if_there place) o.1) ∙ e) o.2

pub none_listens : (v : Kept) (w : World) (id client : ℕ) → None ≡ listening_at v id client → KeptFor v w → listener_of id client w ≡ None
none_listens v w id client e k = none_by v w id client (at_pair v.places id client) k refl (sym e)

-- ---- after turns

-- one seat and its listener changed, and more was posted
pub moved : (v : Kept) (w : World) (place : ℕ) (seat : Seat) (l new : Listener) (ls : List Listener) (parcels more : List Datagram) → KeptFor v w → slice_get w.listeners place ≡ Some l → key_of new ≡ key_of l → Follows seat new
    → ls ≡ set w.listeners place new → parcels ≡ v.parcels ++ more
    → KeptFor (record { hub = v.hub; packets = v.packets; parcels = parcels; places = v.places; seats = set v.seats place seat }) (record w { datagrams = w.datagrams ++ more; listeners = ls })
moved v w place seat l new ls parcels more k its same follows is sent =
    let keys : map key_of ls ≡ map key_of w.listeners = ap (map key_of) is ∙ same_keys place l new w.listeners its same in
    record {
      hub = k.hub;
      packets = k.packets;
      parcels = sent ∙ ap (λ (d : List Datagram). d ++ more) k.parcels;
      places = λ id client. k.places id client ∙ ap (place_of id client) (sym keys);
      apart = subst AreApart (sym keys) k.apart;
      seats = subst (Pairwise Follows (set v.seats place seat)) (sym is) (pair_set Follows v.seats w.listeners place seat new k.seats follows);
    }

pub turned : (v : Kept) (w : World) (id client place : ℕ) (s : Sits v id client place) (x : Listens v w id client place s) (said : WorldItem) (turns : List Turn) (sent : List (List ℕ)) (seat : Seat)
    (old new : List WorldNote) (before now parcels : List Datagram) → KeptFor v w → Took said turns sent x.listener old new before now seat → parcels ≡ v.parcels ++ map (posted x.listener) sent
    → let step = after_turns (note x.listener.id said) turns sent x.listener w in
    (new ≡ old ++ step.notes) × KeptFor (record { hub = v.hub; packets = v.packets; parcels = parcels; places = v.places; seats = set v.seats place seat }) step.world
turned v w id client place s x said turns sent seat old new before now parcels k t is =
    (t.notes, moved v w place seat x.listener (presented_all turns x.listener) _ parcels (map (posted x.listener) sent) k x.its refl t.seat (x.replaced (presented_all turns x.listener)) is)

-- ---- of what holds where a call goes well

pub ok_then : {X E A B : Type 0} (r : Result X E) → OnOk r A → (A → B) → OnOk r B
ok_then (Ok x) a f = f a
ok_then (Err e) a f = tt

-- a datagram at its place
pub parcel_is : (all : List Datagram) (at : ℕ) (d x : Datagram) → at < length all → slice_get all at ≡ Some d → x ≡ get_or all at x → x ≡ d
parcel_is all at d x below is e = let same : get_or all at x ≡ d = cc (slice_get-get_or all at x below, is) in e ∙ same

-- a client has no receiver
pub not_listening : (v : Kept) (w : World) (id client : ℕ) (f : Listener → Step) (old new : List WorldNote) → KeptFor v w → None ≡ listening_at v id client → new ≡ old ++ note id (item.NoReceiver client) ∷ []
    → let s = if_listening id client (listener_of id client w) w f in (new ≡ old ++ s.notes) × KeptFor v s.world
not_listening v w id client f old new k none said =
    subst (λ (o : Option Listener). (new ≡ old ++ (if_listening id client o w f).notes) × KeptFor v (if_listening id client o w f).world) (sym (none_listens v w id client none k)) (said, k)

-- a client has one
pub is_listening : (v : Kept) (w : World) (id client place : ℕ) (s : Sits v id client place) (x : Listens v w id client place s) (f : Listener → Step) (P : Step → Type 0) → P (f x.listener)
    → P (if_listening id client (listener_of id client w) w f)
is_listening v w id client place s x f P p = subst (λ (o : Option Listener). P (if_listening id client o w f)) (sym x.found) p

-- a step whose notes were said, and whose world is kept
abbrev pub Went : Kept → List WorldNote → List WorldNote → Step → Type 0
Went v old new s = (new ≡ old ++ s.notes) × KeptFor v s.world

-- what is too far away, and what is not
pub too_far : (v : Kept) (w : World) (id client x : ℕ) (media : Media) (l : Listener) (old new : List WorldNote) → KeptFor v w → IsAt id client l → is_too_far (next_number l.turns) x ≡ true
    → new ≡ old ++ note id (item.TooFar client) ∷ [] → Went v old new (delivering_near x media l w)
too_far v w id client x media l old new k at far said =
    subst (λ (b : Bool). Went v old new (if b then refused w l.id (item.TooFar l.tuned.client) else delivering x media l w)) (sym far)
    (said ∙ (ap (λ (i : ℕ). old ++ note i (item.TooFar client) ∷ []) (sym at.0) ∙ ap (λ (n : ℕ). old ++ note l.id (item.TooFar n) ∷ []) (sym at.1)), k)

pub near : (v : Kept) (w : World) (x : ℕ) (media : Media) (l : Listener) (old new : List WorldNote) → is_too_far (next_number l.turns) x ≡ false → Went v old new (delivering x media l w)
    → Went v old new (delivering_near x media l w)
near v w x media l old new far went = subst (λ (b : Bool). Went v old new (if b then refused w l.id (item.TooFar l.tuned.client) else delivering x media l w)) (sym far) went

-- whether a number is too far away, by the test of the seat
pub far_so : (v : Kept) (w : World) (id client place : ℕ) (s : Sits v id client place) (x : Listens v w id client place s) (n : ℕ) (d : Seat) (b r : Bool) → d ≡ get_or v.seats place d → r ≡ seat_is_too_far d n → r ≡ b
    → is_too_far (next_number x.listener.turns) n ≡ b
far_so v w id client place s x n d b r is far e =
    sym (far_is s.seat s.receiver x.listener n x.follows s.has) ∙ (sym (ap (λ (y : Seat). seat_is_too_far y n) (seat_is v id client place s d is)) ∙ (sym far ∙ e))

-- the listener follows the seat that is changed
pub follows_so : (v : Kept) (w : World) (id client place : ℕ) (s : Sits v id client place) (x : Listens v w id client place s) (d : Seat) → d ≡ get_or v.seats place d → Follows d x.listener
follows_so v w id client place s x d is = subst (λ (y : Seat). Follows y x.listener) (sym (seat_is v id client place s d is)) x.follows

-- a step as a function's contract has it
pub as_goes : (v : Parts) (old new : List WorldNote) (s : Step) → Went (kept_of v) old new s → Goes s old new v
as_goes v old new s w = record { notes = w.0; stands = w.1 }

-- what is behind a map of an option
pub some_of : {A B : Type 0} (f : A → B) (o : Option A) (b : B) → Some b ≡ option_map f o → (a : A) × (o ≡ Some a) × (b ≡ f a)
some_of f None b e = absurd cc
some_of f (Some a) b e = (a, refl, cc e)

pub none_of : {A B : Type 0} (f : A → B) (o : Option A) → None ≡ option_map f o → o ≡ None
none_of f None e = refl
none_of f (Some a) e = absurd cc

-- the packet of the source is what came, below the end
source_by : (c : Served) (n : ℕ) (came : Option (List ℕ)) → 1 ≤ c.settings.channel.ring → as_it_came c.settings c.events n ≡ came → packet_of_source c n ≡ packet_below came n (hi_of c)
source_by c n None room is = ap (λ (o : Option (List ℕ)). cond (has_number n (source_of c)) o None) is ∙ (by (has_number n (source_of c)) ∙ sym (by (ltb n (hi_of c))))
  where
    by : (b : Bool) → cond {A = Option (List ℕ)} b None None ≡ None
    by true = refl
    by false = refl
source_by c n (Some got) room is =
    ap (λ (o : Option (List ℕ)). cond (has_number n (source_of c)) o None) is ∙ ap (λ (b : Bool). cond b (Some got) None) (in_source c n got room is)

pub source_is : (v : Kept) (w : World) (id n hi : ℕ) (e : EndsAt hi (channel_of id w.channels)) → KeptFor v w → packet_of_source e.channel n ≡ packet_below (packet_in v.packets id n) n hi
source_is v w id n hi e k =
    let came : packet_in v.packets id n ≡ as_it_came e.channel.settings e.channel.events n = k.packets id n ∙ ap (λ (o : Option Served). came_at o n) e.is_it in
    source_by e.channel n (packet_in v.packets id n) e.room (sym came) ∙ ap (packet_below (packet_in v.packets id n) n) (sym e.end)

-- a step of a channel's number, a client and bytes
pub of_three : (P : Step → Type 0) (g : ℕ → ℕ → List ℕ → Step) (a i b n : ℕ) (x y : List ℕ) → a ≡ i → b ≡ n → x ≡ y → P (g a b x) → P (g i n y)
of_three P g a i b n x y ai bn xy p =
    subst (λ (z : List ℕ). P (g i n z)) xy (subst (λ (m : ℕ). P (g i m x)) bn (subst (λ (m : ℕ). P (g m b x)) ai p))

-- a retransmission makes no receiver join
no_join : (t : Tuned) (o : Result Packet RtpFault) (r : Reception) → join_answer (read_again t o) r ≡ None
no_join t (Err fault) r = refl
no_join t (Ok p) r = by (ltb (length p.payload) 2) (is_of t t.rtx p)
  where
    by : (a b : Bool) → join_answer (cond a (unfit came.Bad) (cond b (again p.sequence (original_number p) (spelling (original p t.pt))) (unfit came.Foreign))) r ≡ None
    by true b = refl
    by false true = refl
    by false false = refl

pub again_delivers : (v : Kept) (w : World) (x : ℕ) (bytes : List ℕ) (l : Listener) (old new : List WorldNote)
    → Went v old new (after_turns (note l.id (item.Media l.tuned.client (media_answer (brought_again l.tuned bytes) (reception l.turns)))) (delivers x (brought_again l.tuned bytes) ∷ l.turns) [] l w)
    → Went v old new (delivering x (brought_again l.tuned bytes) l w)
again_delivers v w x bytes l old new went =
    subst (λ (o : Option ℕ). Went v old new (after_turns (note l.id (item.Media l.tuned.client (media_answer (brought_again l.tuned bytes) (reception l.turns)))) (delivers x (brought_again l.tuned bytes) ∷ l.turns)
    (option_to_list (option_map (join_datagram l.tuned) o)) l w)) (sym (no_join l.tuned (packet_at bytes) (reception l.turns))) went

-- a listener that is found, of a channel that is there
pub in_channel : (v : Kept) (old new : List WorldNote) (g : Option Served → Step) (o : Option Served) (c : Served) → o ≡ Some c → Went v old new (g (Some c)) → Went v old new (g o)
in_channel v old new g o c is went = subst (λ (x : Option Served). Went v old new (g x)) (sym is) went

-- datagrams are posted
pub posting : (v : Kept) (w : World) (id client : ℕ) (l : Listener) (all : List (List ℕ)) (old new : List WorldNote) (parcels : List Datagram) → KeptFor v w → IsAt id client l
    → new ≡ old ++ map (post_at id client) all → parcels ≡ v.parcels ++ map (posted_at id client) all
    → Went (record { hub = v.hub; packets = v.packets; parcels = parcels; places = v.places; seats = v.seats }) old new (post_all all l w)
posting v w id client l all old new parcels k at said sent = (
  said ∙ (ap (λ (i : ℕ). old ++ map (post_at i client) all) (sym at.0) ∙ ap (λ (n : ℕ). old ++ map (post_at l.id n) all) (sym at.1)),
  record {
    hub = k.hub;
    packets = k.packets;
    parcels = sent ∙ (ap (λ (i : ℕ). v.parcels ++ map (posted_at i client) all) (sym at.0)
        ∙ (ap (λ (n : ℕ). v.parcels ++ map (posted_at l.id n) all) (sym at.1) ∙ ap (λ (d : List Datagram). d ++ map (posted l) all) k.parcels));
    places = k.places;
    apart = k.apart;
    seats = k.seats;
  },
)

-- a listener leaves
pub left : (v : Kept) (w : World) (id client place : ℕ) (s : Sits v id client place) (x : Listens v w id client place s) (bytes : List ℕ) (first : Option ℕ) (old new : List WorldNote) (parcels : List Datagram) → KeptFor v w
    → bytes ≡ bye_datagram s.receiver.tuned → new ≡ old ++ post_at id client bytes ∷ [] → parcels ≡ v.parcels ++ posted_at id client bytes ∷ []
    → Went (record { hub = v.hub; packets = v.packets; parcels = parcels; places = v.places; seats = set v.seats place (record { receiver = None; first = first }) }) old new (leave x.listener w)
left v w id client place s x bytes first old new parcels k bye said sent =
    let l = x.listener in
    let gone_l : Listener = record l { left = true } in
    let h : Hears s.receiver s.seat.first l = subst (λ (o : Option Seen). FollowsBy o s.seat.first l) s.has x.follows in
    let its : bytes ≡ bye_datagram l.tuned = bye ∙ ap bye_datagram h.tuned in
    let later : World = record w { datagrams = w.datagrams ++ []; listeners = first_replaced (listens l.id l.tuned.client) gone_l w.listeners } in
    let m = moved v w place (record { receiver = None; first = first }) l gone_l (first_replaced (listens l.id l.tuned.client) gone_l w.listeners) v.parcels [] k x.its refl refl (x.replaced gone_l) (sym (append-nil v.parcels)) in
    let n : KeptFor (record { hub = v.hub; packets = v.packets; parcels = v.parcels; places = v.places; seats = set v.seats place (record { receiver = None; first = first }) })
    (record w { listeners = first_replaced (listens l.id l.tuned.client) gone_l w.listeners }) =
    record { hub = m.hub; packets = m.packets; parcels = k.parcels; places = m.places; apart = m.apart; seats = m.seats } in
    posting _ (record w { listeners = first_replaced (listens l.id l.tuned.client) gone_l w.listeners }) id client l (bye_datagram l.tuned ∷ []) old new parcels n x.at
    (said ∙ ap (λ (b : List ℕ). old ++ post_at id client b ∷ []) its) (sent ∙ ap (λ (b : List ℕ). v.parcels ++ posted_at id client b ∷ []) its)

-- a client that was tuned, or wasn't
pub was_tuned : (v : Kept) (w : World) (id client : ℕ) → KeptFor v w → is_some (at_pair v.places id client) ≡ true → list_any (is_listener id client) w.listeners ≡ true
was_tuned v w id client k has = by (at_pair v.places id client) refl has
  where
    by : (o : Option ℕ) → at_pair v.places id client ≡ o → is_some o ≡ true → list_any (is_listener id client) w.listeners ≡ true
    by None e h = absurd cc
    by (Some place) e h = somebody id client place w.listeners (sym (k.places id client) ∙ e)

pub not_tuned : (v : Kept) (w : World) (id client : ℕ) → KeptFor v w → is_some (at_pair v.places id client) ≡ false
    → (at_pair v.places id client ≡ None) × (list_any (is_listener id client) w.listeners ≡ false)
not_tuned v w id client k has = by (at_pair v.places id client) refl has
  where
    by : (o : Option ℕ) → at_pair v.places id client ≡ o → is_some o ≡ false → (at_pair v.places id client ≡ None) × (list_any (is_listener id client) w.listeners ≡ false)
    by None e h = (e, (nobody id client w.listeners (sym (k.places id client) ∙ e)).1)
    by (Some place) e h = absurd cc

place_tuned : (old key : Option ℕ) (b : Bool) (m : ℕ) → (b ≡ true → old ≡ None) → cond b (Some m) old ≡ option_or old (cond b (Some m) None)
place_tuned None key true m h = refl
place_tuned None key false m h = refl
place_tuned (Some p) key true m h = let no : Some p ≡ None = h refl in absurd cc
place_tuned (Some p) key false m h = refl

-- a receiver is tuned
pub tunes : (v : Kept) (w : World) (id client ssrc : ℕ) (c : Served) (r : Seen) (bytes : List ℕ) (places : List ((ℕ × ℕ) × ℕ)) (seats : List Seat) (parcels : List Datagram) (old new : List WorldNote) → KeptFor v w
    → channel_of id w.channels ≡ Some c → at_pair v.places id client ≡ None → list_any (is_listener id client) w.listeners ≡ false
    → r ≡ just_tuned (tuned_to c.settings client ssrc) → bytes ≡ request_datagram (tuned_to c.settings client ssrc)
    → ((i n : ℕ) → at_pair places i n ≡ cond (eqb id i && eqb client n) (Some (length v.seats)) (at_pair v.places i n))
    → seats ≡ v.seats ++ record { receiver = Some r; first = None } ∷ []
    → new ≡ old ++ post_at id client bytes ∷ [] → parcels ≡ v.parcels ++ posted_at id client bytes ∷ []
    → Went (record { hub = v.hub; packets = v.packets; parcels = parcels; places = places; seats = seats }) old new (tuning id client ssrc (channel_of id w.channels) w)
unfolding reception source_first
tunes v w id client ssrc c r bytes places seats parcels old new k channel none nobody_yet tuned request entered sat said sent =
    let l = new_listener c client ssrc in
    let its : id_of c ≡ id = found_id id w.channels c channel in
    let keys = map key_of w.listeners in
    let more : map key_of (w.listeners ++ l ∷ []) ≡ keys ++ (id_of c, client) ∷ [] = map-append key_of w.listeners (l ∷ []) in
    let count : length v.seats ≡ length keys = same_length Follows v.seats w.listeners k.seats ∙ sym (length-map w.listeners key_of) in
    let free : place_of (id_of c) client keys ≡ None = ap (λ (i : ℕ). place_of i client keys) its ∙ (sym (k.places id client) ∙ none) in
    let hears : Hears r None l = record {
      tuned = ap (λ (x : Seen). x.tuned) tuned;
      got = ap (λ (x : Seen). x.got) tuned;
      first = refl;
      stays = refl;
    } in
    let later : Kept = record { hub = v.hub; packets = v.packets; parcels = parcels; places = places; seats = seats } in
    let went : Went later old new (with_listener l w) = (
      said ∙ (ap (λ (b : List ℕ). old ++ post_at id client b ∷ []) request ∙ ap (λ (i : ℕ). old ++ post_at i client (request_datagram l.tuned) ∷ []) (sym its)),
      record {
        hub = k.hub;
        packets = k.packets;
        parcels = sent ∙ (ap (λ (b : List ℕ). v.parcels ++ posted_at id client b ∷ []) request
            ∙ (ap (λ (i : ℕ). v.parcels ++ posted_at i client (request_datagram l.tuned) ∷ []) (sym its) ∙ ap (λ (d : List Datagram). d ++ posted l (request_datagram l.tuned) ∷ []) k.parcels));
        places = λ i n. entered i n
            ∙ (ap (λ (o : Option ℕ). cond (eqb id i && eqb client n) (Some (length v.seats)) o) (k.places i n)
            ∙ (ap (λ (m : ℕ). cond (eqb id i && eqb client n) (Some m) (place_of i n keys)) count
            ∙ (place_tuned (place_of i n keys) None (eqb id i && eqb client n) (length keys)
            (λ t. let parts = and_parts (eqb id i) (eqb client n) t in
            ap (λ (a : ℕ). place_of a n keys) (sym (eqb-true id i parts.0)) ∙ (ap (λ (b : ℕ). place_of id b keys) (sym (eqb-true client n parts.1)) ∙ (sym (k.places id client) ∙ none)))
            ∙ (ap (λ (a : ℕ). option_or (place_of i n keys) (cond (eqb a i && eqb client n) (Some (length keys)) None)) (sym its)
            ∙ (sym (place_more i n (id_of c, client) keys) ∙ ap (place_of i n) (sym more))))));
        apart = subst AreApart (sym more) (apart_more (id_of c, client) keys k.apart free);
        seats = subst (λ (xs : List Seat). Pairwise Follows xs (w.listeners ++ l ∷ [])) (sym sat) (pair_more Follows v.seats w.listeners (record { receiver = Some r; first = None }) l k.seats hears);
      },
    ) in
    in_channel later old new (λ o. tuning id client ssrc o w) (channel_of id w.channels) c channel
    (subst (λ (b : Bool). Went later old new (if b then refused w id (item.TunedBefore client) else with_listener l w)) (sym nobody_yet) went)

pub tuned_before : (v : Kept) (w : World) (id client ssrc : ℕ) (c : Served) (old new : List WorldNote) → KeptFor v w → channel_of id w.channels ≡ Some c → list_any (is_listener id client) w.listeners ≡ true
    → new ≡ old ++ note id (item.TunedBefore client) ∷ [] → Went v old new (tuning id client ssrc (channel_of id w.channels) w)
tuned_before v w id client ssrc c old new k channel has said =
    in_channel v old new (λ o. tuning id client ssrc o w) (channel_of id w.channels) c channel
    (subst (λ (b : Bool). Went v old new (if b then refused w id (item.TunedBefore client) else with_listener (new_listener c client ssrc) w)) (sym has) (said, k))

-- what the receiver asks for is what the listener does
pub asks_so : (v : Kept) (w : World) (id client place : ℕ) (s : Sits v id client place) (x : Listens v w id client place s) (d : Seat) (r : Seen) (all : List (List ℕ)) → d ≡ get_or v.seats place d → d.receiver ≡ Some r
    → all ≡ asked r.tuned r.got → all ≡ asked x.listener.tuned (reception x.listener.turns)
asks_so v w id client place s x d r all is has asks =
    let same : s.receiver ≡ r = cc (sym (seat_has v id client place s d is) ∙ has) in
    let h : Hears s.receiver s.seat.first x.listener = subst (λ (o : Option Seen). FollowsBy o s.seat.first x.listener) s.has x.follows in
    asks ∙ (ap (λ (y : Seen). asked y.tuned y.got) (sym same) ∙ (ap (λ (t : Tuned). asked t s.receiver.got) h.tuned ∙ ap (asked x.listener.tuned) h.got))

-- the receiver that leaves is the one of the seat
pub byes_so : (v : Kept) (id client place : ℕ) (s : Sits v id client place) (d : Seat) (r : Seen) (bytes : List ℕ) → d ≡ get_or v.seats place d → Some r ≡ d.receiver → bytes ≡ bye_datagram r.tuned
    → bytes ≡ bye_datagram s.receiver.tuned
byes_so v id client place s d r bytes is took bye = let same : r ≡ s.receiver = cc (took ∙ seat_has v id client place s d is) in bye ∙ ap (λ (y : Seen). bye_datagram y.tuned) same

-- the end of a channel that is found
pub ends_so : (o : Option Served) (s : Settings) (hi : Option ℕ) → Some s ≡ option_map (λ c. c.settings) o → 1 ≤ s.channel.ring → hi ≡ option_map hi_of o → EndsSo hi o
ends_so None s hi is room end = absurd cc
ends_so (Some c) s hi is room end =
    let same : s ≡ c.settings = cc is in
    subst (λ (x : Option ℕ). EndsSo x (Some c)) (sym end) (record { channel = c; is_it = refl; end = refl; room = subst (λ (x : Settings). 1 ≤ x.channel.ring) same room })

-- a datagram that is there
pub given : (v : Kept) (w : World) (number : ℕ) (x : Datagram) (way : Way) (P : Step → Type 0) → KeptFor v w → number < length v.parcels → x ≡ get_or v.parcels number x → way ≡ x.way → P (giving_by way x w)
    → P (giving number (datagram_at number w) w)
given v w number x way P k below is its p =
    let there : slice_get v.parcels number ≡ Some (get_or v.parcels number x) = slice_get-get_or v.parcels number x below in
    let at : datagram_at number w ≡ Some x = ap (λ (l : List Datagram). slice_get l number) (sym k.parcels) ∙ (there ∙ ap Some (sym is)) in
    subst (λ (o : Option Datagram). P (giving number o w)) (sym at) (subst (λ (y : Way). P (giving_by y x w)) its p)

few_up : (m n : ℕ) (o : Option Seen) → m ≤ n → IfSome o (λ r. reach r ≤ m) → IfSome o (λ r. reach r ≤ n)
few_up m n None le h = tt
few_up m n (Some r) le h = omega (arith, le, h)

-- no more than so many are no more than a greater number
pub came_at_most : (m n : ℕ) (v : Kept) → m ≤ n → CameAtMost m v → CameAtMost n v
came_at_most m n v le f = record { hub = omega (arith, le, f.hub); seats = λ k d less. few_up m n (get_or v.seats k d).receiver le (f.seats k d less) }

-- no more than one more
pub are_few : (n : ℕ) (v : Kept) → CameAtMost n v → CameAtMost (n + 1) v
are_few n v f = came_at_most n (n + 1) v (omega arith) f
