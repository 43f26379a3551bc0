-- What is true of the channels, the datagrams and the receivers of a world, and stays true as channels get events.
use Rattle.std.proofs.Common.{◌≡◌, ℕ, ◌<◌, ◌≤◌, ◌%◌, Bool, true, false, cond, List, [], ◌∷◌, map, Option, Some, None, option_map, refl, ap, sym, ◌∙◌, subst, eqb}
use Rattle.std.specs.Prelude.{All, Contains}
use Rattle.std.specs.List.{AllByRecursion}
use Rattle.std.proofs.lemmas.Bool.{cond_both}
use Rattle.std.proofs.lemmas.List.Elements.{All-weaker, All-map}
use Rattle.rams_model.specs.declared.{Event.Event, Held.Held, Tuned.Tuned, Info.Info}
use Rattle.rams_model.specs.declared.Event.TheVariants as event
use Rattle.rams_model.specs.Receiver.{informs, told_by, Media, again, multicast, unfit, brought_again, Turn, hears, delivers, presents, reception, shown_now}
use Rattle.service_laws.specs.receiver_laws.Fair.{IsOf, IsFair, AreFair}
use Rattle.service_laws.specs.byte_laws.{HasBytes}
use Rattle.server_hub.specs.{id_of, with_event, channel_of}
use Rattle.server_hub.specs.Served.{Served}
use Rattle.meet_loop.specs.world_laws.{Way, posts, tells, repeats, Datagram, Listener, source_of, IsTunedTo, AreMedia, HasFields, AreInfos}
use Rattle.meet_loop.specs.world_laws.World.{World}
use Rattle.meet_loop.proofs.world_laws.Ordered.{source_grows_by}

-- a channel is found under its number, and had bytes
pub record IsWell (channels : List Served) (c : Served) : Type 0 where
  pub found : channel_of (id_of c) channels ≡ Some c
  pub bytes : AllByRecursion HasBytes c.events
  pub rtx : c.settings.channel.rtx < 128

-- each receiver of the channel reads the datagram as the source's packet of this number
pub record Repeats (channels : List Served) (d : Datagram) (n : ℕ) : Type 0 where
  pub channel : Served
  pub found : channel_of d.id channels ≡ Some channel
  pub h : Held
  pub of_source : Contains (source_of channel) h
  pub number : h.n ≡ n
  pub high : 65536 ≤ n
  pub sequence : ℕ
  pub read : (t : Tuned) → IsTunedTo channel.settings.channel t → brought_again t d.bytes ≡ again sequence (n % 65536) h.packet

-- each receiver of the channel reads the datagram as this RAMS-I
pub record Informs (channels : List Served) (d : Datagram) : Type 0 where
  pub channel : Served
  pub found : channel_of d.id channels ≡ Some channel
  pub info : Info
  pub read : HasFields channel.settings → (t : Tuned) → IsTunedTo channel.settings.channel t → told_by t d.bytes ≡ informs info

abbrev pub IsSentBy : List Served → Datagram → Way → Type 0
IsSentBy channels d posts = Unit {0}
IsSentBy channels d tells = Informs channels d
IsSentBy channels d (repeats n) = Repeats channels d n

abbrev pub IsRightSent : List Served → Datagram → Type 0
IsRightSent channels d = IsSentBy channels d d.way

-- what was delivered to a receiver is fair and fit, and nothing more can be presented
pub record IsRightListener (channels : List Served) (l : Listener) : Type 0 where
  pub channel : Served
  pub found : channel_of l.id channels ≡ Some channel
  pub tuned : IsTunedTo channel.settings.channel l.tuned
  pub fair : AreFair (source_of channel) l.turns
  pub media : AreMedia l.turns
  pub infos : HasFields channel.settings → AreInfos l.turns
  pub settled : shown_now (reception l.turns) ≡ None

pub record IsRight (w : World) : Type 0 where
  pub channels : All (IsWell w.channels) w.channels
  pub datagrams : All (IsRightSent w.channels) w.datagrams
  pub listeners : All (IsRightListener w.channels) w.listeners

-- ---- channels go on

-- a channel as it was, or later
pub record GoesOn (c later : Served) : Type 0 where
  pub settings : later.settings ≡ c.settings
  pub grows : (h : Held) → Contains (source_of c) h → Contains (source_of later) h

pub stays : (c : Served) → GoesOn c c
stays c = record { settings = refl; grows = λ h has. has }

pub with_one : (e : Event) (c : Served) → GoesOn c (with_event e c)
with_one e c = record { settings = refl; grows = λ h has. source_grows_by c.settings e c.events h has }

-- what an event does to each channel
pub record Changes (old new : List Served) : Type 0 where
  pub f : Served → Served
  pub is_map : new ≡ map f old
  pub goes : (c : Served) → GoesOn c (f c)
  pub bytes : (c : Served) → AllByRecursion HasBytes c.events → AllByRecursion HasBytes (f c).events

-- the channel of this number gets an event
abbrev pub one_event : ℕ → Event → Served → Served
one_event id e c = cond (eqb (id_of c) id) (with_event e c) c

abbrev pub one_changes : (id : ℕ) (e : Event) (channels : List Served) → HasBytes e → Changes channels (map (one_event id e) channels)
one_changes id e channels small = record {
  f = one_event id e;
  is_map = refl;
  goes = λ c. cond_both (eqb (id_of c) id) (with_event e c) c (GoesOn c) (λ t. with_one e c) (λ f. stays c);
  bytes = λ c b. cond_both (eqb (id_of c) id) (with_event e c) c (λ (x : Served). AllByRecursion HasBytes x.events) (λ t. (small, b)) (λ f. b);
}

abbrev pub all_change : (channels : List Served) → Changes channels (map (with_event event.Tick) channels)
all_change channels = record { f = with_event event.Tick; is_map = refl; goes = with_one event.Tick; bytes = λ c b. (tt, b) }

-- a channel is found after an event where it was found before
pub found_in_map : (f : Served → Served) → ((c : Served) → id_of (f c) ≡ id_of c) → (id : ℕ) (channels : List Served) → channel_of id (map f channels) ≡ option_map f (channel_of id channels)
found_in_map f keeps id [] = refl
found_in_map f keeps id (c ∷ cs) =
    ap (λ (i : ℕ). cond (eqb i id) (Some (f c)) (channel_of id (map f cs))) (keeps c)
    ∙ (ap (λ (o : Option Served). cond (eqb (id_of c) id) (Some (f c)) o) (found_in_map f keeps id cs) ∙ either (eqb (id_of c) id))
  where
    either : (b : Bool) → cond b (Some (f c)) (option_map f (channel_of id cs)) ≡ option_map f (cond b (Some c) (channel_of id cs))
    either true = refl
    either false = refl

pub found_after : (old new : List Served) (k : Changes old new) (id : ℕ) (c : Served) → channel_of id old ≡ Some c → channel_of id new ≡ Some (k.f c)
found_after old new k id c e =
    ap (channel_of id) k.is_map ∙ (found_in_map k.f (λ x. ap (λ s. s.channel.id) (k.goes x).settings) id old ∙ ap (option_map k.f) e)

-- ---- what was right stays right

of_grows : (old new : List Held) → ((h : Held) → Contains old h → Contains new h) → (x : ℕ) (packet : List ℕ) → IsOf old x packet → IsOf new x packet
of_grows old new grows x packet i = (i.0, grows i.0 i.1, i.2, i.3)

fair_grows : (old new : List Held) → ((h : Held) → Contains old h → Contains new h) → (turns : List Turn) (x : ℕ) (media : Media) → IsFair old turns x media → IsFair new turns x media
fair_grows old new grows turns x (again sequence low packet) i = (i.0, i.1, of_grows old new grows x packet i.2, i.3)
fair_grows old new grows turns x (multicast low packet) i = (i.0, of_grows old new grows x packet i.1, i.2)
fair_grows old new grows turns x (unfit why) i = tt

all_fair_grow : (old new : List Held) → ((h : Held) → Contains old h → Contains new h) → (turns : List Turn) → AreFair old turns → AreFair new turns
all_fair_grow old new grows [] a = tt
all_fair_grow old new grows (hears told ∷ turns) a = all_fair_grow old new grows turns a
all_fair_grow old new grows (delivers x media ∷ turns) a = (fair_grows old new grows turns x media a.0, all_fair_grow old new grows turns a.1)
all_fair_grow old new grows (presents ∷ turns) a = all_fair_grow old new grows turns a

sent_stays : (old new : List Served) → Changes old new → (d : Datagram) (way : Way) → IsSentBy old d way → IsSentBy new d way
sent_stays old new k d posts i = tt
sent_stays old new k d tells i =
    let g = k.goes i.channel in
    record {
      channel = k.f i.channel;
      found = found_after old new k d.id i.channel i.found;
      info = i.info;
      read = λ fields t tuned. i.read (subst HasFields g.settings fields) t (subst (λ s. IsTunedTo s.channel t) g.settings tuned);
    }
sent_stays old new k d (repeats n) i =
    let g = k.goes i.channel in
    record {
      channel = k.f i.channel;
      found = found_after old new k d.id i.channel i.found;
      h = i.h;
      of_source = g.grows i.h i.of_source;
      number = i.number;
      high = i.high;
      sequence = i.sequence;
      read = λ t tuned. i.read t (subst (λ s. IsTunedTo s.channel t) g.settings tuned);
    }

listener_stays : (old new : List Served) → Changes old new → (l : Listener) → IsRightListener old l → IsRightListener new l
listener_stays old new k l i =
    let g = k.goes i.channel in
    record {
      channel = k.f i.channel;
      found = found_after old new k l.id i.channel i.found;
      tuned = subst (λ s. IsTunedTo s.channel l.tuned) (sym g.settings) i.tuned;
      fair = all_fair_grow (source_of i.channel) (source_of (k.f i.channel)) g.grows l.turns i.fair;
      media = i.media;
      infos = λ fields. i.infos (subst HasFields g.settings fields);
      settled = i.settled;
    }

well_stays : (old new : List Served) (k : Changes old new) (c : Served) → IsWell old c → IsWell new (k.f c)
well_stays old new k c i =
    let g = k.goes c in
    record {
      found = subst (λ s. channel_of s.channel.id new ≡ Some (k.f c)) (sym g.settings) (found_after old new k (id_of c) c i.found);
      bytes = k.bytes c i.bytes;
      rtx = subst (λ s. s.channel.rtx < 128) (sym g.settings) i.rtx;
    }

-- so is the world whose channels got an event, apart from what they send
pub right_after : (w : World) (new : List Served) → Changes w.channels new → IsRight w → IsRight (record w { channels = new })
right_after w new k i =
    let old = w.channels in
    record {
      channels = subst (All (IsWell new)) (sym k.is_map) (All-map (IsWell new) k.f old (All-weaker (IsWell old) (λ c. IsWell new (k.f c)) (well_stays old new k) old i.channels));
      datagrams = All-weaker (IsRightSent old) (IsRightSent new) (λ d s. sent_stays old new k d d.way s) w.datagrams i.datagrams;
      listeners = All-weaker (IsRightListener old) (IsRightListener new) (listener_stays old new k) w.listeners i.listeners;
    }
