-- A world stays right as something comes to its server: what the channels send is of their sources.
use Rattle.std.proofs.Common.{◌≡◌, ℕ, ◌<◌, ◌≤◌, ◌%◌, Bool, cond, List, [], ◌∷◌, ◌++◌, map, get_or, Option, Some, None, refl, ap, sym, ◌∙◌, subst, eqb}
use Rattle.std.specs.Prelude.{All, Contains}
use Rattle.std.specs.List.{AllByRecursion, flat_map}
use Rattle.std.proofs.lemmas.List.Concat.{flat_map-cons}
use Rattle.std.proofs.lemmas.List.Elements.{All-nil, All-head, All-tail, All-weaker, All-map, All-append, All-contains}
use Rattle.rams_model.specs.declared.{Order.Order, Event.Event, Held.Held}
use Rattle.rams_model.specs.declared.Order.TheVariants as order
use Rattle.rams_model.specs.declared.Event.TheVariants as event
use Rattle.rams_model.specs.Receiver.{again, brought_again}
use Rattle.rams_model.specs.Service.{datagram, answer, history_of}
use Rattle.rams_model.proofs.Legality.{found}
use Rattle.server_hub.specs.declared.HubEvent.{HubEvent}
use Rattle.server_hub.specs.declared.HubEvent.TheVariants as hub
use Rattle.server_hub.specs.{id_of, with_event, channel_of, after_event}
use Rattle.server_hub.specs.Served.{Served}
use Rattle.meet_loop.specs.world_laws.{Datagram, IsAgain, EachPacketOfTheSourceCame, source_of, as_it_came, IsTunedTo, HasFields, sent, sent_by, sent_where, all_sent, serving}
use Rattle.meet_loop.specs.world_laws.World.{World}
use Rattle.meet_loop.proofs.world_laws.Infos.{IsSoundOrder, answer_sound}
use Rattle.meet_loop.proofs.world_laws.Informing.{told_read}
use Rattle.meet_loop.proofs.world_laws.Kept.{IsKept, each_kept}
use Rattle.meet_loop.proofs.world_laws.Ordered.{answer_fine}
use Rattle.meet_loop.proofs.world_laws.Readings.{again_read}
use Rattle.meet_loop.proofs.world_laws.Right.{IsWell, IsRightSent, IsRight, Changes, one_event, one_changes, all_change, found_after, right_after}
use Rattle.service_laws.specs.byte_laws.{HasBytes}
use Rattle.service_laws.proofs.book_laws.CameBefore.{came_in_time}

-- a packet of the source is kept
pub source_kept : (c : Served) → AllByRecursion HasBytes c.events → (h : Held) → Contains (source_of c) h → IsKept c.settings.channel (as_it_came c.settings c.events) h
source_kept c bytes h has = each_kept c.settings c.events bytes h (came_in_time c.settings (history_of c.settings c.events) h has)

pub source_came : EachPacketOfTheSourceCame
source_came c bytes h has =
    let k = source_kept c bytes h has in
    record { bytes = k.bytes; came = k.came; packet = k.packet; is_read = k.is_read; media = k.media; kind = k.kind; low = k.low; high = k.high; is_it = k.is_it }

-- what a channel sends, if it is found under its number afterwards
order_right : (new : List Served) (c later : Served) → later.settings ≡ c.settings → channel_of (id_of c) new ≡ Some later → AllByRecursion HasBytes later.events → c.settings.channel.rtx < 128
    → (o : Order) → IsAgain (source_of later) o → (HasFields c.settings → IsSoundOrder o) → IsRightSent new (sent c o)
unfolding datagram
order_right new c later same is bytes rtx (order.Info client info) i sound =
    record {
      channel = later;
      found = is;
      info = info;
      read = λ fields t tuned.
          let f = subst HasFields same fields in told_read c.settings info t f (sound f) (subst (λ s. IsTunedTo s.channel t) same tuned);
    }
order_right new c later same is bytes rtx (order.Rtx client n q packet) i sound =
    let kept = source_kept later bytes i.h i.of_source in
    record {
      channel = later;
      found = is;
      h = i.h;
      of_source = i.of_source;
      number = i.number;
      high = subst (λ (m : ℕ). 65536 ≤ m) i.number kept.high;
      sequence = q;
      read = λ t tuned.
          subst (λ (p : List ℕ). brought_again t (datagram c.settings (order.Rtx client n q p)) ≡ again q (n % 65536) i.h.packet) i.is_it
          (subst (λ (m : ℕ). brought_again t (datagram c.settings (order.Rtx client n q i.h.packet)) ≡ again q (m % 65536) i.h.packet) i.number
          (again_read c.settings (as_it_came later.settings later.events) i.h t client n q (subst (λ s. IsKept s.channel (as_it_came later.settings later.events) i.h) same kept)
          (subst (λ s. IsTunedTo s.channel t) same tuned) i.few rtx));
    }

answer_right : (new : List Served) (e : Event) (c : Served) → channel_of (id_of c) new ≡ Some (with_event e c) → AllByRecursion HasBytes (e ∷ c.events) → c.settings.channel.rtx < 128
    → All (IsRightSent new) (sent_by e c)
answer_right new e c is bytes rtx =
    let orders = (answer c.settings c.events e).orders in
    let hs = source_of (with_event e c) in
    All-map (IsRightSent new) (sent c) orders
    (λ k o within. order_right new c (with_event e c) refl is bytes rtx (get_or orders k o) (answer_fine c.settings c.events e k o within) (λ fields. answer_sound c.settings fields c.events e k o within))

-- an event of one channel
where_right : (old : List Served) (id : ℕ) (e : Event) (o : Option Served) → channel_of id old ≡ o → HasBytes e → All (IsWell old) old
    → All (IsRightSent (map (one_event id e) old)) (sent_where e o)
where_right old id e None is small well = All-nil (IsRightSent (map (one_event id e) old))
where_right old id e (Some c) is small well =
    let new = map (one_event id e) old in
    let at = found (λ (x : Served). eqb (id_of x) id) old c is in
    let w = All-contains (IsWell old) old c well at.0 in
    let later : one_event id e c ≡ with_event e c = ap (λ (b : Bool). cond b (with_event e c) c) at.1 in
    answer_right new e c (found_after old new (one_changes id e old small) (id_of c) c w.found ∙ ap (λ (x : Served). Some x) later) (small, w.bytes) w.rtx

all_flat : {A B : Type 0} (P : B → Type 0) (f : A → List B) (xs : List A) → All (λ x. All P (f x)) xs → All P (flat_map f xs)
all_flat P f [] a = All-nil P
all_flat P f (x ∷ xs) a =
    subst (All P) (sym (flat_map-cons f x xs))
    (All-append P (f x) (flat_map f xs) (All-head (λ y. All P (f y)) x xs a) (all_flat P f xs (All-tail (λ y. All P (f y)) x xs a)))

-- a tick
tick_right : (old : List Served) → All (IsWell old) old → All (IsRightSent (map (with_event event.Tick) old)) (flat_map (sent_by event.Tick) old)
tick_right old well =
    let new = map (with_event event.Tick) old in
    all_flat (IsRightSent new) (sent_by event.Tick) old
    (All-weaker (IsWell old) (λ c. All (IsRightSent new) (sent_by event.Tick c))
    (λ c w. answer_right new event.Tick c (found_after old new (all_change old) (id_of c) c w.found) (tt, w.bytes) w.rtx) old well)

-- what comes to the server has bytes
abbrev pub BringsTo : HubEvent → Type 0
BringsTo (hub.Live id bytes) = All (λ b. b < 256) bytes
BringsTo (hub.Feedback id client bytes) = Unit {0}
BringsTo hub.Tick = Unit {0}

all_right : (e : HubEvent) (old : List Served) → BringsTo e → All (IsWell old) old → Changes old (after_event e old) × All (IsRightSent (after_event e old)) (all_sent e old)
all_right (hub.Live id bytes) old small well = (one_changes id (event.Live bytes) old small, where_right old id (event.Live bytes) (channel_of id old) refl small well)
all_right (hub.Feedback id client bytes) old small well =
    (one_changes id (event.Feedback client bytes) old tt, where_right old id (event.Feedback client bytes) (channel_of id old) refl tt well)
all_right hub.Tick old small well = (all_change old, tick_right old well)

pub more_sent : (w : World) (ds : List Datagram) → IsRight w → All (IsRightSent w.channels) ds → IsRight (record w { datagrams = w.datagrams ++ ds })
more_sent w ds i a =
    record { channels = i.channels; datagrams = All-append (IsRightSent w.channels) w.datagrams ds i.datagrams a; listeners = i.listeners }

pub serving_right : (e : HubEvent) (w : World) → BringsTo e → IsRight w → IsRight (serving e w).world
serving_right e w small i =
    let new = after_event e w.channels in
    let r = all_right e w.channels small i.channels in
    more_sent (record w { channels = new }) (all_sent e w.channels) (right_after w new r.0 i) r.1
