-- Each event of a world leaves it right, so every world is.
use Rattle.std.proofs.Common.{◌≡◌, ℕ, ◌%◌, Bool, true, false, cond, ⊎_elim, List, [], ◌∷◌, Option, Some, None, refl, ap, sym, ◌∙◌, subst, arith, eqb}
use Rattle.std.specs.Prelude.{All, Contains, ◌||◌}
use Rattle.std.specs.List.{list_any, AllByRecursion}
use Rattle.std.proofs.lemmas.Bool.{cond_both, cases_Bool, true≢false, eqb-true}
use Rattle.std.proofs.lemmas.List.Elements.{All-nil, All-head, All-tail, All-weaker, All-contains, Contains-append_right, Contains-get_or}
use Rattle.std.proofs.lemmas.Option.{slice_get_within, get_or_from_slice_get}
use Rattle.rams_model.specs.declared.Held.{Held}
use Rattle.rams_model.specs.Packets.{has_number}
use Rattle.rams_model.specs.Receiver.{Media, multicast, brought_again, brought_by_multicast, told_by, reception, asked}
use Rattle.service_laws.specs.receiver_laws.{IsMedia}
use Rattle.service_laws.specs.receiver_laws.Fair.{IsFair}
use Rattle.service_laws.specs.byte_laws.{HasBytes}
use Rattle.rams_model.proofs.Legality.{found}
use Rattle.server_hub.specs.declared.HubEvent.TheVariants as hub
use Rattle.server_hub.specs.{id_of, channel_of}
use Rattle.server_hub.specs.Served.{Served}
use Rattle.meet_loop.specs.declared.world_laws.world.WorldEvent.{WorldEvent}
use Rattle.meet_loop.specs.declared.world_laws.world.WorldEvent.TheVariants.{Hub, Tune, Give, Mcast, Ask, Drop}
use Rattle.meet_loop.specs.declared.world_laws.world.WorldItem.TheVariants as item
use Rattle.meet_loop.specs.world_laws.{Way, posts, tells, repeats, Datagram, Listener, Step, refused, is_listener, datagram_at, IsTunedTo, IsNew, HasFields, IsInfo, BringsBytes, source_of, as_it_came, packet_of_source, delivering_near, hearing, new_listener, with_listener, tuning, giving_by, giving, casting_packet, casting, post_all, asking, leave, leaving, happens, world_after}
use Rattle.meet_loop.specs.world_laws.World.{World}
use Rattle.meet_loop.proofs.world_laws.Readings.{multicast_read}
use Rattle.meet_loop.proofs.world_laws.Right.{IsWell, Repeats, Informs, IsSentBy, IsRightSent, IsRightListener, IsRight}
use Rattle.meet_loop.proofs.world_laws.Serving.{source_kept, serving_right}
use Rattle.meet_loop.proofs.world_laws.Listening.{IsMeant, posting_right, hearing_right, delivering_right, tuned_right, leaving_right, listening_right}

-- the channel of a receiver is the one of its number
same_channel : (w : World) (id : ℕ) (l : Listener) (m : IsMeant w id l) (c : Served) → channel_of id w.channels ≡ Some c → m.right.channel ≡ c
same_channel w id l m c e =
    let at : Some m.right.channel ≡ Some c = sym m.right.found ∙ (ap (λ (i : ℕ). channel_of i w.channels) m.id_is ∙ e) in cc

-- ---- a packet comes by multicast

guarded : {A : Type 0} (b : Bool) (o : Option A) (x : A) → cond b o None ≡ Some x → (b ≡ true) × (o ≡ Some x)
guarded true o x e = (refl, e)
guarded false o x e = absurd cc

numbered_in : (n : ℕ) (hs : List Held) → has_number n hs ≡ true → (h : Held) × Contains hs h × (h.n ≡ n)
numbered_in n [] e = absurd (true≢false (sym e))
numbered_in n (x ∷ xs) e =
    ⊎_elim (λ t. (x, (0, omega arith, refl), eqb-true x.n n t))
    (λ f. let r = numbered_in n xs (ap (λ (b : Bool). b || has_number n xs) (sym f) ∙ e) in (r.0, Contains-append_right (x ∷ []) xs r.0 r.1, r.2)) (cases_Bool (eqb x.n n))

packet_right : (w : World) (id n : ℕ) (c : Served) (o : Option (List ℕ)) (l : Listener) → IsRight w → IsMeant w id l → channel_of id w.channels ≡ Some c → packet_of_source c n ≡ o
    → IsRight (casting_packet n o l w).world
packet_right w id n c None l i m at e = i
packet_right w id n c (Some bytes) l i m at e =
    let r = m.right in
    let is = guarded (has_number n (source_of c)) (as_it_came c.settings c.events n) bytes e in
    let h = numbered_in n (source_of c) is.0 in
    let well = All-contains (IsWell w.channels) w.channels c i.channels (found (λ (x : Served). eqb (id_of x) id) w.channels c at).0 in
    let kept = source_kept c well.bytes h.0 h.1 in
    let its = same_channel w id l m c at in
    let tuned = subst (λ (x : Served). IsTunedTo x.settings.channel l.tuned) its r.tuned in
    let read : brought_by_multicast l.tuned bytes ≡ multicast (n % 65536) h.0.packet =
    multicast_read c.settings.channel (as_it_came c.settings c.events) h.0 l.tuned bytes kept tuned (ap (as_it_came c.settings c.events) h.2 ∙ is.1)
    ∙ ap (λ (k : ℕ). multicast (k % 65536) h.0.packet) h.2 in
    delivering_right w n (brought_by_multicast l.tuned bytes) l i r (subst IsMedia (sym read) tt)
    (λ near. subst (λ (x : Media). IsFair (source_of r.channel) l.turns n x) (sym read)
    (refl, (h.0, subst (λ (x : Served). Contains (source_of x) h.0) (sym its) h.1, h.2, refl), near))

-- ---- a datagram is delivered

datagram_right : (w : World) (d : Datagram) (n : ℕ) (l : Listener) → IsRight w → Repeats w.channels d n → IsMeant w d.id l
    → IsRight (delivering_near n (brought_again l.tuned d.bytes) l w).world
datagram_right w d n l i s m =
    let r = m.right in
    let its = same_channel w d.id l m s.channel s.found in
    let read = s.read l.tuned (subst (λ (x : Served). IsTunedTo x.settings.channel l.tuned) its r.tuned) in
    delivering_right w n (brought_again l.tuned d.bytes) l i r (subst IsMedia (sym read) tt)
    (λ near. subst (λ (x : Media). IsFair (source_of r.channel) l.turns n x) (sym read)
    (refl, omega (arith, s.high), (s.h, subst (λ (x : Served). Contains (source_of x) s.h) (sym its) s.of_source, s.number, refl), near))

told_right : (w : World) (d : Datagram) (l : Listener) → IsRight w → Informs w.channels d → IsMeant w d.id l → IsRight (hearing (told_by l.tuned d.bytes) l w).world
told_right w d l i s m =
    let r = m.right in
    let its = same_channel w d.id l m s.channel s.found in
    hearing_right w (told_by l.tuned d.bytes) l i r
    (λ fields. subst IsInfo (sym (s.read (subst (λ (x : Served). HasFields x.settings) its fields) l.tuned (subst (λ (x : Served). IsTunedTo x.settings.channel l.tuned) its r.tuned))) tt)

giving_by_right : (w : World) (way : Way) (d : Datagram) → IsRight w → IsSentBy w.channels d way → IsRight (giving_by way d w).world
giving_by_right w posts d i s = serving_right (hub.Feedback d.id d.client d.bytes) w tt i
giving_by_right w tells d i s = listening_right w d.id d.client (λ l. hearing (told_by l.tuned d.bytes) l w) i (λ l m. told_right w d l i s m)
giving_by_right w (repeats n) d i s =
    listening_right w d.id d.client (λ l. delivering_near n (brought_again l.tuned d.bytes) l w) i (λ l m. datagram_right w d n l i s m)

giving_right : (w : World) (number : ℕ) (o : Option Datagram) → IsRight w → datagram_at number w ≡ o → IsRight (giving number o w).world
giving_right w number None i e = i
giving_right w number (Some d) i e =
    let has : Contains w.datagrams d =
    subst (Contains w.datagrams) (get_or_from_slice_get w.datagrams number d d e) (Contains-get_or w.datagrams number d (slice_get_within w.datagrams number d e)) in
    giving_by_right w d.way d i (All-contains (IsRightSent w.channels) w.datagrams d i.datagrams has)

-- ---- the other events

of_channel : (w : World) (id : ℕ) (c : Served) → channel_of id w.channels ≡ Some c → Contains w.channels c
of_channel w id c e = (found (λ (x : Served). eqb (id_of x) id) w.channels c e).0

tuning_right : (w : World) (id client ssrc : ℕ) (o : Option Served) → IsRight w → channel_of id w.channels ≡ o → IsRight (tuning id client ssrc o w).world
tuning_right w id client ssrc None i e = i
tuning_right w id client ssrc (Some c) i e =
    cond_both (list_any (is_listener id client) w.listeners) (refused w id (item.TunedBefore client)) (with_listener (new_listener c client ssrc) w) (λ (s : Step). IsRight s.world)
    (λ t. i) (λ f. tuned_right w c client ssrc (of_channel w id c e) i)

casting_right : (w : World) (id client n : ℕ) (o : Option Served) → IsRight w → channel_of id w.channels ≡ o → IsRight (casting id client n o w).world
casting_right w id client n None i e = i
casting_right w id client n (Some c) i e =
    listening_right w id client (λ l. casting_packet n (packet_of_source c n) l w) i (λ l m. packet_right w id n c (packet_of_source c n) l i m e refl)

asking_right : (w : World) (id client : ℕ) (o : Option Served) → IsRight w → IsRight (asking id client o w).world
asking_right w id client None i = i
asking_right w id client (Some c) i =
    listening_right w id client (λ l. post_all (asked l.tuned (reception l.turns)) l w) i (λ l m. posting_right w l (asked l.tuned (reception l.turns)) i)

leaving_all : (w : World) (id client : ℕ) (o : Option Served) → IsRight w → IsRight (leaving id client o w).world
leaving_all w id client None i = i
leaving_all w id client (Some c) i = listening_right w id client (λ l. leave l w) i (λ l m. leaving_right w l i m.right)

happened : (e : WorldEvent) (w : World) → BringsBytes e → IsRight w → IsRight (happens e w).world
unfolding happens
happened (Hub (hub.Live id bytes)) w b i = serving_right (hub.Live id bytes) w b i
happened (Hub (hub.Feedback id client bytes)) w b i = serving_right (hub.Feedback id client bytes) w tt i
happened (Hub hub.Tick) w b i = serving_right hub.Tick w tt i
happened (Tune id client ssrc) w b i = tuning_right w id client ssrc (channel_of id w.channels) i refl
happened (Give number) w b i = giving_right w number (datagram_at number w) i refl
happened (Mcast id client n) w b i = casting_right w id client n (channel_of id w.channels) i refl
happened (Ask id client) w b i = asking_right w id client (channel_of id w.channels) i
happened (Drop id client) w b i = leaving_all w id client (channel_of id w.channels) i

well_new : (cs : List Served) (c : Served) → IsNew cs c → IsWell cs c
well_new cs c n = record { found = n.found; bytes = subst (AllByRecursion HasBytes) (sym n.fresh) tt; rtx = n.rtx }

pub every_world : (cs : List Served) (events : List WorldEvent) → All (IsNew cs) cs → All BringsBytes events → IsRight (world_after cs events)
unfolding world_after
every_world cs [] new b = record {
  channels = All-weaker (IsNew cs) (IsWell cs) (well_new cs) cs new;
  datagrams = All-nil (IsRightSent cs);
  listeners = All-nil (IsRightListener cs);
}
every_world cs (e ∷ events) new b = happened e (world_after cs events) (All-head BringsBytes e events b) (every_world cs events new (All-tail BringsBytes e events b))
