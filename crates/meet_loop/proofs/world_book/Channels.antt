-- The channels of a world keep their settings, and are those of the lines.
use Rattle.std.proofs.Common.{◌≡◌, ◌≢◌, ℕ, suc, ◌&&◌, cond, List, [], ◌∷◌, ◌++◌, length, Option, Some, None, refl, ap, sym, ◌∙◌, subst, arith, append_assoc, eqb}
use Rattle.std.specs.Prelude.{All, AllPairs, nat_le, slice_get, option_map, ◌<◌}
use Rattle.std.specs.List.{list_any}
use Rattle.std.specs.Int.{is_in_range}
use Rattle.std.proofs.lemmas.Bool.{and_parts, cond_both, leb-true}
use Rattle.std.proofs.lemmas.List.Elements.{All-nil, All-cons}
use Rattle.rams_model.specs.Receiver.{Media}
use Rattle.rams_model.specs.Service.{Settings, names_in_range, bytes_in_range, bounds_in_range}
use Rattle.server_hub.specs.declared.HubEvent.{HubEvent}
use Rattle.server_hub.specs.declared.HubEvent.TheVariants as hub
use Rattle.server_hub.specs.{served, ids_of, channel_of}
use Rattle.server_hub.specs.Served.{Served}
use Rattle.server_hub.proofs.Finding.{with_id, one_has}
use Rattle.trace_loop.specs.trace_book.trace_serving.{AreLawful}
use Rattle.trace_loop.specs.trace_book.{settings_of}
use Rattle.trace_loop.proofs.trace_book.Lawful.{lawful_range}
use Rattle.trace_loop.proofs.trace_book.Served.{settings_after, new_of}
use Rattle.meet_loop.specs.declared.world_laws.world.WorldEvent.{WorldEvent}
use Rattle.meet_loop.specs.declared.world_laws.world.WorldEvent.TheVariants.{Hub, Tune, Give, Mcast, Ask, Drop}
use Rattle.meet_loop.specs.world_laws.World.{Way, posts, tells, repeats, Datagram, Listener, World, Step}
use Rattle.meet_loop.specs.world_laws.{datagram_at, is_listener, listener_of, refused, packet_of_source, next_number, is_too_far, delivering, delivering_near, serving, new_listener, with_listener, tuning, if_listening, giving_by, giving, casting_packet, casting, asking, leaving, happens, IsNew}
use Rattle.meet_loop.specs.declared.world_laws.world.WorldItem.TheVariants as item

-- After a step of a world its channels have the same settings.
abbrev pub KeepsSettings : World → Step → Type 0
KeepsSettings w step = settings_of step.world.channels ≡ settings_of w.channels

serving_keeps : (e : HubEvent) (w : World) → KeepsSettings w (serving e w)
serving_keeps e w = settings_after e w.channels

tuning_keeps : (id client ssrc : ℕ) (o : Option Served) (w : World) → KeepsSettings w (tuning id client ssrc o w)
tuning_keeps id client ssrc None w = refl
tuning_keeps id client ssrc (Some c) w =
    cond_both (list_any (is_listener id client) w.listeners) (refused w id (item.TunedBefore client)) (with_listener (new_listener c client ssrc) w) (KeepsSettings w) (λ t. refl) (λ f. refl)

near_keeps : (x : ℕ) (media : Media) (l : Listener) (w : World) → KeepsSettings w (delivering_near x media l w)
near_keeps x media l w =
    cond_both (is_too_far (next_number l.turns) x) (refused w l.id (item.TooFar l.tuned.client)) (delivering x media l w) (KeepsSettings w) (λ t. refl) (λ f. refl)

listening_keeps : (id client : ℕ) (o : Option Listener) (w : World) (f : Listener → Step) → ((l : Listener) → KeepsSettings w (f l)) → KeepsSettings w (if_listening id client o w f)
listening_keeps id client None w f keeps = refl
listening_keeps id client (Some l) w f keeps = keeps l

giving_by_keeps : (way : Way) (d : Datagram) (w : World) → KeepsSettings w (giving_by way d w)
giving_by_keeps posts d w = serving_keeps (hub.Feedback d.id d.client d.bytes) w
giving_by_keeps tells d w = listening_keeps d.id d.client (listener_of d.id d.client w) w _ (λ l. refl)
giving_by_keeps (repeats n) d w = listening_keeps d.id d.client (listener_of d.id d.client w) w _ (λ l. near_keeps n _ l w)

giving_keeps : (number : ℕ) (o : Option Datagram) (w : World) → KeepsSettings w (giving number o w)
giving_keeps number None w = refl
giving_keeps number (Some d) w = giving_by_keeps d.way d w

packet_keeps : (n : ℕ) (o : Option (List ℕ)) (l : Listener) (w : World) → KeepsSettings w (casting_packet n o l w)
packet_keeps n None l w = refl
packet_keeps n (Some bytes) l w = near_keeps n _ l w

casting_keeps : (id client n : ℕ) (o : Option Served) (w : World) → KeepsSettings w (casting id client n o w)
casting_keeps id client n None w = refl
casting_keeps id client n (Some c) w = listening_keeps id client (listener_of id client w) w _ (λ l. packet_keeps n (packet_of_source c n) l w)

asking_keeps : (id client : ℕ) (o : Option Served) (w : World) → KeepsSettings w (asking id client o w)
asking_keeps id client None w = refl
asking_keeps id client (Some c) w = listening_keeps id client (listener_of id client w) w _ (λ l. refl)

leaving_keeps : (id client : ℕ) (o : Option Served) (w : World) → KeepsSettings w (leaving id client o w)
leaving_keeps id client None w = refl
leaving_keeps id client (Some c) w = listening_keeps id client (listener_of id client w) w _ (λ l. refl)

pub happens_keeps : (e : WorldEvent) (w : World) → KeepsSettings w (happens e w)
unfolding happens
happens_keeps (Hub e) w = serving_keeps e w
happens_keeps (Tune id client ssrc) w = tuning_keeps id client ssrc (channel_of id w.channels) w
happens_keeps (Give number) w = giving_keeps number (datagram_at number w) w
happens_keeps (Mcast id client n) w = casting_keeps id client n (channel_of id w.channels) w
happens_keeps (Ask id client) w = asking_keeps id client (channel_of id w.channels) w
happens_keeps (Drop id client) w = leaving_keeps id client (channel_of id w.channels) w

-- each is found under its number, where no two have one
found_new : (id : ℕ) (all : List Settings) → channel_of id (new_of all) ≡ option_map (λ s. served s []) (with_id id all)
found_new id [] = refl
found_new id (s ∷ all) =
    cond_both (eqb s.channel.id id) (Some s) (with_id id all) (λ (o : Option Settings). cond (eqb s.channel.id id) (Some (served s [])) (channel_of id (new_of all)) ≡ option_map (λ x. served x []) o)
    (λ t. ap (λ b. cond b (Some (served s [])) (channel_of id (new_of all))) t) (λ f. ap (λ b. cond b (Some (served s [])) (channel_of id (new_of all))) f ∙ found_new id all)

id_there : (before rest : List Settings) (s : Settings) → slice_get (ids_of (before ++ s ∷ rest)) (length before) ≡ Some s.channel.id
id_there [] rest s = refl
id_there (b ∷ before) rest s = id_there before rest s

settings_there : (before rest : List Settings) (s : Settings) → slice_get (before ++ s ∷ rest) (length before) ≡ Some s
settings_there [] rest s = refl
settings_there (b ∷ before) rest s = settings_there before rest s

-- the payload type of retransmissions of lawful settings
lawful_rtx : (s : Settings) → AreLawful s → s.channel.rtx < 128
lawful_rtx s lawful =
    let c = s.channel in
    let names = and_parts (names_in_range c && bytes_in_range c) (bounds_in_range c) (lawful_range s lawful) in
    let first = and_parts (names_in_range c) (bytes_in_range c) names.0 in
    let seq0 = and_parts (is_in_range 1 65535 c.id && nat_le c.pt 127 && nat_le c.rtx 127) (nat_le c.seq0 65535) first.0 in
    let rtx = and_parts (is_in_range 1 65535 c.id && nat_le c.pt 127) (nat_le c.rtx 127) seq0.0 in
    let most = leb-true c.rtx 127 rtx.1 in
    omega (arith, most)

pub are_new : (before rest : List Settings) → AllPairs (λ a b. a ≢ b) (ids_of (before ++ rest)) → All AreLawful rest → All (IsNew (new_of (before ++ rest))) (new_of rest)
are_new before [] once lawful = All-nil (IsNew (new_of (before ++ [])))
are_new before (s ∷ rest) once lawful =
    let all = before ++ s ∷ rest in
    let same = append_assoc before (s ∷ []) rest in
    let has = one_has s.channel.id all (length before) (id_there before rest s) once in
    All-cons (IsNew (new_of all)) (served s []) (new_of rest)
    (record {
      found = found_new s.channel.id all ∙ ap (option_map (λ x. served x [])) (has.0 ∙ settings_there before rest s);
      fresh = refl;
      rtx = lawful_rtx s (lawful 0 s (omega arith));
    })
    (subst (λ (l : List Settings). All (IsNew (new_of l)) (new_of rest)) same
    (are_new (before ++ s ∷ []) rest (subst (λ (l : List Settings). AllPairs (λ a b. a ≢ b) (ids_of l)) (sym same) once) (λ k d less. lawful (suc k) d (omega (arith, less)))))
