-- What is said and sent for the answers of the hub is what the world's channels say and send.
use Rattle.std.proofs.Common.{◌≡◌, ◌≢◌, ℕ, List, [], ◌∷◌, ◌++◌, map, take, drop, length, Option, None, Some, option_map, refl, sym, ap, ◌∙◌, append_assoc, append-nil}
use Rattle.std.specs.Prelude.{AllPairs, slice_get}
use Rattle.std.specs.List.{flat_map}
use Rattle.std.proofs.lemmas.List.{take-map}
use Rattle.rams_model.specs.declared.{Order.Order, Event.Event, Note.Note}
use Rattle.rams_model.specs.declared.Event.TheVariants as event
use Rattle.rams_model.specs.Service.{Settings}
use Rattle.rams_model.specs.Texts.{order_count}
use Rattle.server_hub.specs.declared.{At.At, HubEvent.HubEvent}
use Rattle.server_hub.specs.declared.HubEvent.TheVariants as hub
use Rattle.server_hub.specs.{ids_of, id_of, answer_to, answer_at, channel_of, told_of, told_to}
use Rattle.server_hub.specs.Served.{Served}
use Rattle.server_hub.proofs.Finding.{with_id, one_has, settings_found}
use Rattle.meet_loop.specs.world_laws.World.{Datagram, note}
use Rattle.meet_loop.specs.declared.world_laws.world.WorldItem.TheVariants as item
use Rattle.meet_loop.specs.declared.world_laws.world.WorldNote.{WorldNote}
use Rattle.meet_loop.specs.world_laws.{send_note, notes_with_orders, said_by, sent_by, said_where, sent_where, all_said, all_sent}
use Rattle.meet_loop.specs.world_net.{sent_of, sent_note, note_with_sent, notes_with_sent, settled_notes, settled_sent, at_notes, at_sent, told_notes, told_sent}
use Rattle.trace_loop.proofs.head_loop.Channels.{id_there, settings_there}

-- the settings of channels
abbrev pub settings_all : List Served → List Settings
settings_all channels = map (λ c. c.settings) channels

drop_map : {A B : Type 0} (f : A → B) (n : ℕ) (xs : List A) → drop n (map f xs) ≡ map f (drop n xs)
drop_map f ℕ.zero xs = refl
drop_map f (ℕ.suc n) [] = refl
drop_map f (ℕ.suc n) (x ∷ xs) = drop_map f n xs

map_twice : (c : Served) (orders : List Order) → map sent_note (map (sent_of c.settings) orders) ≡ map (send_note c) orders
map_twice c [] = refl
map_twice c (o ∷ orders) = ap (λ (l : List WorldNote). send_note c o ∷ l) (map_twice c orders)

-- the notes of a channel, with what its orders send
notes_same : (c : Served) (notes : List Note) (orders : List Order) → notes_with_sent (id_of c) notes (map (sent_of c.settings) orders) ≡ notes_with_orders c notes orders
unfolding notes_with_sent notes_with_orders
notes_same c [] orders = refl
notes_same c (n ∷ notes) orders =
    let k = order_count n in
    ap (λ (l : List Datagram). note_with_sent (id_of c) n l ++ notes_with_sent (id_of c) notes (drop k (map (sent_of c.settings) orders))) (take-map (sent_of c.settings) k orders)
    ∙ ap (λ (l : List WorldNote). note (id_of c) (item.Note n) ∷ (l ++ notes_with_sent (id_of c) notes (drop k (map (sent_of c.settings) orders)))) (map_twice c (take k orders))
    ∙ ap (λ (l : List Datagram). note (id_of c) (item.Note n) ∷ (map (send_note c) (take k orders) ++ notes_with_sent (id_of c) notes l)) (drop_map (sent_of c.settings) k orders)
    ∙ ap (λ (l : List WorldNote). note (id_of c) (item.Note n) ∷ (map (send_note c) (take k orders) ++ l)) (notes_same c notes (drop k orders))

-- one channel
one_said : (c : Served) (e : Event) (o : Option Settings) → o ≡ Some c.settings → settled_notes (answer_to e c) o ≡ said_by e c
one_said c e o is = ap (settled_notes (answer_to e c)) is ∙ notes_same c (answer_to e c).notes (answer_to e c).orders

one_sent : (c : Served) (e : Event) (o : Option Settings) → o ≡ Some c.settings → settled_sent (answer_to e c) o ≡ sent_by e c
one_sent c e o is = ap (settled_sent (answer_to e c)) is

named_said : (id : ℕ) (e : Event) (all : List Settings) (o : Option Served) → with_id id all ≡ option_map (λ c. c.settings) o
    → (told_notes all (told_of id (option_map (answer_to e) o)) ≡ said_where id e o) × (told_sent all (told_of id (option_map (answer_to e) o)) ≡ sent_where e o)
named_said id e all None is = (refl, refl)
named_said id e all (Some c) is =
    let at : At = record { id = id; answer = answer_to e c } in
    (append-nil (at_notes all at) ∙ one_said c e (with_id id all) is, append-nil (at_sent all at) ∙ one_sent c e (with_id id all) is)

-- all of them, in a tick
each_said : (all : List Settings) (before rest : List Served) → all ≡ settings_all (before ++ rest) → AllPairs (λ x y. x ≢ y) (ids_of all)
    → (flat_map (at_notes all) (map (answer_at event.Tick) rest) ≡ flat_map (said_by event.Tick) rest) × (flat_map (at_sent all) (map (answer_at event.Tick) rest) ≡ flat_map (sent_by event.Tick) rest)
each_said all before [] is once = (refl, refl)
each_said all before (c ∷ rest) is once =
    let has = one_has (id_of c) all (length before) (ap (λ l. slice_get (ids_of l) (length before)) is ∙ id_there before rest c) once in
    let found : with_id (id_of c) all ≡ Some c.settings = has.0 ∙ (ap (λ l. slice_get l (length before)) is ∙ settings_there before rest c) in
    let later = each_said all (before ++ c ∷ []) rest (is ∙ ap settings_all (sym (append_assoc before (c ∷ []) rest))) once in (
      ap (λ (l : List WorldNote). l ++ flat_map (at_notes all) (map (answer_at event.Tick) rest)) (one_said c event.Tick (with_id (id_of c) all) found)
          ∙ ap (λ (l : List WorldNote). said_by event.Tick c ++ l) later.0,
      ap (λ (l : List Datagram). l ++ flat_map (at_sent all) (map (answer_at event.Tick) rest)) (one_sent c event.Tick (with_id (id_of c) all) found)
          ∙ ap (λ (l : List Datagram). sent_by event.Tick c ++ l) later.1,
    )

pub told_is_said : (h : HubEvent) (all : List Settings) (channels : List Served) → all ≡ settings_all channels → (h ≡ hub.Tick → AllPairs (λ x y. x ≢ y) (ids_of all))
    → (told_notes all (told_to h channels) ≡ all_said h channels) × (told_sent all (told_to h channels) ≡ all_sent h channels)
told_is_said (hub.Live id bytes) all channels is once = named_said id (event.Live bytes) all (channel_of id channels) (ap (with_id id) is ∙ settings_found id channels)
told_is_said (hub.Feedback id client bytes) all channels is once = named_said id (event.Feedback client bytes) all (channel_of id channels) (ap (with_id id) is ∙ settings_found id channels)
told_is_said hub.Tick all channels is once = each_said all [] channels is (once refl)
