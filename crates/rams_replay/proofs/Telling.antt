-- What is written for the answers of the channels.
use Rattle.std.proofs.Common.{◌≡◌, ◌≢◌, ℕ, List, [], ◌∷◌, ◌++◌, map, length, Option, None, Some, option_map, refl, sym, ap, ◌∙◌, append_assoc, append-nil}
use Rattle.std.specs.Prelude.{AllPairs, slice_get}
use Rattle.std.specs.List.{flat_map}
use Rattle.rams_model.specs.declared.Event.{Event}
use Rattle.rams_model.specs.declared.Event.TheVariants as event
use Rattle.server_hub.specs.declared.{At.At, HubAnswer.HubAnswer, HubEvent.HubEvent}
use Rattle.server_hub.specs.{IsHub, StandsFor, settings_of, ids_of, after_event, id_of, channel_of, answer_to, answer_of, answer_at, answers_to_tick, says, told, told_of, told_to}
use Rattle.server_hub.specs.declared.HubEvent.TheVariants.{Live, Feedback, Tick}
use Rattle.server_hub.specs.Seen.{Seen}
use Rattle.server_hub.specs.Served.{Served}
use Rattle.server_hub.proofs.Finding.{with_id, one_has, settings_found}
use Rattle.trace_loop.specs.trace_book.{channel_text, event_text, named_text}
use Rattle.trace_loop.specs.trace_book.Stages.{settings_of as settings_all}
use Rattle.trace_loop.proofs.head_loop.Channels.{id_there, settings_there, settings_stand}
use Rattle.trace_loop.proofs.trace_book.Served.{settings_after}
use Rattle.rams_replay.specs.{Tells, at_text, settled_text, told_text}

-- what is written for one answer
pub one_is_told : (hub : Option Seen) (n : ℕ) (at : At) → told_text hub n (says (at ∷ [])) ≡ at_text hub n at
one_is_told hub n at = append-nil (at_text hub n at)

-- what is written for an event of one channel
named_is_written : (v : Seen) (channels : List Served) (id : ℕ) (e : Event) (n : ℕ) → settings_of v ≡ settings_all channels
    → told_text (Some v) n (told_of id (answer_of id e channels)) ≡ named_text n id e (channel_of id channels)
named_is_written v channels id e n is =
    by (channel_of id channels) (ap (with_id id) is ∙ settings_found id channels)
  where
    by : (o : Option Served) → with_id id (settings_of v) ≡ option_map (λ c. c.settings) o → told_text (Some v) n (told_of id (option_map (answer_to e) o)) ≡ named_text n id e o
    by None found = refl
    by (Some c) found = one_is_told (Some v) n (record { id = id; answer = answer_to e c }) ∙ ap (settled_text n (answer_to e c)) found

each_is_written : (n : ℕ) (v : Seen) (before rest : List Served) → settings_of v ≡ settings_all (before ++ rest) → AllPairs (λ x y. x ≢ y) (ids_of (settings_of v))
    → flat_map (at_text (Some v) n) (map (answer_at event.Tick) rest) ≡ flat_map (channel_text n event.Tick) rest
each_is_written n v before [] is once = refl
each_is_written n v before (c ∷ rest) is once =
    let has = one_has (id_of c) (settings_of v) (length before) (ap (λ l. slice_get (ids_of l) (length before)) is ∙ id_there before rest c) once in
    let found : with_id (id_of c) (settings_of v) ≡ Some c.settings = has.0 ∙ (ap (λ l. slice_get l (length before)) is ∙ settings_there before rest c) in
    let first : at_text (Some v) n (answer_at event.Tick c) ≡ channel_text n event.Tick c = ap (settled_text n (answer_to event.Tick c)) found in
    let later = each_is_written n v (before ++ c ∷ []) rest (is ∙ ap settings_all (sym (append_assoc before (c ∷ []) rest))) once in
    ap (λ l. l ++ flat_map (at_text (Some v) n) (map (answer_at event.Tick) rest)) first ∙ ap (λ l. channel_text n event.Tick c ++ l) later

-- what is written for a tick
pub ticks_are_written : (n : ℕ) (v : Seen) (channels : List Served) → settings_of v ≡ settings_all channels → AllPairs (λ x y. x ≢ y) (ids_of (settings_of v))
    → flat_map (at_text (Some v) n) (answers_to_tick channels) ≡ flat_map (channel_text n event.Tick) channels
ticks_are_written n v channels is once = each_is_written n v [] channels is once

said_text : (h : HubEvent) (n : ℕ) (channels : List Served) (w : Seen) → settings_of w ≡ settings_all channels → (h ≡ Tick → IsHub w)
    → told_text (Some w) n (told_to h channels) ≡ event_text n h channels
said_text (Live id bytes) n channels w is hub = named_is_written w channels id (event.Live bytes) n is
said_text (Feedback id client bytes) n channels w is hub = named_is_written w channels id (event.Feedback client bytes) n is
said_text Tick n channels w is hub = ticks_are_written n w channels is (hub refl).channels.once

-- What the hub says to an event tells it.
pub hub_tells : (h : HubEvent) (channels : List Served) (w : Seen) (a : HubAnswer) → (told a ≡ told_to h channels) × StandsFor w (after_event h channels) → (h ≡ Tick → IsHub w) → Tells h channels w a
hub_tells h channels w a both hub = record {
  stands = both.1;
  text = λ n. ap (told_text (Some w) n) both.0 ∙ said_text h n channels w (settings_stand w (after_event h channels) both.1 ∙ settings_after h channels) hub;
}
