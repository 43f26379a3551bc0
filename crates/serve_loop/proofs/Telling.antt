-- What is sent for the answers of the channels.
use Rattle.std.proofs.Common.{◌≡◌, ◌≢◌, ◌≤◌, ℕ, zero, suc, ◌+◌, false, cond, eqb, List, [], ◌∷◌, ◌++◌, map, length, Option, None, Some, option_map, refl, sym, ap, subst, ◌∙◌, append_assoc, append-nil, arith}
use Rattle.std.proofs.lemmas.List.{length-map}
use Rattle.std.specs.Prelude.{AllPairs, slice_get}
use Rattle.std.proofs.lemmas.Bool.{eq-eqb, ne_eqb}
use Rattle.std.proofs.lemmas.Option.{slice_get-map}
use Rattle.rams_model.specs.declared.Event.{Event}
use Rattle.rams_model.specs.declared.Event.TheVariants as event
use Rattle.rams_model.specs.Service.{Settings}
use Rattle.server_hub.specs.declared.HubEvent.{HubEvent}
use Rattle.server_hub.specs.declared.HubEvent.TheVariants.{Live, Feedback, Tick}
use Rattle.server_hub.specs.{IsHub, StandsFor, settings_of, ids_of, with_event, after_event, after_tick, id_of, channel_of, answer_to, answer_of, answer_at, answers_to_tick, told_of, told_to, answers_said}
use Rattle.server_hub.specs.Seen.{Seen}
use Rattle.server_hub.specs.Served.{Served}
use Rattle.server_hub.proofs.Changing.{rest_once, later_differs}
use Rattle.server_hub.proofs.Finding.{with_id, one_has, settings_found}
use Rattle.trace_loop.specs.trace_book.Stages.{settings_of as settings_all}
use Rattle.trace_loop.specs.journal_book.{AreApart, answer_datagrams, datagrams_of, behind}
use Rattle.trace_loop.proofs.journal_book.Channels.{one_answers}
use Rattle.trace_loop.proofs.head_loop.Channels.{settings_stand, at_place, id_there, settings_there}
use Rattle.trace_loop.proofs.trace_book.Served.{settings_after}
use Rattle.serve_loop.specs.{settled_datagrams, said_datagrams, AnswersFrom, numbers}

-- where no two have one number, it is found by that
channel_there : (channels : List Served) (place id : ℕ) (c : Served) → slice_get channels place ≡ Some c → id_of c ≡ id → AreApart channels → channel_of id channels ≡ Some c
channel_there [] place id c is its apart = absurd cc
channel_there (b ∷ channels) zero id c is its apart =
    let same : b ≡ c = cc is in
    ap (λ t. cond t (Some b) (channel_of id channels)) (eq-eqb (id_of b) id (ap id_of same ∙ its)) ∙ ap Some same
channel_there (b ∷ channels) (suc place) id c is its apart =
    let number : slice_get (numbers channels) place ≡ Some (id_of c) =
    slice_get-map (λ (s : Settings). s.channel.id) (settings_all channels) place
    ∙ ap (option_map (λ (s : Settings). s.channel.id)) (slice_get-map (λ (x : Served). x.settings) channels place ∙ ap (option_map (λ (x : Served). x.settings)) is) in
    let other : eqb (id_of b) id ≡ false = ne_eqb (id_of b) id (λ same. later_differs (id_of b) (numbers channels) place (id_of c) apart number (its ∙ sym same)) in
    ap (λ t. cond t (Some b) (channel_of id channels)) other ∙ channel_there channels place id c is its (rest_once (id_of b) (numbers channels) apart)

-- what one channel is said to answer
one_said : (first : ℕ) (all : List Settings) (id : ℕ) (e : Event) (channels : List Served) (c : Served) → all ≡ settings_all channels → channel_of id channels ≡ Some c
    → said_datagrams first all (answers_said (told_of id (answer_of id e channels))) ≡ answer_datagrams first c.settings (answer_to e c)
unfolding said_datagrams
one_said first all id e channels c is there =
    let found : with_id id all ≡ Some c.settings = ap (with_id id) is ∙ (settings_found id channels ∙ ap (option_map (λ (x : Served). x.settings)) there) in
    ap (λ (o : Option Served). said_datagrams first all (answers_said (told_of id (option_map (answer_to e) o)))) there
    ∙ (append-nil (settled_datagrams first (answer_to e c) (with_id id all)) ∙ ap (settled_datagrams first (answer_to e c)) found)

-- what each is said to answer to a tick
each_said : (first : ℕ) (all : List Settings) (before rest : List Served) → all ≡ settings_all (before ++ rest) → AllPairs (λ x y. x ≢ y) (ids_of all)
    → said_datagrams first all (map (answer_at event.Tick) rest) ≡ datagrams_of first Tick rest
unfolding said_datagrams
each_said first all before [] is once = refl
each_said first all before (c ∷ rest) is once =
    let has = one_has (id_of c) all (length before) (ap (λ l. slice_get (ids_of l) (length before)) is ∙ id_there before rest c) once in
    let found : with_id (id_of c) all ≡ Some c.settings = has.0 ∙ (ap (λ l. slice_get l (length before)) is ∙ settings_there before rest c) in
    let later = each_said (first + 2) all (before ++ c ∷ []) rest (is ∙ ap settings_all (sym (append_assoc before (c ∷ []) rest))) once in
    ap (λ (o : Option Settings). settled_datagrams first (answer_to event.Tick c) o ++ said_datagrams (first + 2) all (map (answer_at event.Tick) rest)) found
    ∙ ap (λ l. answer_datagrams first c.settings (answer_to event.Tick c) ++ l) later

-- What the channels are said to answer to an event is what is sent for it.
pub said_is_sent : (live first : ℕ) (all : List Settings) (h : HubEvent) (channels : List Served) → all ≡ settings_all channels → AreApart channels → AnswersFrom live (numbers channels) h first
    → said_datagrams first all (answers_said (told_to h channels)) ≡ datagrams_of (live + 1) h channels
said_is_sent live first all (Live id bytes) channels is apart from =
    let at = at_place channels from.0 id from.1 in
    one_said first all id (event.Live bytes) channels at.0 is (channel_there channels from.0 id at.0 at.1 at.2 apart)
    ∙ ap (λ p. answer_datagrams p at.0.settings (answer_to (event.Live bytes) at.0)) from.2
    ∙ sym (one_answers (live + 1) from.0 0 channels at.0 bytes apart at.1).0
    ∙ ap (λ i. datagrams_of (live + 1) (Live i bytes) channels) at.2
said_is_sent live first all (Feedback id client bytes) channels is apart from =
    let at = at_place channels from.0 id from.1 in
    one_said first all id (event.Feedback client bytes) channels at.0 is (channel_there channels from.0 id at.0 at.1 at.2 apart)
    ∙ ap (λ p. answer_datagrams p at.0.settings (answer_to (event.Feedback client bytes) at.0)) from.2
    ∙ sym (one_answers (live + 1) from.0 client channels at.0 bytes apart at.1).1
    ∙ ap (λ i. datagrams_of (live + 1) (Feedback i client bytes) channels) at.2
said_is_sent live first all Tick channels is apart from =
    ap (λ p. said_datagrams p all (answers_to_tick channels)) from
    ∙ each_said (live + 1) all [] channels is (subst (λ (l : List Settings). AllPairs (λ x y. x ≢ y) (ids_of l)) (sym is) apart)

-- no more channels answer than the hub has
named_few : (id : ℕ) (e : Event) (channels : List Served) → length (answers_said (told_of id (answer_of id e channels))) ≤ 1
named_few id e channels = by (channel_of id channels)
  where
    by : (o : Option Served) → length (answers_said (told_of id (option_map (answer_to e) o))) ≤ 1
    by None = omega arith
    by (Some c) = omega arith

pub said_few : (h : HubEvent) (channels : List Served) (w : Seen) → StandsFor w (after_event h channels) → (h ≡ Tick → IsHub w) → length (answers_said (told_to h channels)) ≤ 64
said_few (Live id bytes) channels w stands hub = let one = named_few id (event.Live bytes) channels in omega arith
said_few (Feedback id client bytes) channels w stands hub = let one = named_few id (event.Feedback client bytes) channels in omega arith
said_few Tick channels w stands hub =
    let same : length (settings_of w) ≡ length (settings_all (after_tick channels)) = ap length (settings_stand w (after_tick channels) stands) in
    let all : length (settings_all (after_tick channels)) ≡ length (after_tick channels) = length-map (after_tick channels) (λ (c : Served). c.settings) in
    let ticked : length (after_tick channels) ≡ length channels = length-map channels (with_event event.Tick) in
    let said : length (answers_to_tick channels) ≡ length channels = length-map channels (answer_at event.Tick) in
    subst (λ n. n ≤ 64) (same ∙ (all ∙ (ticked ∙ sym said))) (hub refl).channels.few

pub settled_behind : (events : List HubEvent) (channels : List Served) → settings_all (behind events channels) ≡ settings_all channels
unfolding behind
settled_behind [] channels = refl
settled_behind (h ∷ events) channels = settled_behind events (after_event h channels) ∙ settings_after h channels
