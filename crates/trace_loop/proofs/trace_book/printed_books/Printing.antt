-- What is printed for an event, and for a channel.
use Rattle.std.proofs.Common.{◌≡◌, ◌≢◌, ℕ, suc, ◌+◌, Bool, true, false, cond, eqb, List, [], ◌∷◌, ◌++◌, map, length, Option, Some, None, refl, sym, ap, subst, ◌∙◌, arith, append-nil}
use Rattle.std.specs.Prelude.{All, AllPairs, ◌||◌}
use Rattle.std.specs.List.{flat_map, list_any, AllByRecursion as Each}
use Rattle.std.proofs.lemmas.Bool.{ne_eqb, eqb-true}
use Rattle.rams_model.specs.declared.Event.{Event}
use Rattle.rams_model.specs.declared.Event.TheVariants as event
use Rattle.rams_model.specs.Service.{Settings, answer, book}
use Rattle.rams_model.specs.Texts.{answer_text, book_lines}
use Rattle.book_text.specs.{no_channel_line}
use Rattle.server_hub.specs.declared.HubEvent.{HubEvent}
use Rattle.server_hub.specs.declared.HubEvent.TheVariants.{Live, Feedback, Tick}
use Rattle.rams_model.specs.Texts.{Head}
use Rattle.server_hub.specs.{served, id_of, ids_of, channel_of, events_of, after_events, EachChannelGetsItsEvents}
use Rattle.server_hub.specs.Served.{Served}
use Rattle.server_hub.proofs.Changing.{first_once, rest_once}
use Rattle.trace_loop.specs.trace_book.trace_serving.{last_stage}
use Rattle.trace_loop.specs.trace_book.{run, served_by, settings_of, new_channels, channel_text, named_text, event_text, KeepsTheLink}
use Rattle.trace_loop.specs.trace_book.printed_books.{comes_to, places, numbered_lines, heard_lines, unheard_line, own_lines, channels_at}

-- ---- one event

abbrev pub StandOnce : List Served → Type 0
StandOnce cs = AllPairs (λ x y. x ≢ y) (map id_of cs)

-- an event that names a number
module _ (number id : ℕ) (e : Event) where
  abbrev heard : Served → List ℕ
  heard c = cond (eqb (id_of c) id) (channel_text number e c) []

  abbrev silent : Bool → List ℕ
  silent any = cond any [] (no_channel_line number id)

  -- no channel has it
  record Nobody (cs : List Served) : Type 0 where
    lines : flat_map heard cs ≡ []
    unheard : list_any (λ c. eqb (id_of c) id) cs ≡ false
    none : channel_of id cs ≡ None

  nobody : (cs : List Served) → All (λ k. k ≢ id) (map id_of cs) → Nobody cs
  nobody [] apart = record { lines = refl; unheard = refl; none = refl }
  nobody (c ∷ cs) apart =
      let its : eqb (id_of c) id ≡ false = ne_eqb (id_of c) id (apart 0 id (omega arith)) in
      let more = nobody cs (λ k d less. apart (suc k) d (omega (arith, less))) in
      record {
        lines = ap (λ (x : Bool). cond x (channel_text number e c) [] ++ flat_map heard cs) its ∙ more.lines;
        unheard = ap (λ (x : Bool). x || list_any (λ y. eqb (id_of y) id) cs) its ∙ more.unheard;
        none = ap (λ (x : Bool). cond x (Some c) (channel_of id cs)) its ∙ more.none;
      }

  one_text : (cs : List Served) → StandOnce cs → silent (list_any (λ c. eqb (id_of c) id) cs) ++ flat_map heard cs ≡ named_text number id e (channel_of id cs)
  one_text [] once = append-nil (no_channel_line number id)
  one_text (c ∷ cs) once = by (eqb (id_of c) id) refl (one_text cs (rest_once (id_of c) (map id_of cs) once))
    where
      by : (x : Bool) → eqb (id_of c) id ≡ x → silent (list_any (λ y. eqb (id_of y) id) cs) ++ flat_map heard cs ≡ named_text number id e (channel_of id cs)
          → silent (list_any (λ y. eqb (id_of y) id) (c ∷ cs)) ++ flat_map heard (c ∷ cs) ≡ named_text number id e (channel_of id (c ∷ cs))
      by true its later =
          let same : id_of c ≡ id = eqb-true (id_of c) id its in
          let rest = nobody cs (subst (λ (k : ℕ). All (λ y. y ≢ k) (map id_of cs)) same (first_once (id_of c) (map id_of cs) once)) in
          ap (λ (x : Bool). silent (x || list_any (λ y. eqb (id_of y) id) cs) ++ (cond x (channel_text number e c) [] ++ flat_map heard cs)) its
          ∙ ap (λ (t : List ℕ). channel_text number e c ++ t) rest.lines ∙ append-nil (channel_text number e c)
          ∙ sym (ap (λ (x : Bool). named_text number id e (cond x (Some c) (channel_of id cs))) its)
      by false its later =
          ap (λ (x : Bool). silent (x || list_any (λ y. eqb (id_of y) id) cs) ++ (cond x (channel_text number e c) [] ++ flat_map heard cs)) its ∙ later
          ∙ sym (ap (λ (x : Bool). named_text number id e (cond x (Some c) (channel_of id cs))) its)

-- what is printed for an event
pub event_is : (number : ℕ) (e : HubEvent) (cs : List Served) → StandOnce cs → event_text number e cs ≡ unheard_line number e cs ++ flat_map (heard_lines number e) cs
event_is number (Live id bytes) cs once = sym (one_text number id (event.Live bytes) cs once)
event_is number (Feedback id client bytes) cs once = sym (one_text number id (event.Feedback client bytes) cs once)
event_is number Tick cs once = refl

-- ---- one channel

module _ (s : Settings) where
  abbrev its : List HubEvent → List Event
  its events = events_of s.channel.id events

  -- an event that names a number
  named : (x : Bool) (e : Event) (events : List HubEvent) → own_lines s events ≡ numbered_lines s (places s.channel.id events) (book s (its events))
      → own_lines s events ++ cond x (answer_text s (length events + 1) (answer s (its events) e)) []
      ≡ numbered_lines s (cond x ((length events + 1) ∷ places s.channel.id events) (places s.channel.id events)) (book s (cond x (e ∷ its events) (its events)))
  unfolding book numbered_lines
  named true e events h = ap (λ (t : List ℕ). t ++ answer_text s (length events + 1) (answer s (its events) e)) h
  named false e events h = append-nil (own_lines s events) ∙ h

  pub own_is : (events : List HubEvent) → own_lines s events ≡ numbered_lines s (places s.channel.id events) (book s (its events))
  unfolding own_lines places events_of numbered_lines book
  own_is [] = refl
  own_is (Live id bytes ∷ events) = named (eqb s.channel.id id) (event.Live bytes) events (own_is events)
  own_is (Feedback id client bytes ∷ events) = named (eqb s.channel.id id) (event.Feedback client bytes) events (own_is events)
  own_is (Tick ∷ events) = named true event.Tick events (own_is events)

  -- ---- where each event comes to it

  abbrev Come : List HubEvent → Type 0
  Come events = Each (λ (e : HubEvent). comes_to s.channel.id e ≡ true) events

  pub count : (events : List HubEvent) → Come events → length (book s (its events)) ≡ length events
  unfolding events_of book
  count [] h = refl
  count (Live id bytes ∷ events) h = ap (λ (x : Bool). length (book s (cond x (event.Live bytes ∷ its events) (its events)))) h.0 ∙ ap suc (count events h.1)
  count (Feedback id client bytes ∷ events) h = ap (λ (x : Bool). length (book s (cond x (event.Feedback client bytes ∷ its events) (its events)))) h.0 ∙ ap suc (count events h.1)
  count (Tick ∷ events) h = ap suc (count events h.1)

  -- one event more
  counted : (e : Event) (events : List HubEvent) → length (book s (its events)) ≡ length events → numbered_lines s (places s.channel.id events) (book s (its events)) ≡ book_lines s (book s (its events))
      → numbered_lines s ((length events + 1) ∷ places s.channel.id events) (book s (e ∷ its events)) ≡ book_lines s (book s (e ∷ its events))
  unfolding book numbered_lines book_lines
  counted e events same h =
      ap (λ (t : List ℕ). t ++ answer_text s (length events + 1) (answer s (its events) e)) h
      ∙ ap (λ (n : ℕ). book_lines s (book s (its events)) ++ answer_text s (n + 1) (answer s (its events) e)) (sym same)

  named_alone : (x : Bool) (e : Event) (events : List HubEvent) → x ≡ true → length (book s (its events)) ≡ length events
      → numbered_lines s (places s.channel.id events) (book s (its events)) ≡ book_lines s (book s (its events))
      → numbered_lines s (cond x ((length events + 1) ∷ places s.channel.id events) (places s.channel.id events)) (book s (cond x (e ∷ its events) (its events)))
      ≡ book_lines s (book s (cond x (e ∷ its events) (its events)))
  named_alone true e events is same h = counted e events same h
  named_alone false e events is same h = cc

  alone : (events : List HubEvent) → Come events → numbered_lines s (places s.channel.id events) (book s (its events)) ≡ book_lines s (book s (its events))
  unfolding places events_of numbered_lines book book_lines
  alone [] h = refl
  alone (Live id bytes ∷ events) h = named_alone (eqb s.channel.id id) (event.Live bytes) events h.0 (count events h.1) (alone events h.1)
  alone (Feedback id client bytes ∷ events) h = named_alone (eqb s.channel.id id) (event.Feedback client bytes) events h.0 (count events h.1) (alone events h.1)
  alone (Tick ∷ events) h = named_alone true event.Tick events refl (count events h.1) (alone events h.1)

  pub alone_is : (events : List HubEvent) → Come events → own_lines s events ≡ book_lines s (book s (its events))
  alone_is events h = own_is events ∙ alone events h

-- ---- the channels of a trace

-- new channels, when these events had come
new_at : (events : List HubEvent) (cs : List Served) → map (λ (c : Served). served c.settings (events_of (id_of c) events ++ c.events)) (new_channels cs) ≡ channels_at cs events
new_at events [] = refl
new_at events (c ∷ cs) =
    let es = events_of (id_of c) events in
    ap (λ (l : List Event). served c.settings l ∷ map (λ (d : Served). served d.settings (events_of (id_of d) events ++ d.events)) (new_channels cs)) (append-nil es)
    ∙ ap (λ (l : List Served). served c.settings es ∷ l) (new_at events cs)

pub reached : EachChannelGetsItsEvents → (events : List HubEvent) (cs : List Served) → after_events events (new_channels cs) ≡ channels_at cs events
reached gets events cs = gets events (new_channels cs) ∙ new_at events cs

ids_at : (events : List HubEvent) (cs : List Served) → map id_of (channels_at cs events) ≡ ids_of (settings_of (new_channels cs))
ids_at events [] = refl
ids_at events (c ∷ cs) = ap (λ (l : List ℕ). id_of c ∷ l) (ids_at events cs)

-- no two have one number
pub once_at : (trace : List ℕ) (events : List HubEvent) → KeepsTheLink trace → StandOnce (channels_at (served_by trace) events)
once_at trace events k = subst (AllPairs (λ x y. x ≢ y)) (sym (ids_at events (served_by trace))) (by (last_stage run trace).reached.head refl)
  where
    by : (o : Option Head) → (last_stage run trace).reached.head ≡ o → AllPairs (λ x y. x ≢ y) (ids_of (settings_of (new_channels (served_by trace))))
    by (Some head) e = (k.link head e).fit.once
    by None e = subst (λ (cs : List Served). AllPairs (λ x y. x ≢ y) (ids_of (settings_of (new_channels cs)))) (sym (k.headless e)) (λ i j d less short. absurd (omega (arith, short)))
