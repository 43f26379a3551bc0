-- What serves the traces of `run`: its channels keep their settings, and are those of the lines.
use Rattle.std.proofs.Common.{◌≡◌, ℕ, List, [], ◌∷◌, ◌++◌, map, Option, Some, None, refl, ap, sym, ◌∙◌, subst, append_assoc, append-nil, eqb}
use Rattle.std.specs.Prelude.{All, option_to_list}
use Rattle.std.proofs.lemmas.Bool.{cond_both}
use Rattle.std.proofs.lemmas.List.{map-append}
use Rattle.std.proofs.lemmas.List.Elements.{All-nil, All-cons}
use Rattle.rams_model.specs.declared.{Channel.Channel, Event.Event}
use Rattle.rams_model.specs.declared.Event.TheVariants as event
use Rattle.rams_model.specs.Service.{Settings}
use Rattle.server_hub.specs.declared.HubEvent.{HubEvent}
use Rattle.server_hub.specs.{served, id_of, with_event, after_event_of, after_tick, after_event, after_events, events_of, EachChannelGetsItsEvents}
use Rattle.server_hub.specs.declared.HubEvent.TheVariants.{Live, Feedback, Tick}
use Rattle.server_hub.specs.Served.{Served}
use Rattle.trace_loop.specs.trace_book.trace_serving.{ended, opened_all, opened_by, after_brought, after_all, IsServedSo, IsStage as IsServedStage, StagesAreKept as ServingKeepsStages}
use Rattle.trace_loop.specs.trace_book.{run, first_line, trace_text, served_by, settings_of, new_channels, StagesAreKept, came, events_text, IsServed, EndsSo}

-- The channels keep their settings.
settings_one : (id : ℕ) (e : Event) (cs : List Served) → settings_of (after_event_of id e cs) ≡ settings_of cs
settings_one id e [] = refl
settings_one id e (c ∷ cs) =
    cond_both (eqb (id_of c) id) (with_event e c) c (λ x. x.settings ∷ settings_of (after_event_of id e cs) ≡ c.settings ∷ settings_of cs)
    (λ t. ap (λ (l : List Settings). c.settings ∷ l) (settings_one id e cs)) (λ f. ap (λ (l : List Settings). c.settings ∷ l) (settings_one id e cs))

settings_tick : (cs : List Served) → settings_of (after_tick cs) ≡ settings_of cs
settings_tick [] = refl
settings_tick (c ∷ cs) = ap (λ (l : List Settings). c.settings ∷ l) (settings_tick cs)

pub settings_after : (e : HubEvent) (cs : List Served) → settings_of (after_event e cs) ≡ settings_of cs
settings_after (Live id bytes) cs = settings_one id (event.Live bytes) cs
settings_after (Feedback id client bytes) cs = settings_one id (event.Feedback client bytes) cs
settings_after Tick cs = settings_tick cs

pub settings_over : (events : List HubEvent) (cs : List Served) → settings_of (after_events events cs) ≡ settings_of cs
unfolding after_events
settings_over [] cs = refl
settings_over (e ∷ events) cs = settings_after e (after_events events cs) ∙ settings_over events cs

-- Channels with these settings, to which nothing has come.
abbrev pub new_of : List Settings → List Served
new_of all = map (λ s. served s []) all

pub settings_are : (all : List Settings) → settings_of (new_of all) ≡ all
settings_are [] = refl
settings_are (s ∷ all) = ap (λ (l : List Settings). s ∷ l) (settings_are all)

pub new_are : (cs : List Served) → new_channels cs ≡ new_of (settings_of cs)
new_are [] = refl
new_are (c ∷ cs) = ap (λ (l : List Served). served c.settings [] ∷ l) (new_are cs)

-- so they are after their lines
opened_are : (all : List Settings) (cs : List Served) → opened_all run all cs ≡ cs ++ new_of all
opened_are [] cs = sym (append-nil cs)
opened_are (s ∷ all) cs = opened_are all (cs ++ served s [] ∷ []) ∙ append_assoc cs (served s [] ∷ []) (new_of all)

events_come : (events : List HubEvent) (cs : List Served) → after_all run events cs ≡ after_events events cs
unfolding after_all after_events
events_come [] cs = refl
events_come (e ∷ events) cs = ap (after_event e) (events_come events cs)

-- A trace.
module _ (trace : List ℕ) (so : IsServedSo run trace) where
  after_lines : served_by trace ≡ after_events (came trace) (new_of so.all)
  after_lines = so.after ∙ ap (after_all run (came trace)) (opened_are so.all []) ∙ events_come (came trace) (new_of so.all)

  pub all_are : settings_of (served_by trace) ≡ so.all
  all_are = ap settings_of after_lines ∙ settings_over (came trace) (new_of so.all) ∙ settings_are so.all

  new_lines : new_channels (served_by trace) ≡ new_of so.all
  new_lines = new_are (served_by trace) ∙ ap new_of all_are

  pub served_after : served_by trace ≡ after_events (came trace) (new_channels (served_by trace))
  served_after = after_lines ∙ sym (ap (after_events (came trace)) new_lines)

  pub ends_so : EndsSo trace
  ends_so =
      record {
        left = so.left;
        last = so.last;
        splits = so.splits;
        why = so.why;
        text =
            subst (λ (cs : List Served). trace_text trace ≡ ended so.last.status (first_line ++ (events_text (came trace) cs ++ so.last.text))) (opened_are so.all [] ∙ sym new_lines) so.text;
      }

-- the events of each channel, where each had those of its number
abbrev IsGot : List HubEvent → Served → Type 0
IsGot events c = c.events ≡ events_of (id_of c) events

all_got : (events : List HubEvent) (cs : List Served) → All (IsGot events) (map (λ c. served c.settings (events_of (id_of c) events ++ c.events)) (new_channels cs))
all_got events [] = All-nil (IsGot events)
all_got events (c ∷ cs) = All-cons (IsGot events) (served c.settings (events_of (id_of c) events ++ [])) _ (append-nil (events_of (id_of c) events)) (all_got events cs)

pub channels_of : (cs : List Served) → map (λ c. c.settings.channel) cs ≡ map (λ s. s.channel) (settings_of cs)
channels_of [] = refl
channels_of (c ∷ cs) = ap (λ (l : List Channel). c.settings.channel ∷ l) (channels_of cs)

pub is_served : EachChannelGetsItsEvents → (trace : List ℕ) → IsServedSo run trace → IsServed trace
is_served each trace so =
    let cs = served_by trace in
    let after = served_after trace so in
    record {
      head = so.head;
      opened = channels_of cs ∙ ap (λ (all : List Settings). map (λ s. s.channel) all) (all_are trace so) ∙ so.opened;
      got = subst (All (IsGot (came trace))) (sym (after ∙ each (came trace) (new_channels cs))) (all_got (came trace) cs);
      after = after;
      count = so.count;
    }

-- What a line makes of a stage.
settings_opened : (opens : Option Settings) (cs : List Served) → settings_of (opened_by run opens cs) ≡ settings_of cs ++ option_to_list opens
settings_opened None cs = sym (append-nil (settings_of cs))
settings_opened (Some s) cs = map-append (λ (c : Served). c.settings) cs (served s [] ∷ [])

settings_brought : (brings : Option HubEvent) (cs : List Served) → settings_of (after_brought run brings cs) ≡ settings_of cs
settings_brought None cs = refl
settings_brought (Some e) cs = settings_after e cs

pub stages_kept : ServingKeepsStages run → StagesAreKept
stages_kept keeps stage later number bytes text i e =
    let k = keeps stage later (settings_of stage.state) number bytes text i e in
    let all = ap settings_of k.state ∙ settings_brought k.brings (opened_by run k.opens stage.state) ∙ settings_opened k.opens stage.state in
    subst (IsServedStage run later) (sym all) k.kept
