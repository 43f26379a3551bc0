-- The channels of a server, over events.
use Rattle.std.proofs.Common.{◌≡◌, ◌≢◌, ℕ, ◌+◌, ◌*◌, ◌≤◌, Bool, true, false, List, [], ◌∷◌, ◌++◌, map, refl, sym, ◌∙◌, ap, arith}
use Rattle.std.specs.Prelude.{sum_by, if◌then◌else◌, ◌==◌}
use Rattle.std.proofs.lemmas.Bool.{cond_both}
use Rattle.std.proofs.lemmas.List.Sums.{sum_by-le-sum_by}
use Rattle.rams_model.specs.declared.Event.{Event}
use Rattle.rams_model.specs.declared.Event.TheVariants as event
use Rattle.rams_model.specs.Service.{Settings}
use Rattle.server_hub.specs.declared.event.HubEvent.{HubEvent}
use Rattle.server_hub.specs.{served, id_of, with_event, channel_of, after_event_of, after_tick, after_event, shares_of, bytes_of_all, kept, all_kept, all_shares, answers_to, after_events, sent_over, ticks_among, events_of}
use Rattle.server_hub.specs.declared.event.HubEvent.TheVariants.{Live, Feedback, Tick}
use Rattle.server_hub.specs.Served.{Served}
use Rattle.server_hub.proofs.Linked.{all_tick, one_keeps, one_sends, live_no_tick, feedback_no_tick}

-- an event that is no tick has nothing sent
pub nothing_sent : (event : HubEvent) (cs : List Served) → event ≢ Tick → bytes_of_all (answers_to event cs) ≡ 0
nothing_sent (Live id bytes) cs other = one_sends id (event.Live bytes) (channel_of id cs) (λ c. live_no_tick c.settings.channel bytes)
nothing_sent (Feedback id client bytes) cs other = one_sends id (event.Feedback client bytes) (channel_of id cs) (λ c. feedback_no_tick c.settings.channel client bytes)
nothing_sent Tick cs other = absurd (other refl)

-- the channels keep their settings
settings_one : (id : ℕ) (e : Event) (cs : List Served) → map (λ c. c.settings) (after_event_of id e cs) ≡ map (λ c. c.settings) cs
settings_one id e [] = refl
settings_one id e (c ∷ cs) =
    cond_both (id_of c == id) (with_event e c) c (λ x. x.settings ∷ map (λ y. y.settings) (after_event_of id e cs) ≡ c.settings ∷ map (λ y. y.settings) cs)
    (λ t. ap (λ (l : List Settings). c.settings ∷ l) (settings_one id e cs)) (λ f. ap (λ (l : List Settings). c.settings ∷ l) (settings_one id e cs))

settings_tick : (cs : List Served) → map (λ c. c.settings) (after_tick cs) ≡ map (λ c. c.settings) cs
settings_tick [] = refl
settings_tick (c ∷ cs) = ap (λ (l : List Settings). c.settings ∷ l) (settings_tick cs)

settings_stay : (event : HubEvent) (cs : List Served) → map (λ c. c.settings) (after_event event cs) ≡ map (λ c. c.settings) cs
settings_stay (Live id bytes) cs = settings_one id (event.Live bytes) cs
settings_stay (Feedback id client bytes) cs = settings_one id (event.Feedback client bytes) cs
settings_stay Tick cs = settings_tick cs

pub shares_stay : (events : List HubEvent) (cs : List Served) → all_shares (after_events events cs) ≡ all_shares cs
unfolding after_events
shares_stay [] cs = refl
shares_stay (event ∷ events) cs = ap shares_of (settings_stay event (after_events events cs)) ∙ shares_stay events cs

-- over events
pub over_events : (link : ℕ) (cs : List Served) (events : List HubEvent) → all_shares cs ≤ link
    → sent_over events cs + all_kept (after_events events cs) ≤ ticks_among events * link + all_kept cs
unfolding after_events sent_over ticks_among
over_events link cs [] fits = omega arith
over_events link cs (Tick ∷ events) fits =
    let now = after_events events cs in omega (arith, all_tick now, shares_stay events cs, over_events link cs events fits)
over_events link cs (Live id bytes ∷ events) fits =
    let now = after_events events cs in
    omega (
      arith,
      one_keeps id (event.Live bytes) now (λ c. live_no_tick c.settings.channel bytes),
      one_sends id (event.Live bytes) (channel_of id now) (λ c. live_no_tick c.settings.channel bytes),
      over_events link cs events fits,
    )
over_events link cs (Feedback id client bytes ∷ events) fits =
    let now = after_events events cs in
    omega (
      arith,
      one_keeps id (event.Feedback client bytes) now (λ c. feedback_no_tick c.settings.channel client bytes),
      one_sends id (event.Feedback client bytes) (channel_of id now) (λ c. feedback_no_tick c.settings.channel client bytes),
      over_events link cs events fits,
    )

-- what is kept is at most the swells
pub kept_within : (cs : List Served) → all_kept cs ≤ sum_by (λ c. c.settings.channel.swell) cs
kept_within cs = sum_by-le-sum_by kept (λ c. c.settings.channel.swell) cs (λ c. omega arith)

-- a channel with its events among these
abbrev got : List HubEvent → Served → Served
got events c = served c.settings (events_of (id_of c) events ++ c.events)

got_none : (cs : List Served) → cs ≡ map (got []) cs
unfolding events_of
got_none [] = refl
got_none (c ∷ cs) = ap (λ (l : List Served). c ∷ l) (got_none cs)

got_tick : (events : List HubEvent) (cs : List Served) → after_tick (map (got events) cs) ≡ map (got (Tick ∷ events)) cs
unfolding events_of
got_tick events [] = refl
got_tick events (c ∷ cs) = ap (λ (l : List Served). got (Tick ∷ events) c ∷ l) (got_tick events cs)

-- one more, where it is the channel's
got_if : (b : Bool) (e : Event) (events : List Event) (c : Served)
    → (if b then with_event e (served c.settings (events ++ c.events)) else served c.settings (events ++ c.events)) ≡ served c.settings ((if b then e ∷ events else events) ++ c.events)
got_if true e events c = refl
got_if false e events c = refl

got_one : (id : ℕ) (e : Event) (event : HubEvent) (events : List HubEvent) → ((k : ℕ) → events_of k (event ∷ events) ≡ (if k == id then e ∷ events_of k events else events_of k events))
    → (cs : List Served) → after_event_of id e (map (got events) cs) ≡ map (got (event ∷ events)) cs
got_one id e event events is [] = refl
got_one id e event events is (c ∷ cs) =
    let this : (if id_of c == id then with_event e (got events c) else got events c) ≡ got (event ∷ events) c =
    got_if (id_of c == id) e (events_of (id_of c) events) c ∙ ap (λ (l : List Event). served c.settings (l ++ c.events)) (sym (is (id_of c))) in
    cc (this, got_one id e event events is cs)

pub each_got : (events : List HubEvent) (cs : List Served) → after_events events cs ≡ map (got events) cs
unfolding after_events events_of
each_got [] cs = got_none cs
each_got (Tick ∷ events) cs = ap after_tick (each_got events cs) ∙ got_tick events cs
each_got (Live id bytes ∷ events) cs =
    ap (after_event_of id (event.Live bytes)) (each_got events cs) ∙ got_one id (event.Live bytes) (Live id bytes) events (λ k. refl) cs
each_got (Feedback id client bytes ∷ events) cs =
    ap (after_event_of id (event.Feedback client bytes)) (each_got events cs) ∙ got_one id (event.Feedback client bytes) (Feedback id client bytes) events (λ k. refl) cs
