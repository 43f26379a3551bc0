use Rattle.std.proofs.Common.{◌≡◌, ◌≤◌, List, [], ◌∷◌, Option, Some, None, refl, sym, subst, arith}
use Rattle.std.specs.Prelude.{All}
use Rattle.rams_model.specs.Service.{Settings}
use Rattle.rams_model.specs.Texts.{Head}
use Rattle.server_hub.specs.declared.HubEvent.{HubEvent}
use Rattle.server_hub.specs.{FitLink, shares_of, all_shares, after_events}
use Rattle.server_hub.specs.Served.{Served}
use Rattle.trace_loop.specs.trace_book.trace_serving.{last_stage, AreLawful, StandUnder, Stand}
use Rattle.trace_loop.specs.trace_book.{run, served_by, settings_of, new_channels, came, StayWithinTheLink}
use Rattle.trace_loop.proofs.trace_book.Served.{settings_over, all_are, served_after}
use Rattle.trace_loop.proofs.trace_book.Links.{settings_new, swells_over}
use Rattle.trace_loop.proofs.trace_book.laws.traces_stay_within_the_link.Goals as goal

-- Channels that fit a link, to which nothing had come.
module _ (c : goal.After-channels_stay_within_the_link) (head : Head) (events : List HubEvent) (cs : List Served) (fit : FitLink head.tick head.link (settings_of cs)) (lawful : All AreLawful (settings_of cs)) where
  -- so they do after some events
  shares_over : (before : List HubEvent) → all_shares (after_events before cs) ≤ head.link
  shares_over before = subst (λ (all : List Settings). shares_of all ≤ head.link) (sym (settings_over before cs)) fit.shares

  within : StayWithinTheLink head events cs
  within = record {
    fit = fit;
    lawful = lawful;
    in_a_tick = λ later before e. c.ticks_stay_within_the_link.ensures.budget head.link (after_events before cs) (shares_over before);
    most = λ later before e.
        let most = (c.ticks_stay_within_the_link.ensures.most head.link (after_events before cs) (shares_over before)).1 in
        omega (arith, most, swells_over before cs);
    only_ticks = λ event later before e other. c.ticks_stay_within_the_link.ensures.ticks event (after_events before cs) other;
    over_ticks = λ later stretch before e. c.channels_stay_within_the_link.ensures.budget head.link (after_events before cs) stretch (shares_over before);
    most_over_ticks = λ later stretch before e.
        let most = c.channels_stay_within_the_link.ensures.most head.link (after_events before cs) stretch (shares_over before) in
        omega (arith, most, swells_over before cs);
  }

-- no settings, no channels
none_of : (cs : List Served) → settings_of cs ≡ [] → cs ≡ []
none_of [] e = refl
none_of (s ∷ cs) e = absurd cc

pub returns : goal.returns
returns c trace =
    let so = c.traces_are_served_so.ensures trace in
    let cs = served_by trace in
    let stands : Stand (last_stage run trace).reached.head (settings_of cs) = subst (Stand (last_stage run trace).reached.head) (sym (all_are trace so)) so.stand in
    let stand = λ (o : Option Head) (e : (last_stage run trace).reached.head ≡ o). subst (λ (p : Option Head). Stand p (settings_of cs)) e stands in
    let same = sym (settings_new cs) in
    record {
      after = served_after trace so;
      link = λ head e.
          let u : StandUnder head (settings_of cs) = stand (Some head) e in
          within c head (came trace) (new_channels cs) (subst (FitLink head.tick head.link) same u.fit) (subst (All AreLawful) same u.lawful);
      headless = λ e. none_of cs (stand None e);
    }
