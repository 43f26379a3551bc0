-- What all channels of a trace send together stays within the link of its head line.
use Rattle.std.specs.Prelude.{◌≡◌, ◌≢◌, ℕ, ◌+◌, ◌*◌, ◌≤◌, List, [], ◌∷◌, ◌++◌, Some, None, All}
use Rattle.rams_model.specs.Texts.{Head}
use Rattle.server_hub.specs.declared.{HubEvent.HubEvent, HubEvent.TheVariants.Tick}
use Rattle.server_hub.specs.{answers_to_tick, FitLink, bytes_of_all, all_kept, all_swells, answers_to, after_events, sent_over, ticks_among}
use Rattle.server_hub.specs.Served.{Served}
use Rattle.trace_loop.specs.trace_book.trace_serving.{last_stage, AreLawful}
use Rattle.trace_loop.specs.trace_book.TraceText.{run, served_by}
use Rattle.trace_loop.specs.trace_book.Stages.{settings_of, new_channels}
use Rattle.trace_loop.specs.trace_book.Runs.{came}

-- These channels, to which nothing had come, stay within the link while these events come, the newest first.
pub record StayWithinTheLink (head : Head) (events : List HubEvent) (channels : List Served) : Type 0 where
  -- there are at most 64, no two have one number, all have the head line's tick, and their shares together are at most its link
  pub fit : FitLink head.tick head.link (settings_of channels)
  pub lawful : All AreLawful (settings_of channels)
  -- in each tick they send together at most what the link gives, and what they kept
  pub in_a_tick : (later before : List HubEvent) → events ≡ later ++ (Tick ∷ before) → let now = after_events before channels in
      bytes_of_all (answers_to_tick now) ≤ head.link + all_kept now
  -- which is at most the swells
  pub most : (later before : List HubEvent) → events ≡ later ++ (Tick ∷ before)
      → bytes_of_all (answers_to_tick (after_events before channels)) ≤ head.link + all_swells channels
  -- between the ticks they send no packet
  pub only_ticks : (event : HubEvent) (later before : List HubEvent) → events ≡ later ++ (event ∷ before) → event ≢ Tick → bytes_of_all (answers_to event (after_events before channels)) ≡ 0
  -- over events that follow one another they send at most as many times what the link gives as there are ticks, and what they kept, less what they keep
  pub over_ticks : (later stretch before : List HubEvent) → events ≡ later ++ (stretch ++ before) → let from = after_events before channels in
      sent_over stretch from + all_kept (after_events stretch from) ≤ ticks_among stretch * head.link + all_kept from
  -- which is at most the swells more
  pub most_over_ticks : (later stretch before : List HubEvent) → events ≡ later ++ (stretch ++ before)
      → sent_over stretch (after_events before channels) ≤ ticks_among stretch * head.link + all_swells channels

-- The channels of a trace keep the link of its head line.
pub record KeepsTheLink (trace : List ℕ) : Type 0 where
  -- they are what new channels are after the events of the trace
  pub after : served_by trace ≡ after_events (came trace) (new_channels (served_by trace))
  pub link : (head : Head) → (last_stage run trace).reached.head ≡ Some head → StayWithinTheLink head (came trace) (new_channels (served_by trace))
  -- without a head line there is no channel
  pub headless : (last_stage run trace).reached.head ≡ None → served_by trace ≡ []

abbrev pub TracesStayWithinTheLink : Type 0
TracesStayWithinTheLink = (trace : List ℕ) → KeepsTheLink trace
