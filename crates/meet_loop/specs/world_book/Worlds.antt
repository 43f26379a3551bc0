-- How a trace is served by `meet`, and what its receivers present.
use Rattle.std.specs.Prelude.{◌≡◌, ℕ, ◌+◌, ◌≤◌, List, ◌++◌, length, map, filter_map, Some, option_to_list, All}
use Rattle.rams_model.specs.Receiver.{reception, shown, source_first}
use Rattle.rams_model.specs.Texts.{lines_of}
use Rattle.service_laws.specs.receiver_laws.{Presents}
use Rattle.server_hub.specs.{channel_of}
use Rattle.server_hub.specs.Served.{Served}
use Rattle.meet_loop.specs.world_laws.World.{World}
use Rattle.meet_loop.specs.world_laws.{source_of, PresentsWhatIsDelivered, AreMedia, AreInfos, world_after}
use Rattle.meet_loop.specs.world_text.{first_line, world_lines}
use Rattle.trace_loop.specs.trace_book.trace_serving.{Outcome, ended, last_stage, head_at, channel_at, taken, came, EndsWith}
use Rattle.trace_loop.specs.trace_book.{new_channels, KeepsPromises}
use Rattle.meet_loop.specs.world_book.WorldText.{most_events, meet, meet_text, world_of}

-- What a trace is served by, read off the lines that are taken.
pub record IsServedByAWorld (trace : List ℕ) : Type 0 where
  -- there is at most one head line
  pub head : filter_map head_at (taken meet trace) ≡ option_to_list (last_stage meet trace).reached.head
  -- the channels are those of the channel lines, in order
  pub opened : map (λ c. c.settings.channel) (world_of trace).channels ≡ filter_map channel_at (taken meet trace)
  -- the world is what new channels and the events of the lines make of it
  pub after : world_of trace ≡ world_after (new_channels (world_of trace).channels) (came meet trace)
  -- each event is counted once
  pub count : (last_stage meet trace).events ≡ length (came meet trace)
  pub few : (last_stage meet trace).events ≤ most_events

abbrev pub WorldsAreServedByTheirLines : Type 0
WorldsAreServedByTheirLines = (trace : List ℕ) → IsServedByAWorld trace

-- A trace ends at the first line that doesn't go on. Its text is the first line, what is said of its events, and how it ends.
pub record EndsSo (trace : List ℕ) : Type 0 where
  pub left : List (List ℕ)
  pub last : Outcome
  pub splits : lines_of trace ≡ taken meet trace ++ left
  pub why : EndsWith meet (last_stage meet trace) (length (taken meet trace) + 1) left last
  pub text : meet_text trace ≡ ended last.status (first_line ++ (world_lines (new_channels (world_of trace).channels) (came meet trace) ++ last.text))

abbrev pub WorldsEndSo : Type 0
WorldsEndSo = (trace : List ℕ) → EndsSo trace

-- What each receiver of a world presents of its channel.
pub record ReceiversPresent (w : World) : Type 0 where
  -- a prefix of the source from its first number on, in order, each packet once
  pub prefix : All (λ l. (c : Served) × (channel_of l.id w.channels ≡ Some c) × Presents (source_of c) (source_first l.turns) (reception l.turns).play (shown l.turns)) w.listeners
  -- all that was delivered without a gap, each packet while there was room for it
  pub delivered : All (λ l. (c : Served) × (channel_of l.id w.channels ≡ Some c) × PresentsWhatIsDelivered l) w.listeners
  -- none of the media that came to it was foreign or bad
  pub media : All (λ l. (c : Served) × (channel_of l.id w.channels ≡ Some c) × AreMedia l.turns) w.listeners
  -- and no RAMS-I that came to it was
  pub infos : All (λ l. (c : Served) × (channel_of l.id w.channels ≡ Some c) × AreInfos l.turns) w.listeners

abbrev pub ReceiversPresentTheirSources : Type 0
ReceiversPresentTheirSources = (trace : List ℕ) → ReceiversPresent (world_of trace)

-- Each channel of a world keeps its promises.
abbrev pub WorldsAreServedLawfully : Type 0
WorldsAreServedLawfully = (trace : List ℕ) → All KeepsPromises (world_of trace).channels
