-- What the lines of a journal are that a standby follows, with what comes behind them.
use Rattle.std.specs.Prelude.{◌≡◌, ℕ, ◌+◌, ◌≤◌, true, List, ◌++◌, length, All, codes}
use Rattle.std.specs.List.{flat_map}
use Rattle.rams_model.specs.declared.Status.TheVariants.{Done}
use Rattle.rams_model.specs.Texts.{has_channel}
use Rattle.server_hub.specs.declared.HubEvent.{HubEvent}
use Rattle.server_hub.specs.Served.{Served}
use Rattle.trace_loop.specs.trace_book.{most_events, trace_text}
use Rattle.trace_loop.specs.journal_book.{HasLine, IsJournal, Opens, behind, event_lines, journal_of, replayed, sent_for}
use Rattle.takeover.specs.standby.{followed, lines_followed, stage_of}

-- the whole lines that are followed, each with its line feed
abbrev pub followed_text : List ℕ → List ℕ
followed_text bytes = flat_map (λ line. line ++ codes "\n") (lines_followed bytes)

-- A standby that has read these bytes takes over from the server that wrote them.
pub record IsTakenOver (bytes : List ℕ) : Type 0 where
  -- the lines that are followed are a head, which opens some channels, and then the lines of the events that are followed
  pub head : List ℕ
  pub channels : List Served
  pub opens : Opens head channels
  pub text : followed_text bytes ≡ head ++ event_lines (followed bytes)
  -- the channels that are taken over are these behind those events
  pub state : (stage_of bytes).state ≡ behind (followed bytes) channels
  pub count : (stage_of bytes).events ≡ length (followed bytes)
  -- whatever comes then makes one journal with them, as long as it isn't too much
  pub journal : (later : List HubEvent) → All HasLine later → length (followed bytes) + length later ≤ most_events → IsJournal head channels (followed bytes ++ later) × (journal_of head (followed bytes ++ later) ≡ followed_text bytes ++ (event_lines later ++ codes "end\n"))
  -- its replay sends what is sent for the events that are followed, from the ports of the old server, and then what the channels that are taken over answer
  pub replays : (live : ℕ) (later : List HubEvent) → All HasLine later → length (followed bytes) + length later ≤ most_events
      → replayed live (followed_text bytes ++ (event_lines later ++ codes "end\n")) ≡ sent_for (live + 1) channels (followed bytes) ++ sent_for (live + 1) (stage_of bytes).state later
  -- and `run` reads it to its end
  pub runs : (later : List HubEvent) → All HasLine later → length (followed bytes) + length later ≤ most_events → (trace_text (followed_text bytes ++ (event_lines later ++ codes "end\n"))).status ≡ Done

-- So it is wherever a channel line was read.
abbrev pub JournalsAreTakenOver : Type 0
JournalsAreTakenOver = (bytes : List ℕ) → has_channel (stage_of bytes).reached ≡ true → IsTakenOver bytes
