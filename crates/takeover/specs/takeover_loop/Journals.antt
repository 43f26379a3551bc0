-- What is written at a takeover is one journal.
use Rattle.std.specs.Prelude.{◌≡◌, ℕ, ◌+◌, ◌≤◌, List, ◌++◌, All}
use Rattle.rams_model.specs.declared.Status.TheVariants.{Done}
use Rattle.server_hub.specs.Served.{Served}
use Rattle.trace_loop.specs.trace_book.{trace_text}
use Rattle.trace_loop.specs.journal_book.{CanArrive, IsJournal, behind, journal_of, most_turns, replayed, sent_for}
use Rattle.serve_loop.specs.Ended.{Given}
use Rattle.takeover.specs.standby.{followed, stage_of}
use Rattle.takeover.specs.takeover_loop.Taking.{given_events, taken_datagrams, taken_text}

-- What is written is the journal of the events that were followed and of those of the turns, behind one head.
pub record MakesOneJournal (g : Given) : Type 0 where
  pub head : List ℕ
  pub channels : List Served
  pub journal : IsJournal head channels (followed g.source ++ given_events g)
  pub text : (taken_text g).text ≡ journal_of head (followed g.source ++ given_events g)
  -- the channels that are taken over are those of the head behind the events that were followed
  pub state : (stage_of g.source).state ≡ behind (followed g.source) channels
  -- `run` reads it to its end
  pub runs : (trace_text (taken_text g).text).status ≡ Done
  -- its replay sends what the old server sends for the events that were followed, and then exactly what is sent
  pub replays : replayed g.live (taken_text g).text ≡ sent_for (g.live + 1) channels (followed g.source) ++ taken_datagrams g

-- So it is wherever a takeover ends with `end`.
abbrev pub TakeoversMakeOneJournal : Type 0
TakeoversMakeOneJournal = (g : Given) → (taken_text g).status ≡ Done → All CanArrive g.arrivals → g.turns ≤ most_turns → MakesOneJournal g
