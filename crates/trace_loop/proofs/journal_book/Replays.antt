-- How the lines of a journal are replayed: its head, its events, and `end`.
use Rattle.std.proofs.Common.{◌≡◌, ℕ, ◌+◌, ◌<◌, ◌≤◌, true, not, ◌&&◌, cond, nat_lt, List, [], ◌∷◌, ◌++◌, length, Option, Some, None, Ok, codes, refl, sym, ap, subst, ◌∙◌, arith, append_assoc}
use Rattle.std.specs.List.{AllByRecursion}
use Rattle.std.proofs.lemmas.Bool.{and_parts, lt-ltb}
use Rattle.rams_model.specs.declared.Mode.TheVariants.{Run, Serve}
use Rattle.rams_model.specs.Texts.{lines_of, whole_lines, words_of, end_line, line_text, line_is_served, Reached, has_channel, may_come, with_line, judged}
use Rattle.ram_io.specs.{Outgoing}
use Rattle.line_io.specs.{HasNoFeed}
use Rattle.line_io.proofs.LineFeeds.{lines_of-cut, whole_lines-cut}
use Rattle.server_hub.specs.declared.HubEvent.{HubEvent}
use Rattle.server_hub.specs.declared.HubEvent.TheVariants.{Live, Feedback, Tick}
use Rattle.server_hub.specs.{after_event}
use Rattle.server_hub.specs.Served.{Served}
use Rattle.trace_loop.specs.trace_book.trace_serving.{Stage, Turn, goes_on, ends, ended, done, after_text, opening, turn, after_line, after_judging, after_turn, text_from, stage_after, stage_from, too_long}
use Rattle.trace_loop.specs.trace_book.{run, most_events, event_text}
use Rattle.trace_loop.specs.journal_book.{line_of_event, event_line, event_lines, behind, HasLine, datagrams_of, sent_for, text_for, event_read, datagrams_to, sent_after, replayed_from, Leads, nothing, line}
use Rattle.trace_loop.proofs.journal_book.EventLines.{IsEventLine, event_line_is}
use Rattle.trace_loop.proofs.journal_book.Modes.{read_for, stage_of_run, accepts, judges, served_in_run, head_turn}

-- Some bytes at the front of a trace lead from one stage to another; this is sent for them, and this is their text, whatever stands behind them.
pub record Passes (port : ℕ) (from : Stage (List Served)) (number : ℕ) (front : List ℕ) (to : Stage (List Served)) (sent : List Outgoing) (text : List ℕ) : Type 0 where
  -- the number of the line behind them
  pub next : ℕ
  pub replays : (rest : List ℕ) → replayed_from port from number (whole_lines (front ++ rest)) ≡ sent ++ replayed_from port to next (whole_lines rest)
  pub outcome : (rest : List ℕ) → text_from run from number (lines_of (front ++ rest)) ≡ after_text text (text_from run to next (lines_of rest))
  pub stage : (rest : List ℕ) → stage_from run from number (lines_of (front ++ rest)) ≡ stage_from run to next (lines_of rest)

-- no bytes
pub none_pass : (port : ℕ) (stage : Stage (List Served)) (number : ℕ) → Passes port stage number [] stage [] []
none_pass port stage number = record { next = number; replays = λ rest. refl; outcome = λ rest. refl; stage = λ rest. refl }

-- some bytes and more of them
pub pass_on : (port : ℕ) (from middle to : Stage (List Served)) (number : ℕ) (front more : List ℕ) (sent then_sent : List Outgoing) (text then_text : List ℕ) → (p : Passes port from number front middle sent text)
    → Passes port middle p.next more to then_sent then_text → Passes port from number (front ++ more) to (sent ++ then_sent) (text ++ then_text)
pass_on port from middle to number front more sent then_sent text then_text p q =
    let split = λ (rest : List ℕ). append_assoc front more rest in
    record {
      next = q.next;
      replays = λ rest.
          ap (λ (bs : List ℕ). replayed_from port from number (whole_lines bs)) (split rest) ∙ p.replays (more ++ rest) ∙ ap (λ (os : List Outgoing). sent ++ os) (q.replays rest)
          ∙ sym (append_assoc sent then_sent (replayed_from port to q.next (whole_lines rest)));
      outcome = λ rest.
          ap (λ (bs : List ℕ). text_from run from number (lines_of bs)) (split rest) ∙ p.outcome (more ++ rest) ∙ ap (after_text text) (q.outcome rest)
          ∙ ap (ended (text_from run to q.next (lines_of rest)).status) (sym (append_assoc text then_text (text_from run to q.next (lines_of rest)).text));
      stage = λ rest. ap (λ (bs : List ℕ). stage_from run from number (lines_of bs)) (split rest) ∙ p.stage (more ++ rest) ∙ q.stage rest;
    }

-- A line that goes on.
module _ (port : ℕ) (from to : Stage (List Served)) (number : ℕ) (bytes text : List ℕ) (event : Option HubEvent) (clean : HasNoFeed bytes) (step : turn run from number bytes ≡ goes_on to text) (brings : event_read (judged from.reached bytes) ≡ event) where
  cut : (rest : List ℕ) → (bytes ++ codes "\n") ++ rest ≡ bytes ++ 10 ∷ rest
  cut rest = append_assoc bytes (codes "\n") rest

  replays_on : (lines : List (List ℕ)) → replayed_from port from number (bytes ∷ lines) ≡ datagrams_to port event from.state ++ replayed_from port to (number + 1) lines
  unfolding replayed_from
  replays_on lines =
      ap (λ (t : Turn (List Served)). sent_after t (datagrams_to port (event_read (judged from.reached bytes)) from.state) (λ later. replayed_from port later (number + 1) lines)) step
      ∙ ap (λ (e : Option HubEvent). datagrams_to port e from.state ++ replayed_from port to (number + 1) lines) brings

  text_on : (lines : List (List ℕ)) → text_from run from number (bytes ∷ lines) ≡ after_text text (text_from run to (number + 1) lines)
  unfolding text_from
  text_on lines = ap (λ (t : Turn (List Served)). after_turn t (λ later. text_from run later (number + 1) lines)) step

  stage_on : (lines : List (List ℕ)) → stage_from run from number (bytes ∷ lines) ≡ stage_from run to (number + 1) lines
  unfolding stage_from
  stage_on lines = ap (λ (t : Turn (List Served)). stage_after from t (λ later. stage_from run later (number + 1) lines)) step

  pub line_passes : Passes port from number (bytes ++ codes "\n") to (datagrams_to port event from.state) text
  line_passes = record {
    next = number + 1;
    replays = λ rest. ap (λ (ls : List (List ℕ)). replayed_from port from number ls) (ap whole_lines (cut rest) ∙ whole_lines-cut bytes rest clean) ∙ replays_on (whole_lines rest);
    outcome = λ rest. ap (λ (ls : List (List ℕ)). text_from run from number ls) (ap lines_of (cut rest) ∙ lines_of-cut bytes rest clean) ∙ text_on (lines_of rest);
    stage = λ rest. ap (λ (ls : List (List ℕ)). stage_from run from number ls) (ap lines_of (cut rest) ∙ lines_of-cut bytes rest clean) ∙ stage_on (lines_of rest);
  }

-- A head leads a run to the stage that it leads a server to.
pub record IsHead (port : ℕ) (head : List ℕ) (stage : Stage (List Served)) : Type 0 where
  pub mode : stage.reached.mode ≡ Serve
  pub events : stage.events ≡ 0
  pub passes : Passes port (opening run) 1 head (stage_of_run stage) [] []

pub head_passes : (port : ℕ) (head : List ℕ) (stage : Stage (List Served)) → Leads head stage → IsHead port head stage
head_passes port _ _ nothing = record { mode = refl; events = refl; passes = none_pass port (opening run) 1 }
head_passes port _ _ (line head stage later number bytes text leads clean step) =
    let before = head_passes port head stage leads in
    let one = head_turn stage later number bytes text before.mode step in
    let silent : event_read (judged (read_for Run stage.reached) bytes) ≡ None = ap event_read one.judges_so ∙ one.silent in
    record {
      mode = one.mode;
      events = one.events ∙ before.events;
      passes =
          pass_on port (opening run) (stage_of_run stage) (stage_of_run later) 1 head (bytes ++ codes "\n") [] [] [] [] before.passes
          (line_passes port (stage_of_run stage) (stage_of_run later) before.passes.next bytes [] None clean (one.runs before.passes.next) silent);
    }

-- A stage of a run where events may come, and `end`.
pub record IsReady (stage : Stage (List Served)) : Type 0 where
  pub mode : stage.reached.mode ≡ Run
  pub may : may_come stage.reached end_line ≡ true

-- the stage after an event
abbrev after_one : Stage (List Served) → HubEvent → Stage (List Served)
after_one stage event = record { reached = record stage.reached { begun = true }; state = after_event event stage.state; events = stage.events + 1 }

event_may : (r : Reached) (event : HubEvent) → may_come (read_for Run r) end_line ≡ true → may_come (read_for Run r) (line_of_event event) ≡ true
event_may r event h = by event
  where
    parts : ((not r.ended) ≡ true) × (has_channel r ≡ true)
    parts = let both = and_parts (not r.ended && has_channel r) true h in and_parts (not r.ended) (has_channel r) both.0

    by : (e : HubEvent) → may_come (read_for Run r) (line_of_event e) ≡ true
    by (Live id bytes) = rw (parts.0, parts.1) refl
    by (Feedback id client bytes) = rw (parts.0, parts.1) refl
    by Tick = rw (parts.0, parts.1) refl

event_begins : (r : Reached) (event : HubEvent) → with_line r (line_of_event event) ≡ Ok (record r { begun = true })
event_begins r (Live id bytes) = refl
event_begins r (Feedback id client bytes) = refl
event_begins r Tick = refl

-- the line of an event is taken in a run
event_judged : (r : Reached) (event : HubEvent) → r.mode ≡ Run → may_come r end_line ≡ true → IsEventLine event → judged r (line_text (line_of_event event)) ≡ Ok (line_of_event event, record r { begun = true })
event_judged r event mode may is =
    let same : read_for Run r ≡ r = ap (λ m. read_for m r) (sym mode) in
    let ends : may_come (read_for Run r) end_line ≡ true = subst (λ (x : Reached). may_come x end_line ≡ true) (sym same) may in
    let comes : may_come r (line_of_event event) ≡ true = subst (λ (x : Reached). may_come x (line_of_event event) ≡ true) same (event_may r event ends) in
    let served = subst (λ (x : Reached). line_is_served x (line_of_event event) ≡ true) same (served_in_run r (line_of_event event)) in
    judges r (line_text (line_of_event event)) (line_of_event event) (record r { begun = true }) is.reads
    (accepts r (line_of_event event) (record r { begun = true }) comes is.in_range served (event_begins r event))

-- and goes on where the events are few
event_turn : (stage : Stage (List Served)) (number : ℕ) (event : HubEvent) → IsReady stage → IsEventLine event → stage.events < most_events
    → turn run stage number (line_text (line_of_event event)) ≡ goes_on (after_one stage event) (event_text (stage.events + 1) event stage.state)
unfolding turn
event_turn stage number event ready is few =
    let next = record stage.reached { begun = true } in
    let counts : nat_lt stage.events most_events ≡ true = lt-ltb stage.events most_events few in
    ap (after_judging run stage number) (event_judged stage.reached event ready.mode ready.may is) ∙ ap (after_line run stage next (line_of_event event)) is.brings
    ∙ ap (λ b. cond b (goes_on (after_one stage event) (event_text (stage.events + 1) event stage.state)) (ends too_long)) counts

event_passes : (port : ℕ) (stage : Stage (List Served)) (number : ℕ) (event : HubEvent) → IsReady stage → IsEventLine event → stage.events < most_events
    → Passes port stage number (event_line event) (after_one stage event) (datagrams_of port event stage.state) (event_text (stage.events + 1) event stage.state)
unfolding event_line
event_passes port stage number event ready is few =
    line_passes port stage (after_one stage event) number (line_text (line_of_event event)) (event_text (stage.events + 1) event stage.state) (Some event) is.clean
    (event_turn stage number event ready is few) (ap event_read (event_judged stage.reached event ready.mode ready.may is) ∙ is.brings)

-- The lines of some events, and where they lead.
pub record EventsPass (port : ℕ) (from : Stage (List Served)) (number : ℕ) (events : List HubEvent) : Type 0 where
  pub to : Stage (List Served)
  pub ready : IsReady to
  pub channels : to.state ≡ behind events from.state
  pub count : to.events ≡ from.events + length events
  pub passes : Passes port from number (event_lines events) to (sent_for port from.state events) (text_for from.events from.state events)

pub events_pass : (port : ℕ) (from : Stage (List Served)) (number : ℕ) (events : List HubEvent) → IsReady from → AllByRecursion HasLine events → from.events + length events ≤ most_events → EventsPass port from number events
unfolding behind sent_for text_for
events_pass port from number [] ready lines few = record { to = from; ready = ready; channels = refl; count = omega arith; passes = none_pass port from number }
events_pass port from number (event ∷ events) ready lines few =
    let first = event_passes port from number event ready (event_line_is event lines.0) (omega arith) in
    let middle = after_one from event in
    let rest = events_pass port middle first.next events (record { mode = ready.mode; may = ready.may }) lines.1 (omega arith) in
    record {
      to = rest.to;
      ready = rest.ready;
      channels = rest.channels;
      count = let c = rest.count in omega (arith, c);
      passes =
          pass_on port from middle rest.to number (event_line event) (event_lines events) (datagrams_of port event from.state) (sent_for port middle.state events)
          (event_text (from.events + 1) event from.state) (text_for middle.events middle.state events) first rest.passes;
    }

-- `end` ends a trace.
end_judged : (r : Reached) → r.mode ≡ Run → may_come r end_line ≡ true → judged r (codes "end") ≡ Ok (end_line, record r { ended = true })
unfolding words_of
end_judged r mode may = judges r (codes "end") end_line (record r { ended = true }) refl (accepts r end_line (record r { ended = true }) may refl refl refl)

end_turn : (stage : Stage (List Served)) (number : ℕ) → IsReady stage → turn run stage number (codes "end") ≡ ends (done stage.events)
unfolding turn
end_turn stage number ready = ap (after_judging run stage number) (end_judged stage.reached ready.mode ready.may)

-- What stands behind the events of a journal.
pub record Ends (port : ℕ) (stage : Stage (List Served)) (number : ℕ) : Type 0 where
  pub replays : replayed_from port stage number (whole_lines (codes "end\n")) ≡ []
  pub outcome : text_from run stage number (lines_of (codes "end\n")) ≡ done stage.events
  pub stays : stage_from run stage number (lines_of (codes "end\n")) ≡ stage

pub end_passes : (port : ℕ) (stage : Stage (List Served)) (number : ℕ) → IsReady stage → Ends port stage number
unfolding replayed_from text_from stage_from whole_lines lines_of
end_passes port stage number ready =
    let e = end_turn stage number ready in
    record {
      replays = ap (λ (t : Turn (List Served)). sent_after t (datagrams_to port (event_read (judged stage.reached (codes "end"))) stage.state) (λ later. replayed_from port later (number + 1) [])) e;
      outcome = ap (λ (t : Turn (List Served)). after_turn t (λ later. text_from run later (number + 1) [])) e;
      stays = ap (λ (t : Turn (List Served)). stage_after stage t (λ later. stage_from run later (number + 1) [])) e;
    }
