-- A line that goes on in a trace for a pool goes on alike in one of `run`, and so does one that ends it as it should.
use Rattle.std.proofs.Common.{◌≡◌, ℕ, ◌+◌, Bool, true, false, nat_lt, List, [], Result, Ok, Err, refl, sym, ap, ◌∙◌, arith}
use Rattle.std.proofs.lemmas.Bool.{lt-ltb, ltb-true}
use Rattle.std.specs.Prelude.{option_and_then}
use Rattle.rams_model.specs.declared.{LineFault.LineFault, Status.TheVariants.Done, Status.TheVariants.TooLong}
use Rattle.rams_model.specs.Texts.{TraceLine, head_line, channel_line, live_line, feedback_line, tick_line, end_line, tune_line, give_line, mcast_line, ask_line, drop_line, Reached, bytes_in, judged}
use Rattle.server_hub.specs.declared.HubEvent.{HubEvent}
use Rattle.server_hub.specs.declared.HubEvent.TheVariants.{Live, Feedback, Tick}
use Rattle.server_hub.specs.{after_event}
use Rattle.server_hub.specs.Served.{Served}
use Rattle.trace_loop.specs.trace_book.trace_serving.{Stage, Outcome, Turn, goes_on, ends, done, refused, too_long, turn, brought, counted, after_line, after_judging}
use Rattle.trace_loop.proofs.trace_book.trace_serving.Judged.{judged_so}
use Rattle.trace_loop.proofs.trace_book.trace_serving.Runs.{stages_kept as serving_keeps}
use Rattle.trace_loop.specs.trace_book.{run, event_at, event_text, IsStage}
use Rattle.trace_loop.proofs.trace_book.Served.{stages_kept}
use Rattle.trace_loop.proofs.EndedTurns.{same_end, never_goes_on}
use Rattle.pool.specs.pool_loop.{pool}

-- the event that the bytes of a line bring is that of the line
pub brings_so : (r later : Reached) (bytes : List ℕ) (read : TraceLine) → judged r bytes ≡ Ok (read, later) → event_at bytes ≡ brought run read
brings_so r later bytes read j = ap (option_and_then (brought run)) (judged_so r bytes read later j).reads

-- ---- outcomes that differ

not_done : (n : ℕ) → ◌≡◌ {A = Turn (List Served)} (ends too_long) (ends (done n)) → ⊥
not_done n e = differ (ap (λ (x : Outcome). x.status) (same_end too_long (done n) e))
  where
    differ : TooLong ≡ Done → ⊥
    differ h = cc

never_ends : (stage : Stage (List Served)) (text : List ℕ) (o : Outcome) → goes_on stage text ≡ ends o → ⊥
never_ends stage text o e = absurd cc

-- ---- one line

-- the turn of `run` that goes on to the same stage
abbrev pub GoesOnTo : Turn (List Served) → Stage (List Served) → Type 0
GoesOnTo was later = (text : List ℕ) × (was ≡ goes_on later text)

module _ (stage : Stage (List Served)) (reached : Reached) where
  went_to : (later next : Stage (List Served)) → goes_on next [] ≡ goes_on later [] → next ≡ later
  went_to later next e = ap stage_in e
    where
      stage_in : Turn (List Served) → Stage (List Served)
      stage_in (goes_on s t) = s
      stage_in (ends o) = stage

  counted_on : (e : HubEvent) (later : Stage (List Served)) (b : Bool) → nat_lt stage.events 200000 ≡ b → counted pool stage reached e ≡ goes_on later [] → GoesOnTo (counted run stage reached e) later
  counted_on e later true few goes =
      let next : Stage (List Served) = record { reached = reached; state = after_event e stage.state; events = stage.events + 1 } in
      let on : counted pool stage reached e ≡ goes_on next [] = rw few refl in
      let more : nat_lt stage.events 1000000 ≡ true = lt-ltb stage.events 1000000 (omega (arith, ltb-true stage.events 200000 few)) in
      let text = event_text (stage.events + 1) e stage.state in
      let runs : counted run stage reached e ≡ goes_on next text = rw more refl in
      (text, runs ∙ ap (λ (s : Stage (List Served)). goes_on s text) (went_to later next (sym on ∙ goes)))
  counted_on e later false many goes =
      let over : counted pool stage reached e ≡ ends too_long = rw many refl in
      absurd (never_goes_on too_long later [] (sym over ∙ goes))

  counted_never : (e : HubEvent) (n : ℕ) (b : Bool) → nat_lt stage.events 200000 ≡ b → counted pool stage reached e ≡ ends (done n) → ⊥
  counted_never e n true few ended =
      let next : Stage (List Served) = record { reached = reached; state = after_event e stage.state; events = stage.events + 1 } in
      let on : counted pool stage reached e ≡ goes_on next [] = rw few refl in
      never_ends next [] (done n) (sym on ∙ ended)
  counted_never e n false many ended =
      let over : counted pool stage reached e ≡ ends too_long = rw many refl in
      not_done n (sym over ∙ ended)

  line_on : (line : TraceLine) (later : Stage (List Served)) → after_line pool stage reached line (brought pool line) ≡ goes_on later [] → GoesOnTo (after_line run stage reached line (brought run line)) later
  line_on (head_line version tick link) later goes = ([], goes)
  line_on (channel_line version c) later goes = ([], goes)
  line_on (live_line id hex) later goes = counted_on (Live id (bytes_in hex)) later (nat_lt stage.events 200000) refl goes
  line_on (feedback_line id client hex) later goes = counted_on (Feedback id client (bytes_in hex)) later (nat_lt stage.events 200000) refl goes
  line_on tick_line later goes = counted_on Tick later (nat_lt stage.events 200000) refl goes
  line_on end_line later goes = absurd (never_goes_on (done stage.events) later [] goes)
  line_on (tune_line id client ssrc) later goes = ([], goes)
  line_on (give_line number) later goes = ([], goes)
  line_on (mcast_line id client n) later goes = ([], goes)
  line_on (ask_line id client) later goes = ([], goes)
  line_on (drop_line id client) later goes = ([], goes)

  line_ends : (line : TraceLine) (n : ℕ) → after_line pool stage reached line (brought pool line) ≡ ends (done n) → after_line run stage reached line (brought run line) ≡ ends (done n)
  line_ends (head_line version tick link) n ended = absurd cc
  line_ends (channel_line version c) n ended = absurd cc
  line_ends (live_line id hex) n ended = absurd (counted_never (Live id (bytes_in hex)) n (nat_lt stage.events 200000) refl ended)
  line_ends (feedback_line id client hex) n ended = absurd (counted_never (Feedback id client (bytes_in hex)) n (nat_lt stage.events 200000) refl ended)
  line_ends tick_line n ended = absurd (counted_never Tick n (nat_lt stage.events 200000) refl ended)
  line_ends end_line n ended = ended
  line_ends (tune_line id client ssrc) n ended = absurd cc
  line_ends (give_line number) n ended = absurd cc
  line_ends (mcast_line id client n') n ended = absurd cc
  line_ends (ask_line id client) n ended = absurd cc
  line_ends (drop_line id client) n ended = absurd cc

-- ---- one turn

module _ (stage : Stage (List Served)) (number : ℕ) (bytes : List ℕ) where
  judged_on : (o : Result (TraceLine × Reached) LineFault) (later : Stage (List Served)) → after_judging pool stage number o ≡ goes_on later [] → GoesOnTo (after_judging run stage number o) later
  judged_on (Ok read) later goes = line_on stage read.1 read.0 later goes
  judged_on (Err fault) later goes = absurd (never_goes_on (refused number fault) later [] goes)

  judged_ends : (o : Result (TraceLine × Reached) LineFault) (n : ℕ) → after_judging pool stage number o ≡ ends (done n) → after_judging run stage number o ≡ ends (done n)
  judged_ends (Ok read) n ended = line_ends stage read.1 read.0 n ended
  judged_ends (Err fault) n ended = ended

  pub run_goes_on : (later : Stage (List Served)) → turn pool stage number bytes ≡ goes_on later [] → GoesOnTo (turn run stage number bytes) later
  unfolding turn
  run_goes_on later goes = judged_on (judged stage.reached bytes) later goes

  pub run_ends : (n : ℕ) → turn pool stage number bytes ≡ ends (done n) → turn run stage number bytes ≡ ends (done n)
  unfolding turn
  run_ends n ended = judged_ends (judged stage.reached bytes) n ended

  -- what it goes on to is a stage again
  pub stays_stage : (later : Stage (List Served)) → IsStage stage → turn pool stage number bytes ≡ goes_on later [] → IsStage later
  stays_stage later is goes =
      let on = run_goes_on later goes in
      stages_kept (serving_keeps run) stage later number bytes on.0 is on.1

  -- the turn of a line that was judged
  pub turn_so : (line : TraceLine) (reached : Reached) → judged stage.reached bytes ≡ Ok (line, reached) → turn pool stage number bytes ≡ after_line pool stage reached line (brought pool line)
  unfolding turn
  turn_so line reached j = ap (after_judging pool stage number) j
