-- The lines of a trace's head and of its channel, as a server takes them.
use Rattle.std.proofs.Common.{◌≡◌, ℕ, ◌+◌, Bool, true, false, cond, not, ◌&&◌, eqb, List, [], ◌∷◌, length, nat_le, nat_lt, Option, Some, None, Result, Ok, Err, is_some, refl, sym, ap, subst, ◌∙◌, inl, inr}
use Rattle.std.specs.Prelude.{◌⊎◌, ◌==◌, sum_by}
use Rattle.std.proofs.lemmas.Bool.{and_parts, lt-ltb, le-leb}
use Rattle.std.proofs.lemmas.List.{map-append}
use Rattle.rams_model.specs.declared.{Channel.Channel, Event.Event, LineFault.LineFault, Mode.Mode}
use Rattle.rams_model.specs.declared.Mode.TheVariants.{Threads, Serve}
use Rattle.rams_model.specs.declared.Event.TheVariants as event
use Rattle.rams_model.specs.Service.{settings}
use Rattle.rams_model.specs.Texts.{TraceLine, head_line, channel_line, live_line, feedback_line, tick_line, end_line, tune_line, give_line, mcast_line, ask_line, drop_line, line_of, Head, Reached, tick_of, version_of, bytes_in, has_one_channel, has_channel, has_receivers, may_come, with_channel, with_line, judged}
use Rattle.server_hub.specs.declared.HubEvent.{HubEvent}
use Rattle.server_hub.specs.declared.HubEvent.TheVariants.{Live, Feedback, Tick}
use Rattle.server_hub.specs.{served, id_of, with_event, after_event, after_event_of, after_tick}
use Rattle.server_hub.specs.Served.{Served}
use Rattle.trace_loop.specs.trace_book.trace_serving.{Stage, Outcome, Turn, goes_on, ends, too_long, turn, brought, event_at, eventless, after_line, after_judging, counted}
use Rattle.trace_loop.proofs.trace_book.trace_serving.Judged.{channel_so}
use Rattle.trace_loop.specs.trace_book.{run, new_channels}
use Rattle.trace_loop.proofs.journal_book.Modes.{accepts, judges}
use Rattle.threads_loop.specs.{threads}
use Rattle.threads_loop.proofs.Accepted.{IsTaken, taken_so}
use Rattle.trace_loop.proofs.journal_book.Modes.{refused_event}
use Rattle.trace_loop.proofs.trace_book.trace_serving.Steps.{went_to}

-- what a server has reached by the same head
abbrev pub serve_of : Reached → Reached
serve_of r = record r { mode = Serve; begun = false }

-- the stage of a server that has read the same head
abbrev pub head_of : Stage (List Served) → Stage (List Served)
head_of stage = record { reached = serve_of stage.reached; state = new_channels stage.state; events = 0 }

-- ---- what comes changes no settings

new_one : (b : Bool) (e : Event) (c : Served) → served (cond b (with_event e c) c).settings [] ≡ served c.settings []
new_one true e c = refl
new_one false e c = refl

new_after_one : (id : ℕ) (e : Event) (cs : List Served) → new_channels (after_event_of id e cs) ≡ new_channels cs
new_after_one id e [] = refl
new_after_one id e (c ∷ cs) =
    ap (λ x. x ∷ new_channels (after_event_of id e cs)) (new_one (eqb (id_of c) id) e c) ∙ ap (λ l. served c.settings [] ∷ l) (new_after_one id e cs)

new_after_tick : (cs : List Served) → new_channels (after_tick cs) ≡ new_channels cs
new_after_tick [] = refl
new_after_tick (c ∷ cs) = ap (λ l. served c.settings [] ∷ l) (new_after_tick cs)

new_after : (e : HubEvent) (cs : List Served) → new_channels (after_event e cs) ≡ new_channels cs
new_after (Live id bytes) cs = new_after_one id (event.Live bytes) cs
new_after (Feedback id client bytes) cs = new_after_one id (event.Feedback client bytes) cs
new_after Tick cs = new_after_tick cs

-- ---- one line

-- A line that goes on: it is one that a server takes alike, or it brings an event, which leaves the head as it is.
abbrev pub IsHeadStep : Stage (List Served) → Stage (List Served) → List ℕ → Type 0
IsHeadStep stage later bytes =
    ((event_at threads bytes ≡ None) × ((number : ℕ) → turn run (head_of stage) number bytes ≡ goes_on (head_of later) []))
    ⊎ ((e : HubEvent) × (event_at threads bytes ≡ Some e) × (head_of later ≡ head_of stage))

-- no line of a receiver may come
pub no_receiver : (r : Reached) → r.mode ≡ Threads → ((not r.ended && (has_channel r && has_receivers r.mode)) && true) ≡ true → ⊥
no_receiver r mode may = refused_event (not r.ended) (has_channel r) (subst (λ (m : Mode). ((not r.ended && (has_channel r && has_receivers m)) && true) ≡ true) mode may)

module _ (stage later : Stage (List Served)) (bytes : List ℕ) (reached : Reached) where
  -- the line of the head
  by_head : (version tick link : ℕ) → IsTaken stage.reached bytes (head_line version tick link) reached → eventless threads stage reached (head_line version tick link) ≡ goes_on later []
      → (number : ℕ) → turn run (head_of stage) number bytes ≡ goes_on (head_of later) []
  unfolding turn
  by_head version tick link is goes number =
      let head = head_line version tick link in
      let r = serve_of stage.reached in
      let gives : with_line r head ≡ Ok (serve_of reached) = serves (with_line stage.reached head) is.accepts.gives in
      let j = judges r bytes head (serve_of reached) is.reads (accepts r head (serve_of reached) is.accepts.may is.accepts.in_range refl gives) in
      ap (after_judging run (head_of stage) number) j ∙ ap (λ (s : Stage (List Served)). goes_on (head_of s) []) (went_to stage later _ [] [] goes)
    where
      inside : Result Reached LineFault → Result Reached LineFault
      inside (Ok x) = Ok (serve_of x)
      inside (Err fault) = Err fault

      serves : (o : Result Reached LineFault) → o ≡ Ok reached → inside o ≡ Ok (serve_of reached)
      serves o e = ap inside e

  -- the line of the channel
  by_channel : (version : ℕ) (c : Channel) → IsTaken stage.reached bytes (channel_line version c) reached → eventless threads stage reached (channel_line version c) ≡ goes_on later []
      → (number : ℕ) → turn run (head_of stage) number bytes ≡ goes_on (head_of later) []
  unfolding turn
  by_channel version c is goes number =
      let line = channel_line version c in
      let r = serve_of stage.reached in
      let j = judges r bytes line (serve_of reached) is.reads (accepts r line (serve_of reached) may is.accepts.in_range refl gives) in
      let opened = map-append (λ (x : Served). served x.settings []) stage.state (served (settings c (tick_of reached.head)) [] ∷ []) in
      ap (after_judging run (head_of stage) number) j
      ∙ ap (λ (cs : List Served). goes_on (record { reached = serve_of reached; state = cs; events = 0 }) []) (sym opened)
      ∙ ap (λ (s : Stage (List Served)). goes_on (head_of s) []) (went_to stage later _ [] [] goes)
    where
      may : may_come (serve_of stage.reached) (channel_line version c) ≡ true
      may =
          let r = stage.reached in
          let opens = is_some r.head && not r.begun in
          let alone = not (has_one_channel r.mode && has_channel r) in
          let outer = and_parts (not r.ended && (opens && alone)) (version_of r.head == version) is.accepts.may in
          let inner = and_parts (not r.ended) (opens && alone) outer.0 in
          let next = and_parts opens alone inner.1 in
          let some = and_parts (is_some r.head) (not r.begun) next.0 in
          rw (inner.0, some.0, outer.1) refl

      gives : with_channel (serve_of stage.reached) stage.reached.head c ≡ Ok (serve_of reached)
      gives =
          let so = channel_so stage.reached stage.reached.head c reached is.accepts.gives in
          let joins = so.2 in
          let fits : nat_le (sum_by (λ k. k.share) stage.reached.channels + c.share) so.0.link ≡ true = le-leb _ _ joins.fits in
          let few : nat_lt (length stage.reached.channels) 64 ≡ true = lt-ltb _ _ joins.few in
          ap (λ (h : Option Head). with_channel (serve_of stage.reached) h c) so.1 ∙ rw (joins.new, joins.lawful, fits, few) (ap (λ (x : Reached). Ok (serve_of x)) joins.gives)

  -- the line of an event
  by_event : (e : HubEvent) (line : TraceLine) → with_line stage.reached line ≡ Ok reached → with_line stage.reached line ≡ Ok (record stage.reached { begun = true }) → (b : Bool) → nat_lt stage.events 200000 ≡ b
      → counted threads stage reached e ≡ goes_on later [] → head_of later ≡ head_of stage
  by_event e line gives is true few goes =
      let on : counted threads stage reached e ≡ goes_on (record { reached = reached; state = after_event e stage.state; events = stage.events + 1 }) [] = rw few refl in
      let next : record { reached = reached; state = after_event e stage.state; events = stage.events + 1 } ≡ later = went_to stage later _ [] [] (sym on ∙ goes) in
      let begun : record stage.reached { begun = true } ≡ reached = inside (sym is ∙ gives) in
      ap head_of (sym next) ∙ ap (λ (r : Reached). record { reached = serve_of r; state = new_channels (after_event e stage.state); events = 0 }) (sym begun)
      ∙ ap (λ (cs : List Served). record { reached = serve_of stage.reached; state = cs; events = 0 }) (new_after e stage.state)
    where
      inside : {a b : Reached} → ◌≡◌ {A = Result Reached LineFault} (Ok a) (Ok b) → a ≡ b
      inside e = cc
  by_event e line gives is false many goes =
      let over : counted threads stage reached e ≡ ends too_long = rw many refl in
      absurd (never too_long (sym over ∙ goes))
    where
      never : (o : Outcome) → ◌≡◌ {A = Turn (List Served)} (ends o) (goes_on later []) → ⊥
      never o e = absurd cc

  -- what event a line of these bytes brings
  brings : (line : TraceLine) → line_of bytes ≡ Some line → (o : Option HubEvent) → brought threads line ≡ o → event_at threads bytes ≡ o
  brings line reads o is = ap at reads ∙ is
    where
      at : Option TraceLine → Option HubEvent
      at None = None
      at (Some l) = brought threads l

  by_line : (line : TraceLine) → stage.reached.mode ≡ Threads → IsTaken stage.reached bytes line reached → after_line threads stage reached line (brought threads line) ≡ goes_on later [] → IsHeadStep stage later bytes
  by_line (head_line version tick link) mode is goes = inl (brings (head_line version tick link) is.reads None refl, by_head version tick link is goes)
  by_line (channel_line version c) mode is goes = inl (brings (channel_line version c) is.reads None refl, by_channel version c is goes)
  by_line (live_line id hex) mode is goes = inr (Live id (bytes_in hex), brings (live_line id hex) is.reads (Some (Live id (bytes_in hex))) refl, by_event (Live id (bytes_in hex)) (live_line id hex) is.accepts.gives refl (nat_lt stage.events 200000) refl goes)
  by_line (feedback_line id client hex) mode is goes =
      inr (Feedback id client (bytes_in hex), brings (feedback_line id client hex) is.reads (Some (Feedback id client (bytes_in hex))) refl, by_event (Feedback id client (bytes_in hex)) (feedback_line id client hex) is.accepts.gives refl (nat_lt stage.events 200000) refl goes)
  by_line tick_line mode is goes = inr (Tick, brings tick_line is.reads (Some Tick) refl, by_event Tick tick_line is.accepts.gives refl (nat_lt stage.events 200000) refl goes)
  by_line end_line mode is goes = absurd cc
  by_line (tune_line id client ssrc) mode is goes = absurd (no_receiver stage.reached mode is.accepts.may)
  by_line (give_line number) mode is goes = absurd (no_receiver stage.reached mode is.accepts.may)
  by_line (mcast_line id client n) mode is goes = absurd (no_receiver stage.reached mode is.accepts.may)
  by_line (ask_line id client) mode is goes = absurd (no_receiver stage.reached mode is.accepts.may)
  by_line (drop_line id client) mode is goes = absurd (no_receiver stage.reached mode is.accepts.may)

by_judging : (stage later : Stage (List Served)) (number : ℕ) (bytes : List ℕ) (o : Result (TraceLine × Reached) LineFault) → stage.reached.mode ≡ Threads → judged stage.reached bytes ≡ o
    → after_judging threads stage number o ≡ goes_on later [] → IsHeadStep stage later bytes
by_judging stage later number bytes (Err fault) mode j goes = absurd cc
by_judging stage later number bytes (Ok read) mode j goes = by_line stage later bytes read.1 read.0 mode (taken_so stage.reached bytes read.0 read.1 j) goes

pub head_step : (stage later : Stage (List Served)) (number : ℕ) (bytes : List ℕ) → stage.reached.mode ≡ Threads → turn threads stage number bytes ≡ goes_on later [] → IsHeadStep stage later bytes
unfolding turn
head_step stage later number bytes mode goes = by_judging stage later number bytes (judged stage.reached bytes) mode refl goes
