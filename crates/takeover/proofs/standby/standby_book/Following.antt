-- The lines that a standby follows are a head and the lines of events.
use Rattle.std.proofs.Common.{◌≡◌, ℕ, ◌+◌, Bool, true, false, not, ◌&&◌, List, [], ◌∷◌, ◌++◌, length, Some, None, Result, Ok, Err, is_some, codes, refl, sym, ap, subst, ◌∙◌, append_assoc, append-nil, ltb, length-append}
use Rattle.std.specs.Prelude.{All, filter_map}
use Rattle.std.specs.List.{flat_map}
use Rattle.std.proofs.lemmas.Bool.{and_parts, cond_both}
use Rattle.std.proofs.lemmas.List.Concat.{flat_map-append}
use Rattle.std.proofs.lemmas.List.Elements.{All-nil, All-push, filter_map-append}
use Rattle.rams_model.specs.declared.{Channel.Channel, LineFault.LineFault, LineKind.LineKind, Mode.TheVariants.Run, Mode.TheVariants.Serve}
use Rattle.rams_model.specs.declared.LineKind.TheVariants as kind
use Rattle.rams_model.specs.Texts.{TraceLine, head_line, channel_line, live_line, feedback_line, tick_line, end_line, tune_line, give_line, mcast_line, ask_line, drop_line, Claim, Reached, has_channel, is_spelled, judged, kind_may_come, line_at, line_in_range, line_of, line_text, may_come, ranged}
use Rattle.line_io.specs.{HasNoFeed}
use Rattle.server_hub.specs.declared.HubEvent.{HubEvent}
use Rattle.server_hub.specs.{after_event}
use Rattle.server_hub.specs.Served.{Served}
use Rattle.trace_loop.specs.trace_book.trace_serving.{Stage, Turn, goes_on, ends, too_long, opening, turn, after_judging, after_line, counted, with_opened, brought, event_at, stage_after, stage_from, taken_from, taken_with}
use Rattle.trace_loop.proofs.trace_book.trace_serving.Judged.{IsAccepted, channel_so, judged_so}
use Rattle.trace_loop.specs.trace_book.{run, most_events, event_text}
use Rattle.trace_text.proofs.Spelling.{is_text, read_is_spelled}
use Rattle.trace_loop.specs.journal_book.{HasLine, JournalsGrow, Leads, nothing, behind, event_line, event_lines, stage_behind, starting}
use Rattle.trace_loop.proofs.journal_book.Heads.{heads_grow}
use Rattle.trace_loop.proofs.trace_book.trace_serving.Steps.{went_to}
use Rattle.takeover.proofs.standby.Followed.{AreClean}
use Rattle.takeover.proofs.standby.Turning.{begun_by, event_kind, never_receiver}
use Rattle.takeover.proofs.standby.standby_book.EventLines.{event_is}
use Rattle.takeover.proofs.standby.standby_book.HeadLines.{before_events, head_judged, channel_judged}

abbrev pub fed : List ℕ → List ℕ
fed line = line ++ codes "\n"

-- The lines that led to this stage are a head and the lines of events.
pub record AsJournal (lines : List (List ℕ)) (stage : Stage (List Served)) : Type 0 where
  pub head : List ℕ
  pub opened : Stage (List Served)
  pub events : List HubEvent
  pub leads : Leads head opened
  pub reached : opened.reached ≡ before_events Serve stage.reached
  pub text : flat_map fed lines ≡ head ++ event_lines events
  pub state : stage.state ≡ behind events opened.state
  pub spelled : All HasLine events
  pub brings : filter_map (event_at run) lines ≡ events
  pub count : stage.events ≡ length events
  pub mode : stage.reached.mode ≡ Run
  pub unended : stage.reached.ended ≡ false
  -- no event came before an event line
  pub fresh : stage.reached.begun ≡ false → events ≡ []
  -- and nothing before the head line
  pub headless : is_some stage.reached.head ≡ false → (stage.reached.channels ≡ []) × (stage.reached.begun ≡ false)

pub journal_begins : AsJournal [] (opening run)
unfolding behind
journal_begins = record {
  head = [];
  opened = starting Serve;
  events = [];
  leads = nothing;
  reached = refl;
  text = refl;
  state = refl;
  spelled = All-nil HasLine;
  brings = refl;
  count = refl;
  mode = refl;
  unended = refl;
  fresh = λ e. refl;
  headless = λ e. (refl, refl);
}

-- the text of one line more
text_more : (lines : List (List ℕ)) (bytes : List ℕ) → flat_map fed (lines ++ bytes ∷ []) ≡ flat_map fed lines ++ fed bytes
text_more lines bytes = flat_map-append fed lines (bytes ∷ []) ∙ ap (λ (t : List ℕ). flat_map fed lines ++ t) (append-nil (fed bytes))

-- the events of one line more
brings_more : (lines : List (List ℕ)) (bytes : List ℕ) → filter_map (event_at run) (lines ++ bytes ∷ []) ≡ filter_map (event_at run) lines ++ filter_map (event_at run) (bytes ∷ [])
brings_more lines bytes = filter_map-append (event_at run) lines (bytes ∷ [])

brings_none : (lines : List (List ℕ)) (bytes : List ℕ) (line : TraceLine) → line_of bytes ≡ Some line → brought run line ≡ None → filter_map (event_at run) (lines ++ bytes ∷ []) ≡ filter_map (event_at run) lines
brings_none lines bytes line reads none = brings_more lines bytes ∙ rw (reads, none) (append-nil (filter_map (event_at run) lines))

brings_one : (lines : List (List ℕ)) (bytes : List ℕ) (line : TraceLine) (e : HubEvent) → line_of bytes ≡ Some line → brought run line ≡ Some e → filter_map (event_at run) (lines ++ bytes ∷ []) ≡ filter_map (event_at run) lines ++ e ∷ []
brings_one lines bytes line e reads one = brings_more lines bytes ∙ rw (reads, one) refl

-- bytes that are read as a line in range are its text
text_is : (bytes : List ℕ) (line : TraceLine) → line_of bytes ≡ Some line → line_in_range line ≡ true → (is_spelled line ≡ true) × (line_text line ≡ bytes)
unfolding line_at
text_is bytes line reads in_range = read_is_spelled bytes line (ap ranged reads ∙ rw in_range refl)

-- an event comes behind a channel line
channel_there : (r : Reached) (line : TraceLine) (e : HubEvent) → brought run line ≡ Some e → may_come r line ≡ true → has_channel r ≡ true
channel_there r line e brings may =
    let event : kind_may_come r kind.Event ≡ true = subst (λ (k : LineKind). kind_may_come r k ≡ true) (event_kind line e brings) (and_parts _ _ may).0 in
    (and_parts _ _ (and_parts _ _ event).1).0

-- a channel line comes behind the head line, before any event
record ComesFirst (r : Reached) : Type 0 where
  headed : is_some r.head ≡ true
  fresh : r.begun ≡ false

comes_first : (r : Reached) (version : ℕ) (c : Channel) → may_come r (channel_line version c) ≡ true → ComesFirst r
comes_first r version c may =
    let next = and_parts _ _ (and_parts _ _ (and_parts _ _ may).0).1 in
    let both = and_parts _ _ next.0 in
    record { headed = both.0; fresh = not_true r.begun both.1 }
  where
    not_true : (b : Bool) → not b ≡ true → b ≡ false
    not_true true h = absurd cc
    not_true false h = refl

module _ (grow : JournalsGrow) (lines : List (List ℕ)) (stage : Stage (List Served)) (a : AsJournal lines stage) (bytes : List ℕ) (clean : HasNoFeed bytes) where
  -- a line that opens something, before any event
  opens : (line : TraceLine) (later_head later_reached : Reached) (cs : List Served) → line_of bytes ≡ Some line → line_in_range line ≡ true → brought run line ≡ None → stage.reached.begun ≡ false
      → judged (before_events Serve stage.reached) bytes ≡ Ok (line, before_events Serve later_reached) → (line ≡ end_line → ⊥) → cs ≡ with_opened run (before_events Serve later_reached) line stage.state
      → later_reached.mode ≡ Run → later_reached.ended ≡ false → is_some later_reached.head ≡ true
      → AsJournal (lines ++ bytes ∷ []) (record { reached = later_reached; state = cs; events = stage.events })
  unfolding behind
  opens line later_head later cs reads in_range silent fresh j other state_is mode unended headed =
      let none = a.fresh fresh in
      let judged_there = subst (λ (r : Reached). judged r bytes ≡ Ok (line, before_events Serve later)) (sym a.reached) j in
      let grown = heads_grow a.head bytes a.opened line (before_events Serve later) a.leads clean judged_there other in
      let same : a.opened.state ≡ stage.state = sym (a.state ∙ ap (λ (es : List HubEvent). behind es a.opened.state) none) in
      record {
        head = a.head ++ (line_text line ++ codes "\n");
        opened = stage_behind a.opened line (before_events Serve later);
        events = [];
        leads = grown;
        reached = refl;
        text =
            text_more lines bytes ∙ ap (λ (t : List ℕ). t ++ fed bytes) (a.text ∙ ap (λ (es : List HubEvent). a.head ++ event_lines es) none ∙ append-nil a.head)
            ∙ ap (λ (t : List ℕ). a.head ++ fed t) (sym (text_is bytes line reads in_range).1) ∙ sym (append-nil (a.head ++ (line_text line ++ codes "\n")));
        state = state_is ∙ ap (with_opened run (before_events Serve later) line) (sym same);
        spelled = All-nil HasLine;
        brings = brings_none lines bytes line reads silent ∙ a.brings ∙ none;
        count = a.count ∙ ap length none;
        mode = mode;
        unended = unended;
        fresh = λ e. refl;
        headless = λ e. absurd cc;
      }

  -- a line that brings an event
  events_on : (line : TraceLine) (e : HubEvent) (later : Reached) → line_of bytes ≡ Some line → IsAccepted stage.reached line later → brought run line ≡ Some e
      → AsJournal (lines ++ bytes ∷ []) (record { reached = later; state = after_event e stage.state; events = stage.events + 1 })
  unfolding event_line
  events_on line e later reads is brings =
      let g = grow e 0 a.opened.state a.events in
      let spelled = text_is bytes line reads is.in_range in
      let line_is = event_is line e (is_text bytes line reads).has_form brings in
      let begins : Ok (record stage.reached { begun = true }) ≡ Ok later = sym (begun_by stage.reached line e brings) ∙ is.gives in
      let later_is : record stage.reached { begun = true } ≡ later = cc in
      let has = channel_there stage.reached line e brings is.may in
      record {
        head = a.head;
        opened = a.opened;
        events = a.events ++ e ∷ [];
        leads = a.leads;
        reached = a.reached ∙ ap (before_events Serve) later_is;
        text =
            text_more lines bytes ∙ ap (λ (t : List ℕ). t ++ fed bytes) a.text ∙ append_assoc a.head (event_lines a.events) (fed bytes)
            ∙ ap (λ (t : List ℕ). a.head ++ (event_lines a.events ++ fed t)) (sym (ap line_text line_is ∙ spelled.1)) ∙ ap (λ (t : List ℕ). a.head ++ t) (sym g.lines);
        state = ap (after_event e) a.state ∙ sym g.channels_are;
        spelled = All-push HasLine a.events e a.spelled (subst (λ (l : TraceLine). is_spelled l ≡ true) (sym line_is) spelled.0);
        brings = brings_one lines bytes line e reads brings ∙ ap (λ (es : List HubEvent). es ++ e ∷ []) a.brings;
        count = ap (λ n. n + 1) a.count ∙ sym (length-append a.events (e ∷ []));
        mode = ap (λ (r : Reached). r.mode) (sym later_is) ∙ a.mode;
        unended = ap (λ (r : Reached). r.ended) (sym later_is) ∙ a.unended;
        fresh = λ not. absurd (begun_not (ap (λ (r : Reached). r.begun) later_is ∙ not));
        headless = λ no. absurd (channels_not (a.headless (ap (λ (r : Reached). is_some r.head) later_is ∙ no)).0 has);
      }
    where
      begun_not : true ≡ false → ⊥
      begun_not e = cc

      channels_not : stage.reached.channels ≡ [] → has_channel stage.reached ≡ true → ⊥
      channels_not none has = let no : has_channel stage.reached ≡ false = ap (λ (l : List Claim). ltb 0 (length l)) none in cc

  -- the head line
  head_on : (version tick link : ℕ) (later : Reached) → line_of bytes ≡ Some (head_line version tick link) → IsAccepted stage.reached (head_line version tick link) later
      → AsJournal (lines ++ bytes ∷ []) (record { reached = later; state = stage.state; events = stage.events })
  head_on version tick link later reads is =
      let there = record stage.reached { head = Some (record { version = version; tick = tick; link = link }) } in
      let both : Ok there ≡ Ok later = is.gives in
      let later_is : there ≡ later = cc in
      let fresh = (a.headless headless_before).1 in
      let j = head_judged stage.reached a.mode fresh a.unended bytes version tick link reads is.may is.in_range in
      opens (head_line version tick link) later later stage.state reads is.in_range refl fresh
      (subst (λ (r : Reached). judged (before_events Serve stage.reached) bytes ≡ Ok (head_line version tick link, before_events Serve r)) later_is j) (λ e. never e) refl
      (ap (λ (r : Reached). r.mode) (sym later_is) ∙ a.mode) (ap (λ (r : Reached). r.ended) (sym later_is) ∙ a.unended) (ap (λ (r : Reached). is_some r.head) (sym later_is))
    where
      never : head_line version tick link ≡ end_line → ⊥
      never e = cc

      none_of : (ended some : Bool) → (not ended && not some) ≡ true → some ≡ false
      none_of true some h = absurd cc
      none_of false true h = absurd cc
      none_of false false h = refl

      headless_before : is_some stage.reached.head ≡ false
      headless_before = none_of stage.reached.ended (is_some stage.reached.head) (and_parts _ _ is.may).0

  -- a channel's line
  channel_on : (version : ℕ) (c : Channel) (later : Reached) → line_of bytes ≡ Some (channel_line version c) → IsAccepted stage.reached (channel_line version c) later
      → AsJournal (lines ++ bytes ∷ []) (record { reached = later; state = with_opened run later (channel_line version c) stage.state; events = stage.events })
  channel_on version c later reads is =
      let first = comes_first stage.reached version c is.may in
      let fresh = first.fresh in
      let so = channel_so stage.reached stage.reached.head c later is.gives in
      let later_head = ap (λ (r : Reached). r.head) (sym so.2.gives) in
      opens (channel_line version c) later later (with_opened run later (channel_line version c) stage.state) reads is.in_range refl fresh
      (channel_judged stage.reached a.mode fresh a.unended bytes version c later reads is.may is.in_range is.gives) (λ e. never e) refl
      (ap (λ (r : Reached). r.mode) (sym so.2.gives) ∙ a.mode) (ap (λ (r : Reached). r.ended) (sym so.2.gives) ∙ a.unended) (ap is_some later_head ∙ first.headed)
    where
      never : channel_line version c ≡ end_line → ⊥
      never e = cc

  -- what a line brings that went on
  counts_on : (line : TraceLine) (e : HubEvent) (reached : Reached) (later : Stage (List Served)) (text : List ℕ) → line_of bytes ≡ Some line → IsAccepted stage.reached line reached → brought run line ≡ Some e
      → counted run stage reached e ≡ goes_on later text → AsJournal (lines ++ bytes ∷ []) later
  counts_on line e reached later text reads is brings goes =
      cond_both (ltb stage.events most_events) (goes_on (record { reached = reached; state = after_event e stage.state; events = stage.events + 1 }) (event_text (stage.events + 1) e stage.state)) (ends too_long)
      (λ (t : Turn (List Served)). t ≡ goes_on later text → AsJournal (lines ++ bytes ∷ []) later)
      (λ few q. subst (AsJournal (lines ++ bytes ∷ [])) (went_to stage later _ text _ q) (events_on line e reached reads is brings))
      (λ many q. absurd cc) goes

  line_on : (line : TraceLine) (reached : Reached) (later : Stage (List Served)) (text : List ℕ) → line_of bytes ≡ Some line → IsAccepted stage.reached line reached → after_line run stage reached line (brought run line) ≡ goes_on later text
      → AsJournal (lines ++ bytes ∷ []) later
  line_on (head_line version tick link) reached later text reads is goes = subst (AsJournal (lines ++ bytes ∷ [])) (went_to stage later _ text _ goes) (head_on version tick link reached reads is)
  line_on (channel_line version c) reached later text reads is goes = subst (AsJournal (lines ++ bytes ∷ [])) (went_to stage later _ text _ goes) (channel_on version c reached reads is)
  line_on (live_line id hex) reached later text reads is goes = counts_on (live_line id hex) _ reached later text reads is refl goes
  line_on (feedback_line id client hex) reached later text reads is goes = counts_on (feedback_line id client hex) _ reached later text reads is refl goes
  line_on tick_line reached later text reads is goes = counts_on tick_line _ reached later text reads is refl goes
  line_on end_line reached later text reads is goes = absurd cc
  line_on (tune_line id client ssrc) reached later text reads is goes = absurd (never_receiver stage.reached (tune_line id client ssrc) a.mode refl is.may)
  line_on (give_line number) reached later text reads is goes = absurd (never_receiver stage.reached (give_line number) a.mode refl is.may)
  line_on (mcast_line id client n) reached later text reads is goes = absurd (never_receiver stage.reached (mcast_line id client n) a.mode refl is.may)
  line_on (ask_line id client) reached later text reads is goes = absurd (never_receiver stage.reached (ask_line id client) a.mode refl is.may)
  line_on (drop_line id client) reached later text reads is goes = absurd (never_receiver stage.reached (drop_line id client) a.mode refl is.may)

  pub journal_goes_on : (number : ℕ) (later : Stage (List Served)) (text : List ℕ) → turn run stage number bytes ≡ goes_on later text → AsJournal (lines ++ bytes ∷ []) later
  unfolding turn
  journal_goes_on number later text goes = by (judged stage.reached bytes) refl goes
    where
      by : (o : Result (TraceLine × Reached) LineFault) → judged stage.reached bytes ≡ o → after_judging run stage number o ≡ goes_on later text → AsJournal (lines ++ bytes ∷ []) later
      by (Err fault) j goes = absurd cc
      by (Ok read) j goes = let is = judged_so stage.reached bytes read.0 read.1 j in line_on read.0 read.1 later text is.reads is.accepts goes

-- as far as lines go on
pub journal_follows : JournalsGrow → (rest lines : List (List ℕ)) (stage : Stage (List Served)) (number : ℕ) → AreClean rest → AsJournal lines stage
    → AsJournal (lines ++ taken_from run stage number rest) (stage_from run stage number rest)
unfolding taken_from stage_from
journal_follows grow [] lines stage number clean a = subst (λ (ls : List (List ℕ)). AsJournal ls stage) (sym (append-nil lines)) a
journal_follows grow (bytes ∷ rest) lines stage number clean a =
    by (turn run stage number bytes) refl (λ later text goes. journal_follows grow rest (lines ++ bytes ∷ []) later (number + 1) clean.1 (journal_goes_on grow lines stage a bytes clean.0 number later text goes))
  where
    by : (was : Turn (List Served)) → turn run stage number bytes ≡ was
        → ((later : Stage (List Served)) (text : List ℕ) → turn run stage number bytes ≡ goes_on later text → AsJournal ((lines ++ bytes ∷ []) ++ taken_from run later (number + 1) rest) (stage_from run later (number + 1) rest))
        → AsJournal (lines ++ taken_with bytes was (λ later. taken_from run later (number + 1) rest)) (stage_after stage was (λ later. stage_from run later (number + 1) rest))
    by (goes_on later text) is more =
        subst (λ (ls : List (List ℕ)). AsJournal ls (stage_from run later (number + 1) rest)) (append_assoc lines (bytes ∷ []) (taken_from run later (number + 1) rest)) (more later text is)
    by (ends o) is more = subst (λ (ls : List (List ℕ)). AsJournal ls stage) (sym (append-nil lines)) a
