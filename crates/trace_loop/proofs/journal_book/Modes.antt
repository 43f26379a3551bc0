-- A line that a server takes into its head, `run` takes alike.
use Rattle.std.proofs.Common.{◌≡◌, ℕ, ◌+◌, Bool, true, false, not, ◌&&◌, cond, List, [], length, nat_le, nat_lt, Option, Some, None, Result, Ok, Err, refl, sym, ap, subst, ◌∙◌}
use Rattle.std.specs.Prelude.{sum_by, ◌==◌}
use Rattle.std.specs.List.{list_any}
use Rattle.std.proofs.lemmas.Bool.{and_parts}
use Rattle.rams_model.specs.declared.{Channel.Channel, ConfigFault.ConfigFault, LineFault.LineFault, Mode.Mode}
use Rattle.rams_model.specs.declared.Mode.TheVariants.{Run, Serve}
use Rattle.rams_model.specs.Service.{Settings, settings, checked}
use Rattle.rams_model.specs.Texts.{TraceLine, head_line, channel_line, live_line, feedback_line, tick_line, end_line, tune_line, give_line, mcast_line, ask_line, drop_line, line_in_range, line_of, Head, Reached, has_channel, may_come, line_is_served, joined, with_channel, with_line, accepted, with_reached, judged_line, judged}
use Rattle.server_hub.specs.Served.{Served}
use Rattle.trace_loop.specs.trace_book.trace_serving.{Stage, Turn, goes_on, ends, turn, with_opened, eventless, after_line, after_judging, brought}
use Rattle.trace_loop.specs.trace_book.{run}
use Rattle.trace_loop.proofs.trace_book.trace_serving.Judged.{judged_so}

-- how far the trace has come, where it is read for this
abbrev pub read_for : Mode → Reached → Reached
read_for mode r = record r { mode = mode }

-- the same stage of a run
abbrev pub stage_of_run : Stage (List Served) → Stage (List Served)
stage_of_run stage = record stage { reached = read_for Run stage.reached }

both_false : (b : Bool) → (b && false) ≡ true → ⊥
both_false true e = absurd cc
both_false false e = absurd cc

-- no event may come in a head
pub refused_event : (a b : Bool) → ((a && (b && false)) && true) ≡ true → ⊥
refused_event a b h =
    let outer = and_parts (a && (b && false)) true h in
    let inner = and_parts a (b && false) outer.0 in both_false b inner.1

-- what may come in a head may come in a trace for `run`
may_in_run : (r : Reached) (line : TraceLine) → may_come (read_for Serve r) line ≡ true → may_come (read_for Run r) line ≡ true
may_in_run r (head_line version tick link) h = h
may_in_run r (channel_line version c) h = h
may_in_run r (live_line id hex) h = absurd (refused_event (not r.ended) (has_channel r) h)
may_in_run r (feedback_line id client hex) h = absurd (refused_event (not r.ended) (has_channel r) h)
may_in_run r tick_line h = absurd (refused_event (not r.ended) (has_channel r) h)
may_in_run r end_line h = h
may_in_run r (tune_line id client ssrc) h = h
may_in_run r (give_line number) h = h
may_in_run r (mcast_line id client n) h = h
may_in_run r (ask_line id client) h = h
may_in_run r (drop_line id client) h = h

-- and brings no event
brings_none : (r : Reached) (line : TraceLine) → may_come (read_for Serve r) line ≡ true → brought run line ≡ None
brings_none r (head_line version tick link) h = refl
brings_none r (channel_line version c) h = refl
brings_none r (live_line id hex) h = absurd (refused_event (not r.ended) (has_channel r) h)
brings_none r (feedback_line id client hex) h = absurd (refused_event (not r.ended) (has_channel r) h)
brings_none r tick_line h = absurd (refused_event (not r.ended) (has_channel r) h)
brings_none r end_line h = refl
brings_none r (tune_line id client ssrc) h = refl
brings_none r (give_line number) h = refl
brings_none r (mcast_line id client n) h = refl
brings_none r (ask_line id client) h = refl
brings_none r (drop_line id client) h = refl

pub served_in_run : (r : Reached) (line : TraceLine) → line_is_served (read_for Run r) line ≡ true
served_in_run r (head_line version tick link) = refl
served_in_run r (channel_line version c) = refl
served_in_run r (live_line id hex) = refl
served_in_run r (feedback_line id client hex) = refl
served_in_run r tick_line = refl
served_in_run r end_line = refl
served_in_run r (tune_line id client ssrc) = refl
served_in_run r (give_line number) = refl
served_in_run r (mcast_line id client n) = refl
served_in_run r (ask_line id client) = refl
served_in_run r (drop_line id client) = refl

-- the same, read for this
abbrev outcome_for : Mode → Result Reached LineFault → Result Reached LineFault
outcome_for mode (Ok r) = Ok (read_for mode r)
outcome_for mode (Err fault) = Err fault

either : (mode : Mode) (b : Bool) (x y u v : Result Reached LineFault) → u ≡ outcome_for mode x → v ≡ outcome_for mode y → cond b u v ≡ outcome_for mode (cond b x y)
either mode true x y u v e f = e
either mode false x y u v e f = f

joined_for : (mode : Mode) (r : Reached) (head : Head) (c : Channel) (s : Result Settings ConfigFault) → joined (read_for mode r) head c s ≡ outcome_for mode (joined r head c s)
joined_for mode r head c (Err fault) = refl
joined_for mode r head c (Ok s) =
    let fits = nat_le (sum_by (λ k. k.share) r.channels + c.share) head.link in
    let few = nat_lt (length r.channels) 64 in
    either mode (not fits) _ _ _ _ refl (either mode (not few) _ _ _ _ refl refl)

channel_for : (mode : Mode) (r : Reached) (head : Option Head) (c : Channel) → with_channel (read_for mode r) head c ≡ outcome_for mode (with_channel r head c)
channel_for mode r None c = refl
channel_for mode r (Some head) c = either mode (list_any (λ k. k.id == c.id) r.channels) _ _ _ _ refl (joined_for mode r head c (checked (settings c head.tick)))

-- a line's effect doesn't depend on what the trace is read for
line_for : (mode : Mode) (r : Reached) (line : TraceLine) → with_line (read_for mode r) line ≡ outcome_for mode (with_line r line)
line_for mode r (head_line version tick link) = refl
line_for mode r (channel_line version c) = channel_for mode r r.head c
line_for mode r (live_line id hex) = refl
line_for mode r (feedback_line id client hex) = refl
line_for mode r tick_line = refl
line_for mode r end_line = refl
line_for mode r (tune_line id client ssrc) = refl
line_for mode r (give_line number) = refl
line_for mode r (mcast_line id client n) = refl
line_for mode r (ask_line id client) = refl
line_for mode r (drop_line id client) = refl

-- the parts of what is accepted make it so
pub accepts : (r : Reached) (line : TraceLine) (later : Reached) → may_come r line ≡ true → line_in_range line ≡ true → line_is_served r line ≡ true → with_line r line ≡ Ok later → accepted r line ≡ Ok later
unfolding accepted
accepts r line later may in_range served gives = rw (may, in_range, served) gives

-- so bytes are judged
pub judges : (r : Reached) (bytes : List ℕ) (line : TraceLine) (later : Reached) → line_of bytes ≡ Some line → accepted r line ≡ Ok later → judged r bytes ≡ Ok (line, later)
unfolding judged
judges r bytes line later reads is = ap (judged_line r) reads ∙ ap (with_reached line) is

-- A line that a server takes: how `run` judges it.
pub record IsHeadLine (r : Reached) (bytes : List ℕ) (line : TraceLine) (later : Reached) : Type 0 where
  pub mode : later.mode ≡ Serve
  pub runs : judged (read_for Run r) bytes ≡ Ok (line, read_for Run later)
  pub silent : brought run line ≡ None

pub head_line_is : (r : Reached) (bytes : List ℕ) (line : TraceLine) (later : Reached) → r.mode ≡ Serve → judged r bytes ≡ Ok (line, later) → IsHeadLine r bytes line later
head_line_is r bytes line later serves j =
    let is = judged_so r bytes line later j in
    let may : may_come (read_for Serve r) line ≡ true = subst (λ (m : Mode). may_come (read_for m r) line ≡ true) serves is.accepts.may in
    let kept : Ok later ≡ outcome_for r.mode (Ok later) = sym is.accepts.gives ∙ (line_for r.mode r line ∙ ap (outcome_for r.mode) is.accepts.gives) in
    let same : later ≡ read_for r.mode later = cc in
    let gives : with_line (read_for Run r) line ≡ Ok (read_for Run later) = line_for Run r line ∙ ap (outcome_for Run) is.accepts.gives in
    record {
      mode = ap (λ (l : Reached). l.mode) same ∙ serves;
      runs = judges (read_for Run r) bytes line (read_for Run later) is.reads (accepts (read_for Run r) line (read_for Run later) (may_in_run r line may) is.accepts.in_range (served_in_run r line) gives);
      silent = brings_none r line may;
    }

-- A turn of a server's head: it answers nothing, counts nothing, and goes alike in a run, whatever the number of its line.
pub record IsHeadTurn (stage later : Stage (List Served)) (bytes : List ℕ) : Type 0 where
  pub mode : later.reached.mode ≡ Serve
  pub events : later.events ≡ stage.events
  pub line : TraceLine
  pub reached : Reached
  pub judges_so : judged (read_for Run stage.reached) bytes ≡ Ok (line, reached)
  pub silent : brought run line ≡ None
  pub runs : (number : ℕ) → turn run (stage_of_run stage) number bytes ≡ goes_on (stage_of_run later) []

-- a line without an event goes on, and is no `end`
abbrev IsOn : Stage (List Served) → Reached → Stage (List Served) → List ℕ → TraceLine → Type 0
IsOn stage reached later text line =
    (later ≡ record { reached = reached; state = with_opened run reached line stage.state; events = stage.events })
    × ((s : Stage (List Served)) (r : Reached) → eventless run s r line ≡ goes_on (record { reached = r; state = with_opened run r line s.state; events = s.events }) [])

-- what went on went on to this
went_to : (stage later next : Stage (List Served)) (text more : List ℕ) → goes_on next more ≡ goes_on later text → later ≡ next
went_to stage later next text more e = ap (λ (t : Turn (List Served)). stage_in t) (sym e)
  where
    stage_in : Turn (List Served) → Stage (List Served)
    stage_in (goes_on s t) = s
    stage_in (ends o) = stage

is_on : (stage : Stage (List Served)) (reached : Reached) (later : Stage (List Served)) (text : List ℕ) (line : TraceLine) → eventless run stage reached line ≡ goes_on later text → IsOn stage reached later text line
is_on stage reached later text (head_line version tick link) e = (went_to stage later _ text [] e, λ s r. refl)
is_on stage reached later text (channel_line version c) e = (went_to stage later _ text [] e, λ s r. refl)
is_on stage reached later text (live_line id hex) e = (went_to stage later _ text [] e, λ s r. refl)
is_on stage reached later text (feedback_line id client hex) e = (went_to stage later _ text [] e, λ s r. refl)
is_on stage reached later text tick_line e = (went_to stage later _ text [] e, λ s r. refl)
is_on stage reached later text end_line e = absurd cc
is_on stage reached later text (tune_line id client ssrc) e = (went_to stage later _ text [] e, λ s r. refl)
is_on stage reached later text (give_line number) e = (went_to stage later _ text [] e, λ s r. refl)
is_on stage reached later text (mcast_line id client n) e = (went_to stage later _ text [] e, λ s r. refl)
is_on stage reached later text (ask_line id client) e = (went_to stage later _ text [] e, λ s r. refl)
is_on stage reached later text (drop_line id client) e = (went_to stage later _ text [] e, λ s r. refl)

opened_alike : (mode : Mode) (r : Reached) (line : TraceLine) (channels : List Served) → with_opened run (read_for mode r) line channels ≡ with_opened run r line channels
opened_alike mode r (head_line version tick link) channels = refl
opened_alike mode r (channel_line version c) channels = refl
opened_alike mode r (live_line id hex) channels = refl
opened_alike mode r (feedback_line id client hex) channels = refl
opened_alike mode r tick_line channels = refl
opened_alike mode r end_line channels = refl
opened_alike mode r (tune_line id client ssrc) channels = refl
opened_alike mode r (give_line number) channels = refl
opened_alike mode r (mcast_line id client n) channels = refl
opened_alike mode r (ask_line id client) channels = refl
opened_alike mode r (drop_line id client) channels = refl

by_head_line : (stage later : Stage (List Served)) (bytes text : List ℕ) (line : TraceLine) (reached : Reached) → IsHeadLine stage.reached bytes line reached → eventless run stage reached line ≡ goes_on later text → IsHeadTurn stage later bytes
unfolding turn
by_head_line stage later bytes text line reached is e =
    let on = is_on stage reached later text line e in
    let runs : (number : ℕ) → turn run (stage_of_run stage) number bytes ≡ goes_on (stage_of_run (record { reached = reached; state = with_opened run reached line stage.state; events = stage.events })) [] =
    λ number. ap (after_judging run (stage_of_run stage) number) is.runs ∙ (ap (after_line run (stage_of_run stage) (read_for Run reached) line) is.silent
    ∙ (on.1 (stage_of_run stage) (read_for Run reached)
    ∙ ap (λ (cs : List Served). goes_on (record { reached = read_for Run reached; state = cs; events = stage.events }) []) (opened_alike Run reached line stage.state))) in
    record {
      mode = ap (λ (s : Stage (List Served)). s.reached.mode) on.0 ∙ is.mode;
      events = ap (λ (s : Stage (List Served)). s.events) on.0;
      line = line;
      reached = read_for Run reached;
      judges_so = is.runs;
      silent = is.silent;
      runs = λ number. runs number ∙ ap (λ (s : Stage (List Served)). goes_on (stage_of_run s) []) (sym on.0);
    }

by_judging : (stage later : Stage (List Served)) (number : ℕ) (bytes text : List ℕ) (o : Result (TraceLine × Reached) LineFault) → stage.reached.mode ≡ Serve → judged stage.reached bytes ≡ o
    → after_judging run stage number o ≡ goes_on later text → IsHeadTurn stage later bytes
by_judging stage later number bytes text (Err fault) serves j e = absurd cc
by_judging stage later number bytes text (Ok read) serves j e =
    let is = head_line_is stage.reached bytes read.0 read.1 serves j in
    by_head_line stage later bytes text read.0 read.1 is (sym (ap (after_line run stage read.1 read.0) is.silent) ∙ e)

pub head_turn : (stage later : Stage (List Served)) (number : ℕ) (bytes text : List ℕ) → stage.reached.mode ≡ Serve → turn run stage number bytes ≡ goes_on later text → IsHeadTurn stage later bytes
unfolding turn
head_turn stage later number bytes text serves e = by_judging stage later number bytes text (judged stage.reached bytes) serves refl e
