-- The turns of lines, as a standby takes them.
use Rattle.std.proofs.Common.{◌≡◌, ℕ, ◌+◌, ◌<◌, ◌≤◌, true, false, List, Option, None, Some, Result, Ok, Err, refl, sym, subst, ap, ◌∙◌, arith}
use Rattle.std.specs.Prelude.{is_ok}
use Rattle.std.proofs.lemmas.Bool.{and_parts, lt-ltb, le-ltb}
use Rattle.rams_model.specs.declared.{LineFault.LineFault, LineKind.LineKind, Mode.Mode, Mode.TheVariants.Run}
use Rattle.rams_model.specs.declared.LineKind.TheVariants as kind
use Rattle.rams_model.specs.Texts.{TraceLine, head_line, channel_line, live_line, feedback_line, tick_line, end_line, tune_line, give_line, mcast_line, ask_line, drop_line, Head, Reached, accepted, has_receivers, judged, judged_line, kind_of, kind_may_come, line_of, line_in_range, line_is_served, may_come, with_line, with_reached}
use Rattle.server_hub.specs.declared.HubEvent.{HubEvent}
use Rattle.server_hub.specs.{StandsFor, after_event, ids_of}
use Rattle.server_hub.specs.Seen as hubs
use Rattle.server_hub.specs.Served.{Served}
use Rattle.trace_loop.specs.trace_book.trace_serving.{Stage, ends, too_long, done, after_judging, after_line, counted, turn, brought}
use Rattle.trace_loop.proofs.trace_book.trace_serving.Judged.{accepted_so, judged_so}
use Rattle.trace_loop.specs.trace_book.{run, event_text}
use Rattle.trace_loop.specs.head_loop.{numbers}
use Rattle.trace_loop.proofs.head_loop.Claims.{claims_kept}
use Rattle.trace_loop.proofs.trace_book.Served.{settings_after}
use Rattle.takeover.specs.declared.standby.fault.Step.TheVariants.{GoesOn}
use Rattle.takeover.specs.standby.{HubServes, Stands, Took, turn_of}
use Rattle.trace_text.specs.{told}
use Rattle.trace_text.specs.declared.Judged.{Judged}

-- where a line that is accepted leads
pub later_of : (r : Reached) (line : TraceLine) → is_ok (accepted r line) ≡ true → (later : Reached) × (accepted r line ≡ Ok later)
later_of r line h = by (accepted r line) refl h
  where
    by : (x : Result Reached LineFault) → accepted r line ≡ x → is_ok x ≡ true → (later : Reached) × (accepted r line ≡ Ok later)
    by (Ok later) is h = (later, is)
    by (Err fault) is h = absurd cc

-- what was judged is accepted as that which it is, and goes on to the same
pub accepted_as : (r : Reached) (j k : Judged) → j ≡ k → is_ok (accepted r (told j)) ≡ true → is_ok (accepted r (told k)) ≡ true
accepted_as r j k is = subst (λ (x : Judged). is_ok (accepted r (told x)) ≡ true) is

pub goes_as : (r later : Reached) (j k : Judged) → j ≡ k → accepted r (told j) ≡ Ok later → accepted r (told k) ≡ Ok later
goes_as r later j k is = subst (λ (x : Judged). accepted r (told x) ≡ Ok later) is

-- it may come, and its numbers are in range
pub may_be : (r : Reached) (line : TraceLine) → is_ok (accepted r line) ≡ true → (may_come r line ≡ true) × (line_in_range line ≡ true)
may_be r line h =
    let l = later_of r line h in
    let is = accepted_so r line l.0 l.1 in
    (is.may, is.in_range)

-- the turn of a line that is read
pub read_turn : (stage : Stage (List Served)) (number : ℕ) (bytes : List ℕ) (line : TraceLine) → line_of bytes ≡ Some line → turn run stage number bytes ≡ turn_of stage number line
unfolding turn judged
read_turn stage number bytes line h = ap (λ (o : Option TraceLine). after_judging run stage number (judged_line stage.reached o)) h

-- the turn of a line that is judged well
pub judged_turn : (stage : Stage (List Served)) (number : ℕ) (bytes : List ℕ) (line : TraceLine) (later : Reached) → judged stage.reached bytes ≡ Ok (line, later) → turn run stage number bytes ≡ turn_of stage number line
judged_turn stage number bytes line later h = read_turn stage number bytes line (judged_so stage.reached bytes line later h).reads

-- a line that may come, with its numbers in range, does what it says
served_in_run : (r : Reached) (line : TraceLine) → r.mode ≡ Run → line_is_served r line ≡ true
served_in_run r (head_line version tick link) is = refl
served_in_run r (channel_line version c) is = refl
served_in_run r (live_line id hex) is = rw is refl
served_in_run r (feedback_line id client hex) is = rw is refl
served_in_run r tick_line is = refl
served_in_run r end_line is = refl
served_in_run r (tune_line id client ssrc) is = refl
served_in_run r (give_line number) is = refl
served_in_run r (mcast_line id client n) is = refl
served_in_run r (ask_line id client) is = refl
served_in_run r (drop_line id client) is = refl

pub accepts : (r : Reached) (line : TraceLine) → r.mode ≡ Run → may_come r line ≡ true → line_in_range line ≡ true → accepted r line ≡ with_line r line
unfolding accepted
accepts r line is may in_range = rw (may, in_range, served_in_run r line is) refl

-- `end`, where it may come
pub end_turn : (stage : Stage (List Served)) (number : ℕ) → stage.reached.mode ≡ Run → may_come stage.reached end_line ≡ true → turn_of stage number end_line ≡ ends (done stage.events)
end_turn stage number is may = ap (λ (o : Result Reached LineFault). after_judging run stage number (with_reached end_line o)) (accepts stage.reached end_line is may refl)

-- a receiver's line never may come
pub never_receiver : (r : Reached) (line : TraceLine) → r.mode ≡ Run → kind_of line ≡ kind.ReceiverEvent → may_come r line ≡ true → ⊥
never_receiver r line is of may =
    let kinds : kind_may_come r kind.ReceiverEvent ≡ true = subst (λ (k : LineKind). kind_may_come r k ≡ true) of (and_parts _ _ may).0 in
    let next = (and_parts _ _ (and_parts _ _ kinds).1).1 in
    by r.mode is next
  where
    by : (m : Mode) → m ≡ Run → has_receivers m ≡ true → ⊥
    by m e h = let none : has_receivers m ≡ false = ap has_receivers e in cc

-- an event line begins the events
abbrev pub begun : Reached → Reached
begun r = record r { begun = true }

pub begun_by : (r : Reached) (line : TraceLine) (e : HubEvent) → brought run line ≡ Some e → with_line r line ≡ Ok (begun r)
begun_by r (head_line version tick link) e h = absurd cc
begun_by r (channel_line version c) e h = absurd cc
begun_by r (live_line id hex) e h = refl
begun_by r (feedback_line id client hex) e h = refl
begun_by r tick_line e h = refl
begun_by r end_line e h = absurd cc
begun_by r (tune_line id client ssrc) e h = absurd cc
begun_by r (give_line number) e h = absurd cc
begun_by r (mcast_line id client n) e h = absurd cc
begun_by r (ask_line id client) e h = absurd cc
begun_by r (drop_line id client) e h = absurd cc

pub event_kind : (line : TraceLine) (e : HubEvent) → brought run line ≡ Some e → kind_of line ≡ kind.Event
event_kind (head_line version tick link) e h = absurd cc
event_kind (channel_line version c) e h = absurd cc
event_kind (live_line id hex) e h = refl
event_kind (feedback_line id client hex) e h = refl
event_kind tick_line e h = refl
event_kind end_line e h = absurd cc
event_kind (tune_line id client ssrc) e h = absurd cc
event_kind (give_line number) e h = absurd cc
event_kind (mcast_line id client n) e h = absurd cc
event_kind (ask_line id client) e h = absurd cc
event_kind (drop_line id client) e h = absurd cc

pub numbers_kept : (e : HubEvent) (channels : List Served) → numbers (after_event e channels) ≡ numbers channels
numbers_kept e channels = ap ids_of (settings_after e channels)

-- The hub is of the same head line, counts one more event, and has served it.
pub record HasServedOne (e : HubEvent) (old new : hubs.Seen) : Type 0 where
  pub tick : new.tick ≡ old.tick
  pub link : new.link ≡ old.link
  pub calls : new.calls ≡ old.calls + 1
  pub stands : (channels : List Served) → StandsFor old channels → StandsFor new (after_event e channels)

module _ (ids : List ℕ) (events : ℕ) (r : Reached) (stage : Stage (List Served)) (number : ℕ) (line : TraceLine) (e : HubEvent) (may : may_come r line ≡ true) (in_range : line_in_range line ≡ true) (brings : brought run line ≡ Some e) where
  event_accepted : (hub : Option hubs.Seen) → Stands hub ids events r stage → accepted stage.reached line ≡ Ok (begun stage.reached)
  event_accepted hub stands =
      let mode : stage.reached.mode ≡ Run = ap (λ (x : Reached). x.mode) (sym stands.lines) ∙ stands.mode in
      accepts stage.reached line mode (subst (λ (x : Reached). may_come x line ≡ true) stands.lines may) in_range ∙ begun_by stage.reached line e brings

  event_turn : (hub : Option hubs.Seen) → Stands hub ids events r stage → turn_of stage number line ≡ counted run stage (begun stage.reached) e
  event_turn hub stands =
      ap (λ (o : Result Reached LineFault). after_judging run stage number (with_reached line o)) (event_accepted hub stands)
      ∙ ap (λ (o : Option HubEvent). after_line run stage (begun stage.reached) line o) brings

  -- the event is one too many
  pub too_long_turn : (hub : Option hubs.Seen) → Stands hub ids events r stage → 1000000 ≤ events → turn_of stage number line ≡ ends too_long
  too_long_turn hub stands many =
      event_turn hub stands ∙ rw (le-ltb stage.events 1000000 (omega (arith, stands.counted, many))) refl

  -- the event is served
  pub served_turn : (v w : hubs.Seen) (later : Reached) → Stands (Some v) ids events r stage → events < 1000000 → HasServedOne e v w → accepted r line ≡ Ok later
      → Took (Ok GoesOn) (turn_of stage number line) (Stands (Some w) ids (events + 1) later) number
  served_turn v w later stands few served does =
      let does_there : accepted stage.reached line ≡ Ok later = subst (λ (x : Reached). accepted x line ≡ Ok later) stands.lines does in
      let both : Ok (begun stage.reached) ≡ Ok later = sym (event_accepted (Some v) stands) ∙ does_there in
      let is : begun stage.reached ≡ later = cc in
      let next : Stage (List Served) = record { reached = begun stage.reached; state = after_event e stage.state; events = stage.events + 1 } in (
        next,
        event_text (stage.events + 1) e stage.state,
        event_turn (Some v) stands ∙ rw (lt-ltb stage.events 1000000 (omega (arith, stands.counted))) refl,
        record {
          serves = by_head stage.reached.head stands.serves;
          ids_are = stands.ids_are ∙ sym (numbers_kept e stage.state);
          claims = stands.claims ∙ sym (claims_kept e stage.state);
          counted = ap (λ n. n + 1) stands.counted;
          few = omega (arith, few);
          lines = sym is;
          mode = ap (λ (x : Reached). x.mode) (sym is) ∙ ap (λ (x : Reached). x.mode) (sym stands.lines) ∙ stands.mode;
        },
      )
    where
      by_head : (h : Option Head) → HubServes (Some v) h stage.state stage.events → HubServes (Some w) h (after_event e stage.state) (stage.events + 1)
      by_head None serves = absurd serves
      by_head (Some head) serves =
          record { stands = served.stands stage.state serves.stands; tick = served.tick ∙ serves.tick; link = served.link ∙ serves.link; calls = served.calls ∙ ap (λ n. n + 1) serves.calls }
