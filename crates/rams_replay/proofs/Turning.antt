-- The turns of lines.
use Rattle.std.proofs.Common.{◌≡◌, ℕ, ◌+◌, ◌<◌, true, List, [], Option, None, Some, Result, Ok, Err, is_some, refl, sym, subst, ap, ◌∙◌, arith, ◌⊎◌, inl, inr}
use Rattle.std.proofs.lemmas.Bool.{and_parts, lt-ltb}
use Rattle.rams_model.specs.declared.{Channel.Channel, LineFault.LineFault, LineKind.LineKind}
use Rattle.rams_model.specs.Texts.{TraceLine, Head, Reached, accepted, has_channel, judged, judged_line, kind_of, kind_may_come, with_line, with_reached}
use Rattle.rams_model.specs.declared.LineKind.TheVariants as kind
use Rattle.server_hub.specs.declared.{HubAnswer.HubAnswer, HubEvent.HubEvent}
use Rattle.server_hub.specs.{StandsFor, after_event}
use Rattle.server_hub.specs.Seen.{Seen}
use Rattle.server_hub.specs.Served.{Served}
use Rattle.trace_loop.proofs.trace_book.trace_serving.Judged.{accepted_so}
use Rattle.trace_loop.specs.trace_book.trace_serving.{Stage, goes_on, after_judging, after_line, counted, turn, brought}
use Rattle.trace_loop.specs.trace_book.trace_serving.Text as text
use Rattle.trace_loop.specs.declared.Turn.{Turn}
use Rattle.trace_loop.specs.declared.Turn.TheVariants.{GoesOn, Said, Refused}
use Rattle.trace_loop.specs.trace_book.{run, most_events, event_text}
use Rattle.trace_loop.proofs.head_loop.Claims.{claims_kept, no_channel}
use Rattle.rams_replay.specs.{Comes, Stands, CountsOne, Tells, Took}
use Rattle.trace_lines.specs.declared.Line.{Line}
use Rattle.trace_lines.specs.{shown}
use Rattle.trace_lines.specs.declared.Line.TheVariants.{Channel as ChannelLine, Tune, Give, Mcast, Ask, Drop}
use Rattle.trace_text.specs.{IsOther}
use Rattle.takeover.specs.standby.{HubServes}

-- what is judged well was accepted
accepts : (line : TraceLine) (o : Result Reached LineFault) (read : TraceLine) (later : Reached) → with_reached line o ≡ Ok (read, later) → (line ≡ read) × (o ≡ Ok later)
accepts line (Ok r) read later h = (ap first h, ap second h)
  where
    first : Result (TraceLine × Reached) LineFault → TraceLine
    first (Ok both) = both.0
    first (Err fault) = line

    second : Result (TraceLine × Reached) LineFault → Result Reached LineFault
    second (Ok both) = Ok both.1
    second (Err fault) = Err fault
accepts line (Err fault) read later h = absurd cc

read_accepts : (r : Reached) (o : Option TraceLine) (read : TraceLine) (later : Reached) → judged_line r o ≡ Ok (read, later) → accepted r read ≡ Ok later
read_accepts r None read later h = absurd cc
read_accepts r (Some line) read later h =
    let parts = accepts line (accepted r line) read later h in subst (λ (l : TraceLine). accepted r l ≡ Ok later) parts.0 parts.1

pub judged_accepts : (r : Reached) (bytes : List ℕ) (read : TraceLine) (later : Reached) → judged r bytes ≡ Ok (read, later) → accepted r read ≡ Ok later
unfolding judged
judged_accepts r bytes read later h = read_accepts r _ read later h

-- the line that was read comes behind the stage
pub comes_next : (hub : Option Seen) (events : ℕ) (reached later : Reached) (bytes : List ℕ) (read : TraceLine) (stage : Stage (List Served)) → Stands hub events reached stage
    → judged reached bytes ≡ Ok (read, later) → Comes hub events later read stage
comes_next hub events reached later bytes read stage stands h = record {
  before = record { served = stands.served; claims = stands.claims; counted = stands.counted; lines = refl };
  comes = judged_accepts stage.reached bytes read later (subst (λ (r : Reached). judged r bytes ≡ Ok (read, later)) stands.lines h);
}

-- its turn is that of the line
pub judged_turn : (stage : Stage (List Served)) (number : ℕ) (bytes : List ℕ) (read : TraceLine) (later now : Reached) (hub : Option Seen) (events : ℕ) (t : Turn HubAnswer) → judged stage.reached bytes ≡ Ok (read, later)
    → Took (after_line run stage later read (brought run read)) hub events now number t → Took (turn run stage number bytes) hub events now number t
unfolding turn
judged_turn stage number bytes read later now hub events t h took =
    subst (λ (o : Result (TraceLine × Reached) LineFault). Took (after_judging run stage number o) hub events now number t) (sym h) took

-- a line that is refused
pub refused_turn : (stage : Stage (List Served)) (number : ℕ) (bytes : List ℕ) (fault : LineFault) (hub : Option Seen) (events : ℕ) (reached : Reached) → judged stage.reached bytes ≡ Err fault
    → Took (turn run stage number bytes) hub events reached number (Refused fault)
unfolding turn
refused_turn stage number bytes fault hub events reached h =
    subst (λ (o : Result (TraceLine × Reached) LineFault). Took (after_judging run stage number o) hub events reached number (Refused fault)) (sym h) (refl, refl)

-- an event line begins the events
abbrev pub begun : Reached → Reached
begun r = record r { begun = true }

pub stands_begun : (hub : Option Seen) (events : ℕ) (stage : Stage (List Served)) (later : Reached) → begun stage.reached ≡ later → Stands hub events stage.reached stage
    → Stands hub events later (record stage { reached = later })
stands_begun hub events stage later e stands =
    subst (λ (r : Reached). Stands hub events r (record stage { reached = r })) e
    (record { served = stands.served; claims = stands.claims; counted = stands.counted; lines = refl })

-- what stands behind an event line, but for the event
pub event_stage : (hub : Option Seen) (events : ℕ) (later : Reached) (line : TraceLine) (stage : Stage (List Served)) → Comes hub events later line stage → with_line stage.reached line ≡ Ok (begun stage.reached)
    → Stands hub events later (record stage { reached = later })
event_stage hub events later line stage comes is =
    let does : Ok (begun stage.reached) ≡ Ok later = sym is ∙ (accepted_so stage.reached line later comes.comes).gives in
    stands_begun hub events stage later (cc does) comes.before

-- a line of a receiver, which no trace of `run` has, or of a channel
abbrev pub IsReceiver : Line → Type 0
IsReceiver l =
    ((x : ℕ) × (y : ℕ) × (z : ℕ) × (l ≡ Tune x y z)) ⊎ (((x : ℕ) × (l ≡ Give x)) ⊎ (((x : ℕ) × (y : ℕ) × (z : ℕ) × (l ≡ Mcast x y z))
    ⊎ (((x : ℕ) × (y : ℕ) × (l ≡ Ask x y)) ⊎ (((x : ℕ) × (y : ℕ) × (l ≡ Drop x y)) ⊎ ((x : ℕ) × (y : Channel) × (l ≡ ChannelLine x y))))))

silent_turn : (hub : Option Seen) (events number : ℕ) (later : Reached) (stage : Stage (List Served)) (line : TraceLine) → Comes hub events later line stage → with_line stage.reached line ≡ Ok (begun stage.reached)
    → after_line run stage later line (brought run line) ≡ goes_on (record { reached = later; state = stage.state; events = stage.events }) []
    → Took (after_line run stage later line (brought run line)) hub events later number GoesOn
silent_turn hub events number later stage line comes does is =
    subst (λ (was : text.Turn (List Served)). Took was hub events later number GoesOn) (sym is) (event_stage hub events later line stage comes does, refl, refl)

module _ (hub : Option Seen) (events number : ℕ) (later : Reached) (stage : Stage (List Served)) (l : Line) (comes : Comes hub events later (shown l) stage) where
  as_line : (k : Line) → l ≡ k → with_line stage.reached (shown k) ≡ Ok (begun stage.reached)
      → after_line run stage later (shown k) (brought run (shown k)) ≡ goes_on (record { reached = later; state = stage.state; events = stage.events }) []
      → Took (after_line run stage later (shown l) (brought run (shown l))) hub events later number GoesOn
  as_line k is does silent =
      subst (λ (x : Line). Took (after_line run stage later (shown x) (brought run (shown x))) hub events later number GoesOn) (sym is)
      (silent_turn hub events number later stage (shown k) (subst (λ (x : Line). Comes hub events later (shown x) stage) is comes) does silent)

  pub receiver_turn : IsOther l → IsReceiver l → Took (after_line run stage later (shown l) (brought run (shown l))) hub events later number GoesOn
  receiver_turn other (inl p) = as_line (Tune p.0 p.1 p.2) p.3 refl refl
  receiver_turn other (inr (inl p)) = as_line (Give p.0) p.1 refl refl
  receiver_turn other (inr (inr (inl p))) = as_line (Mcast p.0 p.1 p.2) p.3 refl refl
  receiver_turn other (inr (inr (inr (inl p)))) = as_line (Ask p.0 p.1) p.2 refl refl
  receiver_turn other (inr (inr (inr (inr (inl p))))) = as_line (Drop p.0 p.1) p.2 refl refl
  receiver_turn other (inr (inr (inr (inr (inr p))))) = absurd (subst IsOther p.2 other)

pub has_hub : (hub : Option Seen) (events : ℕ) (r : Reached) (stage : Stage (List Served)) → Stands hub events r stage → has_channel stage.reached ≡ true → is_some hub ≡ true
has_hub hub events r stage stands has = by hub stage.reached.head stands.served
  where
    by : (o : Option Seen) (h : Option Head) → HubServes o h stage.state stage.events → is_some o ≡ true
    by (Some v) h serves = refl
    by None (Some head) serves = absurd serves
    by None None serves = let none = no_channel stage.reached stage.state stands.claims serves.0 in absurd cc

pub event_has_hub : (hub : Option Seen) (events : ℕ) (later : Reached) (line : TraceLine) (stage : Stage (List Served)) → Comes hub events later line stage → kind_of line ≡ kind.Event → is_some hub ≡ true
event_has_hub hub events later line stage comes is =
    let may = (and_parts _ _ (accepted_so stage.reached line later comes.comes).may).0 in
    let event : kind_may_come stage.reached kind.Event ≡ true = subst (λ (k : LineKind). kind_may_come stage.reached k ≡ true) is may in
    has_hub hub events stage.reached stage comes.before ((and_parts _ _ (and_parts _ _ event).1).0)

-- an event that is served
pub served_turn : (v w : Seen) (events : ℕ) (e : HubEvent) (a : HubAnswer) → events < 1000000 → CountsOne v w
    → ((channels : List Served) → StandsFor v channels → Tells e channels w a)
    → (stage : Stage (List Served)) (number : ℕ) → Stands (Some v) events stage.reached stage → Took (counted run stage stage.reached e) (Some w) (events + 1) stage.reached number (Said a)
served_turn v w events e a few counts tells stage number stands = by_head stage.reached.head refl stands.served
  where
    by_head : (h : Option Head) → stage.reached.head ≡ h → HubServes (Some v) h stage.state stage.events
        → Took (counted run stage stage.reached e) (Some w) (events + 1) stage.reached number (Said a)
    by_head None is serves = absurd serves
    by_head (Some head) is serves =
        let told = tells stage.state serves.stands in
        rw (lt-ltb stage.events most_events (omega (arith, stands.counted))) (
          record {
            served = subst (λ (h : Option Head). HubServes (Some w) h (after_event e stage.state) (stage.events + 1)) (sym is)
                (record { stands = told.stands; tick = counts.tick ∙ serves.tick; link = counts.link ∙ serves.link; calls = counts.calls ∙ ap (λ n. n + 1) serves.calls });
            claims = stands.claims ∙ sym (claims_kept e stage.state);
            counted = ap (λ n. n + 1) stands.counted;
            lines = refl;
          },
          refl,
          told.text (events + 1) ∙ ap (λ n. event_text (n + 1) e stage.state) stands.counted,
        )
