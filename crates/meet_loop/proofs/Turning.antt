-- The turns of lines.
use Rattle.std.proofs.Common.{◌≡◌, ℕ, ◌+◌, ◌-◌, ◌^◌, ◌<◌, Bool, true, false, not, ◌&&◌, List, [], map, Option, None, Some, Result, Ok, Err, is_some, refl, sym, subst, ap, ◌∙◌, arith, ltb, length}
use Rattle.std.proofs.lemmas.Bool.{and_parts, lt-ltb}
use Rattle.rams_model.specs.declared.LineFault.{LineFault}
use Rattle.rams_model.specs.Texts.{TraceLine, head_line, channel_line, live_line, feedback_line, tick_line, end_line, tune_line, give_line, mcast_line, ask_line, drop_line, Claim, Head, Reached, has_channel, has_events, has_receivers, judged, kind_of, kind_may_come, with_line}
use Rattle.server_hub.specs.Served.{Served}
use Rattle.trace_loop.specs.trace_book.trace_serving.{Stage, after_judging, after_line, counted, turn, brought, claim_of}
use Rattle.trace_loop.specs.declared.{Turn.Turn, Turn.TheVariants.Said, Turn.TheVariants.Refused}
use Rattle.trace_loop.specs.trace_book.{settings_of}
use Rattle.meet_loop.specs.declared.{world_laws.world.WorldEvent.WorldEvent, world_laws.world.WorldNote.WorldNote}
use Rattle.meet_loop.specs.world_laws.World.{World}
use Rattle.meet_loop.specs.world_laws.{happens}
use Rattle.meet_loop.specs.world_net.{CameAtMost, Seen, StandsFor}
use Rattle.meet_loop.proofs.world_net.Steps.{came_at_most}
use Rattle.meet_loop.specs.world_text.{notes_lines}
use Rattle.meet_loop.specs.world_book.{meet, most_events}
use Rattle.meet_loop.proofs.world_book.Channels.{happens_keeps}
use Rattle.meet_loop.specs.{Comes, WorldServes, Stands, Happens, Took}
use Rattle.meet_loop.proofs.Opening.{accepted_so}

-- the line that was read comes behind the stage
pub comes_next : (world : Option Seen) (events : ℕ) (reached later : Reached) (bytes : List ℕ) (read : TraceLine) (stage : Stage World) → Stands world events reached stage
    → judged reached bytes ≡ Ok (read, later) → Comes world events later read stage
comes_next world events reached later bytes read stage stands h = record {
  before = record { served = stands.served; claims = stands.claims; counted = stands.counted; lines = refl };
  bytes = bytes;
  comes = subst (λ (r : Reached). judged r bytes ≡ Ok (read, later)) stands.lines h;
}

-- its turn is that of the line
pub judged_turn : (stage : Stage World) (number : ℕ) (bytes : List ℕ) (read : TraceLine) (later now : Reached) (world : Option Seen) (events : ℕ) (notes : List WorldNote) (t : Turn (Unit {0})) → judged stage.reached bytes ≡ Ok (read, later)
    → Took (after_line meet stage later read (brought meet read)) world events now notes number t → Took (turn meet stage number bytes) world events now notes number t
unfolding turn
judged_turn stage number bytes read later now world events notes t h took =
    subst (λ (o : Result (TraceLine × Reached) LineFault). Took (after_judging meet stage number o) world events now notes number t) (sym h) took

-- a line that is refused
pub refused_turn : (stage : Stage World) (number : ℕ) (bytes : List ℕ) (fault : LineFault) (world : Option Seen) (events : ℕ) (reached : Reached) (notes : List WorldNote) → judged stage.reached bytes ≡ Err fault
    → Took (turn meet stage number bytes) world events reached notes number (Refused fault)
unfolding turn
refused_turn stage number bytes fault world events reached notes h =
    subst (λ (o : Result (TraceLine × Reached) LineFault). Took (after_judging meet stage number o) world events reached notes number (Refused fault)) (sym h) (refl, refl)

-- an event line begins the events, and comes behind a channel line
abbrev begun : Reached → Reached
begun r = record r { begun = true }

record Begins (r : Reached) (l : TraceLine) : Type 0 where
  goes : with_line r l ≡ Ok (begun r)
  behind : kind_may_come r (kind_of l) ≡ true → has_channel r ≡ true

behind_channel : (ended : Bool) (has rest : Bool) → (not ended && (has && rest)) ≡ true → has ≡ true
behind_channel ended has rest may = (and_parts has rest (and_parts (not ended) (has && rest) may).1).0

begins : (r : Reached) (l : TraceLine) (e : WorldEvent) → brought meet l ≡ Some e → Begins r l
begins r (head_line version tick link) e is = absurd cc
begins r (channel_line version c) e is = absurd cc
begins r end_line e is = absurd cc
begins r (live_line id hex) e is = record { goes = refl; behind = behind_channel r.ended (has_channel r) (has_events r.mode) }
begins r (feedback_line id client hex) e is = record { goes = refl; behind = behind_channel r.ended (has_channel r) (has_events r.mode) }
begins r tick_line e is = record { goes = refl; behind = behind_channel r.ended (has_channel r) (has_events r.mode) }
begins r (tune_line id client ssrc) e is = record { goes = refl; behind = behind_channel r.ended (has_channel r) (has_receivers r.mode) }
begins r (give_line number) e is = record { goes = refl; behind = behind_channel r.ended (has_channel r) (has_receivers r.mode) }
begins r (mcast_line id client n) e is = record { goes = refl; behind = behind_channel r.ended (has_channel r) (has_receivers r.mode) }
begins r (ask_line id client) e is = record { goes = refl; behind = behind_channel r.ended (has_channel r) (has_receivers r.mode) }
begins r (drop_line id client) e is = record { goes = refl; behind = behind_channel r.ended (has_channel r) (has_receivers r.mode) }

-- a channel stands in a world
no_channel : (r : Reached) (cs : List Served) → r.channels ≡ map claim_of (settings_of cs) → cs ≡ [] → has_channel r ≡ false
no_channel r cs claims none = ap (λ (l : List Claim). ltb 0 (length l)) (claims ∙ ap (λ (l : List Served). map claim_of (settings_of l)) none)

has_world : (world : Option Seen) (events : ℕ) (r : Reached) (stage : Stage World) → Stands world events r stage → has_channel stage.reached ≡ true → is_some world ≡ true
has_world world events r stage stands has = by world stage.reached.head stands.served
  where
    by : (o : Option Seen) (h : Option Head) → WorldServes o h stage.reached.begun stage.state stage.events → is_some o ≡ true
    by (Some v) h serves = refl
    by None (Some head) serves = absurd serves
    by None None serves = let none = no_channel stage.reached stage.state.channels stands.claims (ap (λ (w : World). w.channels) serves.0) in absurd cc

-- what is served is so when events have begun
served_begun : (o : Option Seen) (h : Option Head) (b : Bool) (w : World) (n : ℕ) → WorldServes o h b w n → WorldServes o h true w n
served_begun None None b w n serves = serves
served_begun None (Some head) b w n serves = absurd serves
served_begun (Some v) None b w n serves = absurd serves
served_begun (Some v) (Some head) b w n serves = record { stands = serves.stands; few = serves.few; tick = λ e. absurd cc; link = λ e. absurd cc }

-- What stands behind an event line, but for the event.
pub record IsBegun (world : Option Seen) (events : ℕ) (later : Reached) (stage : Stage World) : Type 0 where
  pub stands : Stands world events later (record stage { reached = later })
  pub begun_is : later.begun ≡ true
  pub there : is_some world ≡ true

pub event_stage : (world : Option Seen) (events : ℕ) (later : Reached) (line : TraceLine) (e : WorldEvent) (stage : Stage World) → brought meet line ≡ Some e → Comes world events later line stage
    → IsBegun world events later stage
event_stage world events later line e stage brings comes =
    let so = accepted_so world events later line stage comes in
    let b = begins stage.reached line e brings in
    let does : Ok (begun stage.reached) ≡ Ok later = sym b.goes ∙ so.gives in
    let is : begun stage.reached ≡ later = cc in
    subst (λ (r : Reached). IsBegun world events r stage) is (record {
      stands = record {
        served = served_begun world stage.reached.head stage.reached.begun stage.state stage.events comes.before.served;
        claims = comes.before.claims;
        counted = comes.before.counted;
        lines = refl;
      };
      begun_is = refl;
      there = has_world world events stage.reached stage comes.before (b.behind (and_parts _ _ so.may).0);
    })

-- the turn of an event line
pub brought_turn : (stage : Stage World) (later : Reached) (line : TraceLine) (e : WorldEvent) (world : Option Seen) (events : ℕ) (notes : List WorldNote) (number : ℕ) (t : Turn (Unit {0})) → brought meet line ≡ Some e
    → Took (counted meet stage later e) world events later notes number t → Took (after_line meet stage later line (brought meet line)) world events later notes number t
brought_turn stage later line e world events notes number t is took = subst (λ (o : Option WorldEvent). Took (after_line meet stage later line o) world events later notes number t) (sym is) took

-- no more came to the world than its events so far
pub few_came : (world : Option Seen) (v : Seen) (events : ℕ) (stage : Stage World) → Stands world events stage.reached stage → world ≡ Some v → events < 100000 → CameAtMost (2 ^ 40 - 1) v.kept
few_came world v events stage stands is few =
    by stage.reached.head (subst (λ (o : Option Seen). WorldServes o stage.reached.head stage.reached.begun stage.state stage.events) is stands.served)
  where
    by : (h : Option Head) → WorldServes (Some v) h stage.reached.begun stage.state stage.events → CameAtMost (2 ^ 40 - 1) v.kept
    by None serves = absurd serves
    by (Some head) serves = came_at_most stage.events (2 ^ 40 - 1) v.kept (omega (arith, few, stands.counted)) serves.few

-- an event that is served
pub served_turn : (v w : Seen) (events : ℕ) (e : WorldEvent) (notes : List WorldNote) → events < 100000 → ((n : ℕ) → CameAtMost n v.kept → CameAtMost (n + 1) w.kept) → ((u : World) → StandsFor v u → Happens e u w notes true)
    → (stage : Stage World) (number : ℕ) → Stands (Some v) events stage.reached stage → stage.reached.begun ≡ true → Took (counted meet stage stage.reached e) (Some w) (events + 1) stage.reached notes number (Said tt)
served_turn v w events e notes few more said stage number stands begun = by_head stage.reached.head refl stands.served
  where
    by_head : (h : Option Head) → stage.reached.head ≡ h → WorldServes (Some v) h stage.reached.begun stage.state stage.events
        → Took (counted meet stage stage.reached e) (Some w) (events + 1) stage.reached notes number (Said tt)
    by_head None is serves = absurd serves
    by_head (Some head) is serves =
        let told = said stage.state serves.stands in
        rw (lt-ltb stage.events most_events (omega (arith, stands.counted)), told.2) (
          record {
            served = subst (λ (h : Option Head). WorldServes (Some w) h stage.reached.begun (happens e stage.state).world (stage.events + 1)) (sym is)
                (record { stands = told.1; few = more stage.events serves.few; tick = λ e. absurd cc; link = λ e. absurd cc });
            claims = stands.claims ∙ ap (map claim_of) (sym (happens_keeps e stage.state));
            counted = ap (λ n. n + 1) stands.counted;
            lines = refl;
          },
          refl,
          ap (notes_lines (events + 1)) told.0 ∙ ap (λ n. notes_lines (n + 1) (happens e stage.state).notes) stands.counted,
        )
