-- What is left of a line of a trace for a pool.
use Rattle.std.proofs.Common.{◌≡◌, ◌≢◌, ℕ, ◌+◌, ◌<◌, ◌≤◌, true, false, not, ◌&&◌, List, [], ◌∷◌, ◌++◌, map, length, reverse, nat_lt, Option, Some, None, refl, sym, ap, subst, ◌∙◌, arith}
use Rattle.std.specs.Prelude.{AllPairs}
use Rattle.std.proofs.lemmas.Bool.{and_parts, lt-ltb, le-ltb, ltb-true}
use Rattle.std.proofs.lemmas.List.{reverse-append, length-reverse, length-map, map-append}
use Rattle.rams_model.specs.declared.{Mode.Mode, Mode.TheVariants.Run}
use Rattle.rams_model.specs.Service.{Settings, settings}
use Rattle.rams_model.specs.Texts.{TraceLine, head_line, channel_line, end_line, Head, Reached, tick_of, has_channel, has_receivers, may_come}
use Rattle.server_hub.specs.declared.HubEvent.{HubEvent}
use Rattle.server_hub.specs.{served, id_of, ids_of, after_event}
use Rattle.server_hub.specs.Served.{Served}
use Rattle.trace_loop.specs.trace_book.trace_serving.{Stage, goes_on, after_line, brought, Stand, claim_of}
use Rattle.trace_loop.proofs.trace_book.trace_serving.Judged.{judged_so}
use Rattle.trace_loop.specs.trace_book.{run, settings_of}
use Rattle.trace_lines.specs.declared.Line.{Line}
use Rattle.trace_lines.specs.{shown}
use Rattle.trace_lines.specs.declared.Line.TheVariants as line
use Rattle.trace_text.specs.{IsOther}
use Rattle.pool.specs.declared.{pool_loop.dealing.Coming.Coming, pool_loop.dealing.Dealt.Dealt, pool_loop.routes.Route.Route}
use Rattle.trace_loop.specs.declared.whole_trace.Does.{Does}
use Rattle.trace_loop.specs.declared.whole_trace.Does.TheVariants.{GoesOn, Ends, Refused, TooLong}
use Rattle.pool.specs.pool_loop.{pool, route_of, served_so, all_served, came_with, HasDealt, HasTaken, IsDealt, Comes, Took}
use Rattle.pool.proofs.pool_loop.Turns.{turn_so, stays_stage}
use Rattle.pool.proofs.pool_loop.Changing.{same_numbers, few_after, few_opened}
use Rattle.trace_loop.proofs.journal_book.Modes.{refused_event}

-- ---- what holds of what is left

-- no two channels have one number
once_in : (o : Option Head) (all : List Settings) → Stand o all → AllPairs (λ x y. x ≢ y) (ids_of all)
once_in None all stand = subst (λ (l : List Settings). AllPairs (λ x y. x ≢ y) (ids_of l)) (sym stand) (λ i j d less short. absurd (omega (arith, short)))
once_in (Some head) all stand = stand.fit.once

pub once_stage : (d : Dealt) (came : List HubEvent) (stage : Stage (List Served)) → HasDealt d came stage → AllPairs (λ x y. x ≢ y) (ids_of (settings_of stage.state))
once_stage d came stage h = once_in stage.reached.head (settings_of stage.state) h.kept.stand

pub once_dealt : (d : Dealt) (came : List HubEvent) (stage : Stage (List Served)) → HasDealt d came stage → AllPairs (λ x y. x ≢ y) (map id_of (all_served d.channels.items))
once_dealt d came stage h =
    subst (AllPairs (λ x y. x ≢ y)) (same_numbers stage.state ∙ ap (map id_of) h.channels) (once_stage d came stage h)

-- as many routes as events
pub as_many : (d : Dealt) (came : List HubEvent) (stage : Stage (List Served)) → HasDealt d came stage → length d.routes.items ≡ stage.events
as_many d came stage h = ap length h.routes ∙ length-map (reverse came) route_of ∙ length-reverse came ∙ sym h.counted

-- the lines so far are no part of what is left
pub with_state : (d new : Dealt) (came : List HubEvent) (stage : Stage (List Served)) → HasDealt d came stage → new.channels ≡ d.channels → new.routes ≡ d.routes → HasDealt new came stage
with_state d new came stage h channels routes = record {
  kept = h.kept;
  channels = h.channels ∙ ap (λ v. all_served v.items) (sym channels);
  routes = ap (λ v. v.items) routes ∙ h.routes;
  counted = h.counted;
  few = h.few;
  short = h.short;
}

-- ---- an event

module _ (d new : Dealt) (came : List HubEvent) (stage : Stage (List Served)) (bytes : List ℕ) (l : TraceLine) (comes : Comes d came bytes l stage) (e : HubEvent)
    (goes : after_line pool stage d.state l (brought pool l) ≡ after_line pool stage d.state l (Some e)) (brings : brought run l ≡ Some e) where
  abbrev later : Stage (List Served)
  later = record { reached = d.state; state = after_event e stage.state; events = stage.events + 1 }

  on : stage.events < 200000 → after_line pool stage d.state l (brought pool l) ≡ goes_on later []
  on below = let few : nat_lt stage.events 200000 ≡ true = lt-ltb stage.events 200000 below in goes ∙ rw few refl

  taken : stage.events < 200000 → HasTaken (after_event e) (route_of e) d new → HasDealt new (e ∷ came) later
  taken below t =
      let h = comes.before in
      record {
        kept = stays_stage stage 0 bytes later h.kept (turn_so stage 0 bytes l d.state comes.comes ∙ on below);
        channels = ap (after_event e) h.channels ∙ sym t.channels;
        routes = t.routes ∙ ap (λ (rs : List Route). rs ++ route_of e ∷ []) h.routes ∙ sym (ap (map route_of) (reverse-append (e ∷ []) came) ∙ map-append route_of (reverse came) (e ∷ []));
        counted = omega (arith, h.counted);
        few = omega (arith, below);
        short = few_after e stage.events stage.state h.short;
      }

  pub takes_event : (number : ℕ) (does : Does) → IsDealt (after_event e) (route_of e) d new does → Took new came (brought run l) stage (after_line pool stage d.state l (brought pool l)) number does
  takes_event number GoesOn t =
      let below : stage.events < 200000 = omega (arith, t.0, as_many d came stage comes.before) in
      (later, on below, (t.1.state, subst (λ (o : Option HubEvent). HasDealt new (came_with o came) later) (sym brings) (taken below t.1)))
  takes_event number TooLong many =
      let full : nat_lt stage.events 200000 ≡ false = le-ltb stage.events 200000 (omega (arith, many, as_many d came stage comes.before)) in
      goes ∙ rw full refl
  takes_event number Ends t = absurd t
  takes_event number (Refused fault) t = absurd t

-- ---- the other lines

pub takes_head : (d : Dealt) (came : List HubEvent) (stage : Stage (List Served)) (bytes : List ℕ) (version tick link number : ℕ) → Comes d came bytes (head_line version tick link) stage
    → Took d came (brought run (head_line version tick link)) stage (after_line pool stage d.state (head_line version tick link) (brought pool (head_line version tick link))) number GoesOn
takes_head d came stage bytes version tick link number comes =
    let later : Stage (List Served) = record { reached = d.state; state = stage.state; events = stage.events } in
    let h = comes.before in (
      later,
      refl,
      (
        refl,
        record {
          kept = stays_stage stage 0 bytes later h.kept (turn_so stage 0 bytes (head_line version tick link) d.state comes.comes);
          channels = h.channels;
          routes = h.routes;
          counted = h.counted;
          few = h.few;
          short = h.short;
        },
      ),
    )

pub takes_end : (d : Dealt) (came : List HubEvent) (stage : Stage (List Served)) (bytes : List ℕ) (number : ℕ) → Comes d came bytes end_line stage
    → Took d came (brought run end_line) stage (after_line pool stage d.state end_line (brought pool end_line)) number Ends
takes_end d came stage bytes number comes = (refl, comes.before, (judged_so stage.reached bytes end_line d.state comes.comes).accepts.may)

pub takes_channel : (d new : Dealt) (came : List HubEvent) (stage : Stage (List Served)) (bytes : List ℕ) (version number : ℕ) (s : Settings) (c : Coming) → Comes d came bytes (channel_line version s.channel) stage
    → s.tick ≡ tick_of d.state.head → c.config ≡ s → c.events.items ≡ [] → new.channels.items ≡ d.channels.items ++ c ∷ [] → new.routes ≡ d.routes → new.state ≡ d.state
    → Took new came (brought run (channel_line version s.channel)) stage (after_line pool stage d.state (channel_line version s.channel) (brought pool (channel_line version s.channel))) number GoesOn
takes_channel d new came stage bytes version number s c comes tick config events channels routes state =
    let l = channel_line version s.channel in
    let one = settings s.channel (tick_of d.state.head) in
    let later : Stage (List Served) = record { reached = d.state; state = stage.state ++ served one [] ∷ []; events = stage.events } in
    let h = comes.before in
    let named : served_so c ≡ served one [] =
    ap (λ (x : Settings). served x (reverse c.events.items)) config ∙ ap (λ (n : ℕ). served (settings s.channel n) (reverse c.events.items)) tick ∙ ap (λ es. served one (reverse es)) events in (
      later,
      refl,
      (
        state,
        record {
          kept = stays_stage stage 0 bytes later h.kept (turn_so stage 0 bytes l d.state comes.comes);
          channels =
              ap (λ (cs : List Served). cs ++ served one [] ∷ []) h.channels ∙ ap (λ (x : Served). all_served d.channels.items ++ x ∷ []) (sym named)
              ∙ sym (ap all_served channels ∙ map-append served_so d.channels.items (c ∷ []));
          routes = ap (λ v. v.items) routes ∙ h.routes;
          counted = h.counted;
          few = h.few;
          short = few_opened stage.events one stage.state h.short;
        },
      ),
    )

-- ---- which lines may come

-- no line of a receiver may come
no_receiver : (r : Reached) → r.mode ≡ Run → ((not r.ended && (has_channel r && has_receivers r.mode)) && true) ≡ true → ⊥
no_receiver r mode may = refused_event (not r.ended) (has_channel r) (subst (λ (m : Mode). ((not r.ended && (has_channel r && has_receivers m)) && true) ≡ true) mode may)

-- a line that may come is one of these
pub no_other : (d : Dealt) (came : List HubEvent) (stage : Stage (List Served)) (bytes : List ℕ) (l : Line) → Comes d came bytes (shown l) stage → IsOther l → (P : Type 0)
    → ((version tick link : ℕ) → l ≡ line.Head version tick link → P) → ((id : ℕ) (hex : _) → l ≡ line.Live id hex → P) → ((id client : ℕ) (hex : _) → l ≡ line.Feedback id client hex → P) → (l ≡ line.Tick → P) → (l ≡ line.End → P) → P
no_other d came stage bytes l comes other P head live feedback on_tick end = by l (judged_so stage.reached bytes (shown l) d.state comes.comes).accepts.may other head live feedback on_tick end
  where
    by : (k : Line) → may_come stage.reached (shown k) ≡ true → IsOther k → ((version tick link : ℕ) → k ≡ line.Head version tick link → P) → ((id : ℕ) (hex : _) → k ≡ line.Live id hex → P)
        → ((id client : ℕ) (hex : _) → k ≡ line.Feedback id client hex → P) → (k ≡ line.Tick → P) → (k ≡ line.End → P) → P
    by (line.Head version tick link) may other head live feedback on_tick end = head version tick link refl
    by (line.Channel version c) may other head live feedback on_tick end = absurd other
    by (line.Live id hex) may other head live feedback on_tick end = live id hex refl
    by (line.Feedback id client hex) may other head live feedback on_tick end = feedback id client hex refl
    by line.Tick may other head live feedback on_tick end = on_tick refl
    by line.End may other head live feedback on_tick end = end refl
    by (line.Tune id client ssrc) may other head live feedback on_tick end = absurd (no_receiver stage.reached comes.before.kept.mode may)
    by (line.Give number) may other head live feedback on_tick end = absurd (no_receiver stage.reached comes.before.kept.mode may)
    by (line.Mcast id client n) may other head live feedback on_tick end = absurd (no_receiver stage.reached comes.before.kept.mode may)
    by (line.Ask id client) may other head live feedback on_tick end = absurd (no_receiver stage.reached comes.before.kept.mode may)
    by (line.Drop id client) may other head live feedback on_tick end = absurd (no_receiver stage.reached comes.before.kept.mode may)

-- behind `end` there is a channel
pub ends_with_channel : (d : Dealt) (came : List HubEvent) (stage : Stage (List Served)) → HasDealt d came stage → may_come stage.reached end_line ≡ true → 0 < length d.channels.items
ends_with_channel d came stage h may =
    let r = stage.reached in
    let has : has_channel r ≡ true = (and_parts (not r.ended) (has_channel r) (and_parts (not r.ended && has_channel r) true may).0).1 in
    let some : 0 < length stage.reached.channels = ltb-true 0 (length stage.reached.channels) has in
    omega (arith, some, ap length h.kept.claims, length-map (settings_of stage.state) claim_of, length-map stage.state (λ (c : Served). c.settings), ap length h.channels, length-map d.channels.items served_so)

few_in : (o : Option Head) (all : List Settings) → Stand o all → length all ≤ 64
few_in None all stand = omega (arith, ap length stand)
few_in (Some head) all stand = stand.fit.few

-- there are at most 64 channels
pub few_channels : (d : Dealt) (came : List HubEvent) (stage : Stage (List Served)) → HasDealt d came stage → length d.channels.items ≤ 64
few_channels d came stage h =
    omega (arith, few_in stage.reached.head (settings_of stage.state) h.kept.stand, length-map stage.state (λ (c : Served). c.settings), ap length h.channels, length-map d.channels.items served_so)
