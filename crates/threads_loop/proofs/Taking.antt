-- What is left of a line that threads take.
use Rattle.std.proofs.Common.{◌≡◌, ℕ, ◌+◌, ◌<◌, Bool, true, false, not, ◌&&◌, ltb, List, [], ◌∷◌, ◌++◌, map, length, reverse, nat_lt, Option, Some, None, Result, Ok, refl, sym, ap, subst, ◌∙◌, arith}
use Rattle.std.specs.Prelude.{◌==◌, if◌then◌else◌, slice_index_or}
use Rattle.std.proofs.lemmas.Bool.{and_parts, lt-ltb, le-ltb}
use Rattle.std.proofs.lemmas.List.{reverse-append}
use Rattle.std.proofs.lemmas.List.Elements.{filter-append}
use Rattle.rams_model.specs.declared.{Channel.Channel, Event.Event, LineFault.LineFault, Mode.Mode, Mode.TheVariants.Threads}
use Rattle.rams_model.specs.declared.Event.TheVariants as event
use Rattle.rams_model.specs.Service.{Settings, settings}
use Rattle.rams_model.specs.Texts.{TraceLine, head_line, channel_line, live_line, feedback_line, tick_line, end_line, Claim, Reached, tick_of, has_channel, has_one_channel, has_events, is_served, may_come, with_line, is_hex, is_spelled, bytes_in, hex_word}
use Rattle.server_hub.specs.declared.HubEvent.TheVariants.{Live, Feedback}
use Rattle.server_hub.specs.{served, after_event}
use Rattle.server_hub.specs.Served.{Served}
use Rattle.trace_loop.specs.trace_book.trace_serving.{Stage, claim_of, after_line, brought}
use Rattle.trace_loop.proofs.trace_book.trace_serving.Judged.{channel_so, claim}
use Rattle.trace_loop.specs.trace_book.{settings_of}
use Rattle.trace_lines.specs.declared.Line.{Line}
use Rattle.trace_lines.specs.{shown}
use Rattle.trace_lines.specs.declared.Line.TheVariants as line
use Rattle.trace_text.specs.{IsOther}
use Rattle.trace_loop.specs.journal_book.{HasLine}
use Rattle.threads_loop.specs.declared.dealing.Dealt.{Dealt}
use Rattle.trace_loop.specs.declared.whole_trace.Does.{Does}
use Rattle.trace_loop.specs.declared.whole_trace.Does.TheVariants.{GoesOn, Ends, Refused, TooLong}
use Rattle.trace_loop.proofs.journal_book.Hexes.{word_back}
use Rattle.threads_loop.specs.{threads, list_of, dealt, hub_event, holding, HaveLines, HasDealt, HasTaken, IsDealt, Comes, Took}
use Rattle.threads_loop.proofs.Accepted.{IsTaken, taken_so, none_served, served_id, no_channel}
use Rattle.threads_loop.proofs.Heads.{no_receiver}
use Rattle.threads_loop.proofs.Histories.{one_after}

-- ---- an event's list

-- the events of a list, with the newest one
dealt_more : (workers list : ℕ) (e : Event) (came : List Event)
    → dealt workers list (reverse (e ∷ came)) ≡ dealt workers list (reverse came) ++ (if list_of workers e == list then e ∷ [] else [])
dealt_more workers list e came =
    ap (dealt workers list) (reverse-append (e ∷ []) came) ∙ filter-append (λ x. list_of workers x == list) (reverse came) (e ∷ []) ∙ ap (λ l. dealt workers list (reverse came) ++ l) (one (list_of workers e == list) refl)
  where
    one : (b : Bool) → (list_of workers e == list) ≡ b → dealt workers list (e ∷ []) ≡ (if list_of workers e == list then e ∷ [] else [])
    one true is = rw is refl
    one false is = rw is refl

-- ---- the channel's events

-- What a line brings that is an event: of the channel, with a line that a trace may have.
pub record IsEventOf (s : Settings) (line : TraceLine) (e : Event) : Type 0 where
  pub brings : brought threads line ≡ Some (hub_event s.channel.id e)
  pub has_line : HasLine (hub_event s.channel.id e)

live_is : (s : Settings) (id : ℕ) (hex : List ℕ) → s.channel.id ≡ id → is_hex hex ≡ true → is_spelled (live_line id hex) ≡ true → IsEventOf s (live_line id hex) (event.Live (bytes_in hex))
live_is s id hex own digits spelled = record {
  brings = ap (λ (n : ℕ). Some (Live n (bytes_in hex))) (sym own);
  has_line = subst (λ (n : ℕ). is_spelled (live_line n (hex_word (bytes_in hex))) ≡ true) (sym own)
      (subst (λ (w : List ℕ). is_spelled (live_line id w) ≡ true) (sym (word_back hex digits)) spelled);
}

feedback_is : (s : Settings) (id client : ℕ) (hex : List ℕ) → s.channel.id ≡ id → is_hex hex ≡ true → is_spelled (feedback_line id client hex) ≡ true
    → IsEventOf s (feedback_line id client hex) (event.Feedback client (bytes_in hex))
feedback_is s id client hex own digits spelled = record {
  brings = ap (λ (n : ℕ). Some (Feedback n client (bytes_in hex))) (sym own);
  has_line = subst (λ (n : ℕ). is_spelled (feedback_line n client (hex_word (bytes_in hex))) ≡ true) (sym own)
      (subst (λ (w : List ℕ). is_spelled (feedback_line id client w) ≡ true) (sym (word_back hex digits)) spelled);
}

module _ (d : Dealt) (stage : Stage (List Served)) (h : HasDealt d stage) where
  -- what is left where the channel is known
  pub settings_are : (s : Settings) → d.config ≡ Some s → settings_of stage.state ≡ s ∷ []
  settings_are s is = ap settings_of (h.state ∙ ap (λ (o : Option Settings). holding o h.came) is)

  empty_now : d.config ≡ None → stage.state ≡ []
  empty_now is = h.state ∙ ap (λ (o : Option Settings). holding o h.came) is

  -- where a channel has come, it is known
  pub is_known : has_channel stage.reached ≡ true → (s : Settings) × (d.config ≡ Some s)
  is_known has = by d.config refl
    where
      by : (o : Option Settings) → d.config ≡ o → (s : Settings) × (d.config ≡ Some s)
      by (Some s) is = (s, is)
      by None is =
          let never = no_channel stage.reached stage.state (empty_now is) h.claims in absurd cc

  -- and where none has come, none is
  pub is_unknown : has_channel stage.reached ≡ false → d.config ≡ None
  is_unknown has = by d.config refl
    where
      by : (o : Option Settings) → d.config ≡ o → d.config ≡ None
      by None is = is
      by (Some s) is =
          let one : has_channel stage.reached ≡ true = ap (λ l. ltb 0 (length l)) (h.claims ∙ ap (map claim_of) (settings_are s is)) in absurd cc

  -- the channel of an event that is read for
  pub own_channel : (id : ℕ) → is_served stage.reached id ≡ true → (s : Settings) × (d.config ≡ Some s) × (s.channel.id ≡ id)
  own_channel id served = by d.config refl
    where
      by : (o : Option Settings) → d.config ≡ o → (s : Settings) × (d.config ≡ Some s) × (s.channel.id ≡ id)
      by None is = absurd (none_served stage.reached id stage.state h.mode (empty_now is) h.claims served)
      by (Some s) is = (s, is, served_id stage.reached s id stage.state h.mode (settings_are s is) h.claims served)

-- ---- an event

begun_is : (r reached : Reached) → ◌≡◌ {A = Result Reached LineFault} (Ok (record r { begun = true })) (Ok reached) → record r { begun = true } ≡ reached
begun_is r reached e = cc

module _ (d new : Dealt) (stage : Stage (List Served)) (e : Event) (s : Settings) (h : HasDealt d stage) (known : d.config ≡ Some s) (line : TraceLine) (is : IsEventOf s line e)
    (gives : with_line stage.reached line ≡ Ok d.state) (begins : with_line stage.reached line ≡ Ok (record stage.reached { begun = true })) (workers : new.workers ≡ d.workers) where
  abbrev later : Stage (List Served)
  later = record { reached = d.state; state = after_event (hub_event s.channel.id e) stage.state; events = stage.events + 1 }

  begun : record stage.reached { begun = true } ≡ d.state
  begun = begun_is stage.reached d.state (sym begins ∙ gives)

  channel : stage.state ≡ served s h.came ∷ []
  channel = h.state ∙ ap (λ (o : Option Settings). holding o h.came) known

  behind : later.state ≡ served s (e ∷ h.came) ∷ []
  behind = ap (after_event (hub_event s.channel.id e)) channel ∙ one_after s h.came e

  dealt_on : d.events < 200000 → HasTaken e d new → HasDealt new later
  dealt_on below t =
      let config : new.config ≡ Some s = t.config ∙ known in
      record {
        some = omega (arith, h.some, workers);
        most = omega (arith, h.most, workers);
        mode = ap (λ (r : Reached). r.mode) (sym begun) ∙ h.mode;
        came = e ∷ h.came;
        state = behind ∙ sym (ap (λ (o : Option Settings). holding o (e ∷ h.came)) config);
        idle = λ without. absurd (never s (sym config ∙ without));
        claims = ap (λ (r : Reached). r.channels) (sym begun) ∙ h.claims ∙ ap (λ (cs : List Served). map claim_of (settings_of cs)) channel ∙ sym (ap (λ (cs : List Served). map claim_of (settings_of cs)) behind);
        count = omega (arith, t.count, h.count, workers);
        lists = λ list.
            t.lists list ∙ ap (λ l. l ++ (if list_of d.workers e == list then e ∷ [] else [])) (h.lists list) ∙ sym (dealt_more d.workers list e h.came)
            ∙ ap (λ (w : ℕ). dealt w list (reverse (e ∷ h.came))) (sym workers);
        events = omega (arith, t.events, h.events);
        counted = omega (arith, h.counted);
        few = omega (arith, below, h.events);
        spelled = subst (λ (o : Option Settings). HaveLines o (e ∷ h.came)) (sym config) (is.has_line, subst (λ (o : Option Settings). HaveLines o h.came) known h.spelled);
      }
    where
      never : (s : Settings) → Some s ≡ None → ⊥
      never s e = absurd cc

  pub takes_event : (number : ℕ) (does : Does) → IsDealt e d new does → Took new stage (after_line threads stage d.state line (brought threads line)) number does
  takes_event number GoesOn t =
      let few : nat_lt stage.events 200000 ≡ true = lt-ltb stage.events 200000 (omega (arith, t.0, h.events)) in (
        later,
        ap (after_line threads stage d.state line) is.brings ∙ rw few refl,
        (t.1.state, dealt_on t.0 t.1),
      )
  takes_event number TooLong many =
      let full : nat_lt stage.events 200000 ≡ false = le-ltb stage.events 200000 (omega (arith, many, h.events)) in
      ap (after_line threads stage d.state line) is.brings ∙ rw full refl
  takes_event number Ends t = absurd t
  takes_event number (Refused fault) t = absurd t

-- ---- the other lines

-- where a line changes nothing but how far the trace has come
pub kept_dealt : (d new : Dealt) (stage later : Stage (List Served)) → HasDealt d stage → new.config ≡ d.config → new.lists ≡ d.lists → new.workers ≡ d.workers → new.events ≡ d.events
    → later.reached.mode ≡ Threads → later.state ≡ stage.state → later.reached.channels ≡ stage.reached.channels → later.events ≡ stage.events → HasDealt new later
kept_dealt d new stage later h config lists workers events mode state channels count = record {
  some = omega (arith, h.some, workers);
  most = omega (arith, h.most, workers);
  mode = mode;
  came = h.came;
  state = state ∙ h.state ∙ ap (λ (o : Option Settings). holding o h.came) (sym config);
  idle = λ without. h.idle (sym config ∙ without);
  claims = channels ∙ h.claims ∙ ap (λ (cs : List Served). map claim_of (settings_of cs)) (sym state);
  count = ap (λ v. length v.items) lists ∙ h.count ∙ ap (λ (w : ℕ). w + 2) (sym workers);
  lists = λ list. ap (λ v. slice_index_or (map (λ l. l.items) v.items) list []) lists ∙ h.lists list ∙ ap (λ (w : ℕ). dealt w list (reverse h.came)) (sym workers);
  events = events ∙ h.events ∙ sym count;
  counted = count ∙ h.counted;
  few = omega (arith, count, h.few);
  spelled = subst (λ (o : Option Settings). HaveLines o h.came) (sym config) h.spelled;
}

pub takes_head : (d new : Dealt) (stage : Stage (List Served)) (bytes : List ℕ) (version tick link number : ℕ) → Comes d bytes (head_line version tick link) stage → new.config ≡ d.config → new.lists ≡ d.lists → new.workers ≡ d.workers → new.events ≡ d.events
    → new.state ≡ d.state → Took new stage (after_line threads stage d.state (head_line version tick link) (brought threads (head_line version tick link))) number GoesOn
takes_head d new stage bytes version tick link number comes config lists workers events state =
    let taken = taken_so stage.reached bytes (head_line version tick link) d.state comes.comes in
    let next = inside (record stage.reached { head = Some (record { version = version; tick = tick; link = link }) }) d.state taken.accepts.gives in
    let later : Stage (List Served) = record { reached = d.state; state = stage.state; events = stage.events } in (
      later,
      refl,
      (
        state,
        kept_dealt d new stage later comes.before config lists workers events (ap (λ (r : Reached). r.mode) (sym next) ∙ comes.before.mode) refl (ap (λ (r : Reached). r.channels) (sym next)) refl,
      ),
    )
  where
    inside : (a b : Reached) → ◌≡◌ {A = Result Reached LineFault} (Ok a) (Ok b) → a ≡ b
    inside a b e = cc

pub takes_end : (d : Dealt) (stage : Stage (List Served)) (bytes : List ℕ) (number : ℕ) → Comes d bytes end_line stage → Took d stage (after_line threads stage d.state end_line (brought threads end_line)) number Ends
takes_end d stage bytes number comes = (refl, comes.before, (taken_so stage.reached bytes end_line d.state comes.comes).accepts.may)

-- a channel line comes where there is no channel yet
unopened : (r : Reached) (version : ℕ) (c : Channel) → r.mode ≡ Threads → may_come r (channel_line version c) ≡ true → has_channel r ≡ false
unopened r version c mode may = not_one (has_channel r) (subst (λ (m : Mode). not (has_one_channel m && has_channel r) ≡ true) mode (and_parts _ _ (and_parts _ _ (and_parts _ _ may).0).1).1)
  where
    not_one : (b : Bool) → not (true && b) ≡ true → b ≡ false
    not_one true e = absurd cc
    not_one false e = refl

-- the stage behind a channel line
abbrev opened_stage : Dealt → Stage (List Served) → Settings → Stage (List Served)
opened_stage d stage s = record { reached = d.state; state = stage.state ++ served (settings s.channel (tick_of d.state.head)) [] ∷ []; events = stage.events }

pub takes_channel : (d new : Dealt) (stage : Stage (List Served)) (bytes : List ℕ) (version number : ℕ) (s : Settings) → Comes d bytes (channel_line version s.channel) stage → s.tick ≡ tick_of d.state.head
    → new.config ≡ Some s → new.lists ≡ d.lists → new.workers ≡ d.workers → new.events ≡ d.events → new.state ≡ d.state
    → Took new stage (after_line threads stage d.state (channel_line version s.channel) (brought threads (channel_line version s.channel))) number GoesOn
takes_channel d new stage bytes version number s comes tick config lists workers events state = (opened_stage d stage s, refl, (state, left))
  where
    h : HasDealt d stage
    h = comes.before

    taken : IsTaken stage.reached bytes (channel_line version s.channel) d.state
    taken = taken_so stage.reached bytes (channel_line version s.channel) d.state comes.comes

    without : d.config ≡ None
    without = is_unknown d stage h (unopened stage.reached version s.channel h.mode taken.accepts.may)

    opened : (opened_stage d stage s).state ≡ served s h.came ∷ []
    opened =
        ap (λ (cs : List Served). cs ++ served (settings s.channel (tick_of d.state.head)) [] ∷ []) (empty_now d stage h without)
        ∙ ap (λ (n : ℕ). served (settings s.channel n) [] ∷ []) (sym tick) ∙ ap (λ (l : List Event). served s l ∷ []) (sym (h.idle without))

    joins : record stage.reached { channels = stage.reached.channels ++ claim s.channel ∷ [] } ≡ d.state
    joins = (channel_so stage.reached stage.reached.head s.channel d.state taken.accepts.gives).2.gives

    never : Some s ≡ None → ⊥
    never e = absurd cc

    left : HasDealt new (opened_stage d stage s)
    left = record {
      some = omega (arith, h.some, workers);
      most = omega (arith, h.most, workers);
      mode = ap (λ (r : Reached). r.mode) (sym joins) ∙ h.mode;
      came = h.came;
      state = opened ∙ sym (ap (λ (o : Option Settings). holding o h.came) config);
      idle = λ gone. absurd (never (sym config ∙ gone));
      claims = ap (λ (r : Reached). r.channels) (sym joins) ∙ ap (λ (ks : List Claim). ks ++ claim s.channel ∷ []) (h.claims ∙ ap (λ (cs : List Served). map claim_of (settings_of cs)) (empty_now d stage h without))
          ∙ sym (ap (λ (cs : List Served). map claim_of (settings_of cs)) opened);
      count = ap (λ v. length v.items) lists ∙ h.count ∙ ap (λ (w : ℕ). w + 2) (sym workers);
      lists = λ list. ap (λ v. slice_index_or (map (λ l. l.items) v.items) list []) lists ∙ h.lists list ∙ ap (λ (w : ℕ). dealt w list (reverse h.came)) (sym workers);
      events = events ∙ h.events;
      counted = h.counted;
      few = h.few;
      spelled = subst (λ (o : Option Settings). HaveLines o h.came) (sym config) (subst (λ (l : List Event). HaveLines (Some s) l) (sym (h.idle without)) tt);
    }

-- ---- which lines may come

has_one : (r : Reached) → ((not r.ended && (has_channel r && has_events r.mode)) && true) ≡ true → has_channel r ≡ true
has_one r may = (and_parts _ _ (and_parts _ _ (and_parts _ _ may).0).1).0

-- a tick comes to the channel
pub ticks : (d : Dealt) (stage : Stage (List Served)) (bytes : List ℕ) → Comes d bytes tick_line stage → (s : Settings) × (d.config ≡ Some s) × IsEventOf s tick_line event.Tick
ticks d stage bytes comes =
    let taken = taken_so stage.reached bytes tick_line d.state comes.comes in
    let known = is_known d stage comes.before (has_one stage.reached taken.accepts.may) in
    (known.0, known.1, record { brings = refl; has_line = taken.spelled })

pub takes_tick : (d new : Dealt) (stage : Stage (List Served)) (bytes : List ℕ) (number : ℕ) (does : Does) → Comes d bytes tick_line stage → new.workers ≡ d.workers → IsDealt event.Tick d new does
    → Took new stage (after_line threads stage d.state tick_line (brought threads tick_line)) number does
takes_tick d new stage bytes number does comes workers is =
    let taken = taken_so stage.reached bytes tick_line d.state comes.comes in
    let its = ticks d stage bytes comes in
    takes_event d new stage event.Tick its.0 comes.before its.1 tick_line its.2 taken.accepts.gives refl workers number does is

pub takes_live : (d new : Dealt) (stage : Stage (List Served)) (bytes hex : List ℕ) (id number : ℕ) (does : Does) → Comes d bytes (live_line id hex) stage → is_hex hex ≡ true → new.workers ≡ d.workers → IsDealt (event.Live (bytes_in hex)) d new does
    → Took new stage (after_line threads stage d.state (live_line id hex) (brought threads (live_line id hex))) number does
takes_live d new stage bytes hex id number does comes digits workers is =
    let taken = taken_so stage.reached bytes (live_line id hex) d.state comes.comes in
    let own = own_channel d stage comes.before id taken.served in
    takes_event d new stage (event.Live (bytes_in hex)) own.0 comes.before own.1 (live_line id hex) (live_is own.0 id hex own.2 digits taken.spelled) taken.accepts.gives refl workers number does is

pub takes_feedback : (d new : Dealt) (stage : Stage (List Served)) (bytes hex : List ℕ) (id client number : ℕ) (does : Does) → Comes d bytes (feedback_line id client hex) stage → is_hex hex ≡ true → new.workers ≡ d.workers
    → IsDealt (event.Feedback client (bytes_in hex)) d new does → Took new stage (after_line threads stage d.state (feedback_line id client hex) (brought threads (feedback_line id client hex))) number does
takes_feedback d new stage bytes hex id client number does comes digits workers is =
    let taken = taken_so stage.reached bytes (feedback_line id client hex) d.state comes.comes in
    let own = own_channel d stage comes.before id taken.served in
    takes_event d new stage (event.Feedback client (bytes_in hex)) own.0 comes.before own.1 (feedback_line id client hex) (feedback_is own.0 id client hex own.2 digits taken.spelled) taken.accepts.gives refl workers number does is

-- a line that may come is one of these
pub no_other : (d : Dealt) (stage : Stage (List Served)) (bytes : List ℕ) (l : Line) → Comes d bytes (shown l) stage → IsOther l → (P : Type 0)
    → ((version tick link : ℕ) → l ≡ line.Head version tick link → P) → ((id : ℕ) (hex : _) → l ≡ line.Live id hex → P) → ((id client : ℕ) (hex : _) → l ≡ line.Feedback id client hex → P) → (l ≡ line.Tick → P) → (l ≡ line.End → P) → P
no_other d stage bytes l comes other P head live feedback on_tick end = by l (taken_so stage.reached bytes (shown l) d.state comes.comes).accepts.may other head live feedback on_tick end
  where
    by : (k : Line) → may_come stage.reached (shown k) ≡ true → IsOther k → ((version tick link : ℕ) → k ≡ line.Head version tick link → P) → ((id : ℕ) (hex : _) → k ≡ line.Live id hex → P)
        → ((id client : ℕ) (hex : _) → k ≡ line.Feedback id client hex → P) → (k ≡ line.Tick → P) → (k ≡ line.End → P) → P
    by (line.Head version tick link) may other head live feedback on_tick end = head version tick link refl
    by (line.Channel version c) may other head live feedback on_tick end = absurd other
    by (line.Live id hex) may other head live feedback on_tick end = live id hex refl
    by (line.Feedback id client hex) may other head live feedback on_tick end = feedback id client hex refl
    by line.Tick may other head live feedback on_tick end = on_tick refl
    by line.End may other head live feedback on_tick end = end refl
    by (line.Tune id client ssrc) may other head live feedback on_tick end = absurd (no_receiver stage.reached comes.before.mode may)
    by (line.Give number) may other head live feedback on_tick end = absurd (no_receiver stage.reached comes.before.mode may)
    by (line.Mcast id client n) may other head live feedback on_tick end = absurd (no_receiver stage.reached comes.before.mode may)
    by (line.Ask id client) may other head live feedback on_tick end = absurd (no_receiver stage.reached comes.before.mode may)
    by (line.Drop id client) may other head live feedback on_tick end = absurd (no_receiver stage.reached comes.before.mode may)

-- how far the trace has come is no part of what is left
pub with_state : (d new : Dealt) (stage : Stage (List Served)) → HasDealt d stage → new.config ≡ d.config → new.lists ≡ d.lists → new.workers ≡ d.workers → new.events ≡ d.events → HasDealt new stage
with_state d new stage h config lists workers events = kept_dealt d new stage stage h config lists workers events h.mode refl refl refl
