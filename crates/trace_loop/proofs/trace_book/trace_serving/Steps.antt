-- What a line makes of a stage.
use Rattle.std.proofs.Common.{◌≡◌, ◌≢◌, inl, inr, ℕ, ◌+◌, ◌<◌, ◌≤◌, true, false, not, ◌&&◌, cond, List, [], ◌∷◌, ◌++◌, map, length, Option, Some, None, refl, ap, ap₂, sym, ◌∙◌, subst, arith, eqb, leb, ltb}
use Rattle.std.specs.Prelude.{All, Ok, sum_by, option_to_list, is_some}
use Rattle.std.specs.List.{list_any}
use Rattle.std.proofs.lemmas.Bool.{true≢false, cond_both, and_parts, or_parts, not-true, leb-true, ltb-true, ltb-false, eqb-false}
use Rattle.std.proofs.lemmas.List.{append-nil, length-map, map-append}
use Rattle.std.proofs.lemmas.List.Elements.{All-append, All-cons, All-nil}
use Rattle.std.proofs.lemmas.List.Sums.{sum_by-cons}
use Rattle.rams_model.specs.declared.Channel.{Channel}
use Rattle.rams_model.specs.Service.{Settings, settings, most_bytes, tick_in_range}
use Rattle.rams_model.specs.Texts.{TraceLine, head_line, channel_line, live_line, feedback_line, tick_line, end_line, tune_line, give_line, mcast_line, ask_line, drop_line, Reached, Head, Claim, tick_of, has_channel, has_version, has_one_channel, judged}
use Rattle.server_hub.specs.{ids_of, shares_of}
use Rattle.server_hub.proofs.Adding.{fit_more}
use Rattle.trace_loop.specs.trace_book.trace_serving.{Serving, Stage, Turn, goes_on, ends, opening, brought, too_long, eventless, after_line, counted, claim_of, IsHead, AreLawful, StandUnder, Stand, opened_all, new_state, opened_by, after_brought, IsIdle, IsStage, channel_of_line, head_of_line, after_all, events_text, EndsWith, is_too_long, is_done}
use Rattle.trace_loop.proofs.trace_book.trace_serving.Judged.{IsAccepted, IsJoined, channel_so, claim}

-- the channels of some settings
abbrev pub channels_in : List Settings → List Channel
channels_in all = map (λ x. x.channel) all

-- what came so far, with the event that a line brings
abbrev pub onto : {Event : Type 0} → Option Event → List Event → List Event
onto None came = came
onto (Some e) came = e ∷ came

-- What a line says: the event that it brings, the channel that it opens, the head that it is.
pub record Says (Event : Type 0) : Type 0 where
  pub event : Option Event
  pub channel : Option Channel
  pub head : Option Head

-- what went on went on to this
pub went_to : {State : Type 0} (stage later next : Stage State) (text more : List ℕ) → goes_on next more ≡ goes_on later text → next ≡ later
went_to {State} stage later next text more e = ap stage_in e
  where
    stage_in : Turn State → Stage State
    stage_in (goes_on s t) = s
    stage_in (ends o) = stage

-- a channel more
other_way : (id : ℕ) (all : List Settings) → list_any (λ k. eqb k.id id) (map claim_of all) ≡ false → All (λ k. k ≢ id) (ids_of all)
other_way id [] e = All-nil (λ k. k ≢ id)
other_way id (x ∷ all) e =
    let both = or_parts (eqb x.channel.id id) (list_any (λ k. eqb k.id id) (map claim_of all)) e in
    All-cons (λ k. k ≢ id) x.channel.id (ids_of all) (eqb-false x.channel.id id both.0) (other_way id all both.1)

pub shares_are : (all : List Settings) → sum_by (λ k. k.share) (map claim_of all) ≡ shares_of all
shares_are [] = refl
shares_are (x ∷ all) =
    sum_by-cons (λ (k : Claim). k.share) (claim_of x) (map claim_of all) ∙ ap (λ (n : ℕ). x.channel.share + n) (shares_are all)
    ∙ sym (sum_by-cons (λ (s : Settings). s.channel.share) x all)

stand_more : (head : Head) (r : Reached) (c : Channel) (later : Reached) (all : List Settings) → r.channels ≡ map claim_of all → StandUnder head all → IsJoined r head c later
    → StandUnder head (all ++ settings c head.tick ∷ [])
stand_more head r c later all claims u j =
    let x = settings c head.tick in
    let id_new = other_way c.id all (subst (λ (l : List Claim). list_any (λ k. eqb k.id c.id) l ≡ false) claims j.new) in
    let few : length all < 64 = omega (arith, j.few, ap length claims, length-map all claim_of) in
    let fits : shares_of all + c.share ≤ head.link = omega (arith, j.fits, ap (sum_by (λ (k : Claim). k.share)) claims, shares_are all) in
    record {
      is_head = u.is_head;
      fit = fit_more head.tick head.link all x u.fit few id_new fits refl;
      lawful = All-append AreLawful all (x ∷ []) u.lawful (All-cons AreLawful x [] j.lawful (All-nil AreLawful));
    }

-- the head line
no_channels : (o : Option Head) (all : List Settings) → is_some o ≡ false → Stand o all → all ≡ []
no_channels None all none stand = stand
no_channels (Some head) all none stand = absurd (true≢false none)

no_head : (o : Option Head) → is_some o ≡ false → option_to_list o ≡ []
no_head None none = refl
no_head (Some head) none = absurd (true≢false none)

-- no channels stand under any head line
stand_none : (head : Head) → IsHead head → StandUnder head []
stand_none head i = record {
  is_head = i;
  fit = record { few = omega arith; once = λ a b d less short. absurd (omega (arith, short)); shares = omega arith; ticks = All-nil (λ (x : Settings). x.tick ≡ head.tick) };
  lawful = All-nil AreLawful;
}

head_is : (version tick link : ℕ) → (tick_in_range tick && (leb 1500 link && leb link most_bytes)) ≡ true → IsHead (record { version = version; tick = tick; link = link })
head_is version tick link e =
    let both = and_parts (tick_in_range tick) (leb 1500 link && leb link most_bytes) e in
    let ticks = and_parts (leb 1 tick) (leb tick 1000) both.0 in
    let links = and_parts (leb 1500 link) (leb link most_bytes) both.1 in
    record {
      tick_least = leb-true 1 tick ticks.0;
      tick_most = leb-true tick 1000 ticks.1;
      link_least = leb-true 1500 link links.0;
      link_most = leb-true link most_bytes links.1;
    }

module _ {State Event : Type 0} (s : Serving State Event) where
  -- a channel more is opened last
  opens_last : (all : List Settings) (x : Settings) (state : State) → opened_all s (all ++ x ∷ []) state ≡ s.opened x (opened_all s all state)
  opens_last [] x state = refl
  opens_last (y ∷ all) x state = opens_last all x (s.opened y state)

  -- A trace has come to a stage after these events, the newest first, with this text.
  pub record Stands (stage : Stage State) (all : List Settings) (came : List Event) (text : List ℕ) : Type 0 where
    pub none : stage.reached.begun ≡ false → came ≡ []
    pub after : stage.state ≡ after_all s came (new_state s all)
    pub count : stage.events ≡ length came
    pub told : text ≡ events_text s came (new_state s all)

  abbrev pub says : TraceLine → Says Event
  says line = record { event = brought s line; channel = channel_of_line line; head = head_of_line line }

  -- A line that says this goes on with that.
  pub record Step (stage : Stage State) (all : List Settings) (said : Says Event) (next : Stage State) (more : List ℕ) : Type 0 where
    pub opens : Option Settings
    pub now : List Settings
    pub is_now : now ≡ all ++ option_to_list opens
    pub state : next.state ≡ after_brought s said.event (opened_by s opens stage.state)
    pub kept : IsStage s next now
    pub stands : (came : List Event) (text : List ℕ) → Stands stage all came text → Stands next now (onto said.event came) (text ++ more)
    pub opened : channels_in now ≡ channels_in all ++ option_to_list said.channel
    pub headed : option_to_list next.reached.head ≡ option_to_list stage.reached.head ++ option_to_list said.head

  -- So it is with a turn; and where the line ends the trace, it says why.
  abbrev pub Steps : Stage State → List Settings → TraceLine → Turn State → Type 0
  Steps stage all line (goes_on next more) = Step stage all (says line) next more
  Steps stage all line (ends o) =
      (bytes : List ℕ) (lines : List (List ℕ)) (number : ℕ) (reached : Reached) → judged stage.reached bytes ≡ Ok (line, reached) → EndsWith s stage number (bytes ∷ lines) o

  abbrev says_event : Option Event → Says Event
  says_event o = record { event = o; channel = None; head = None }

  abbrev says_channel : Channel → Says Event
  says_channel c = record { event = None; channel = Some c; head = None }

  abbrev says_head : Head → Says Event
  says_head head = record { event = None; channel = None; head = Some head }

  module _ (stage : Stage State) (all : List Settings) (i : IsStage s stage all) where
    -- An event is counted.
    abbrev with_event : Event → Stage State
    with_event e = record { reached = record stage.reached { begun = true }; state = s.after e stage.state; events = stage.events + 1 }

    event_stands : (e : Event) (came : List Event) (text : List ℕ) → Stands stage all came text → Stands (with_event e) all (e ∷ came) (text ++ s.text (stage.events + 1) e stage.state)
    unfolding after_all events_text
    event_stands e came text h = record {
      none = λ q. absurd (true≢false q);
      after = ap (s.after e) h.after;
      count = omega (arith, h.count);
      told = ap₂ (λ (x y : List ℕ). x ++ y) h.told (ap₂ (λ (n : ℕ) (state : State). s.text (n + 1) e state) h.count h.after);
    }

    event_steps : (e : Event) → stage.events < s.most → Step stage all (says_event (Some e)) (with_event e) (s.text (stage.events + 1) e stage.state)
    event_steps e less = record {
      opens = None;
      now = all;
      is_now = sym (append-nil all);
      state = refl;
      kept = record { mode = i.mode; unended = i.unended; claims = i.claims; stand = i.stand; idle = λ q. absurd (true≢false q); few = omega (arith, less) };
      stands = event_stands e;
      opened = sym (append-nil (channels_in all));
      headed = sym (append-nil (option_to_list stage.reached.head));
    }

    -- the line of an event
    counted_steps : (line : TraceLine) (e : Event) (later : Reached) → says line ≡ says_event (Some e) → record stage.reached { begun = true } ≡ later → Steps stage all line (counted s stage later e)
    counted_steps line e later said is =
        let next : Reached → Stage State = λ r. record { reached = r; state = s.after e stage.state; events = stage.events + 1 } in
        let text = s.text (stage.events + 1) e stage.state in
        let brings : brought s line ≡ Some e = ap (λ (said : Says Event). said.event) said in
        let fits = s.fits (s.after e stage.state) in
        cond_both (ltb stage.events s.most) (cond fits (goes_on (next later) text) (ends too_long)) (ends too_long) (Steps stage all line)
        (λ t.
        cond_both fits (goes_on (next later) text) (ends too_long) (Steps stage all line)
        (λ u.
        subst (λ (said : Says Event). Step stage all said (next later) text) (sym said)
        (subst (λ (r : Reached). Step stage all (says_event (Some e)) (next r) text) is (event_steps e (ltb-true stage.events s.most t))))
        (λ f bytes lines number reached j. is_too_long bytes lines line reached e j brings (inr f)))
        (λ f bytes lines number reached j. is_too_long bytes lines line reached e j brings (inl (omega (arith, i.few, ltb-false stage.events s.most f))))

    -- An event line that brings nothing.
    abbrev unserved : Reached → Stage State
    unserved r = record { reached = r; state = stage.state; events = stage.events }

    unserved_steps : Step stage all (says_event None) (unserved (record stage.reached { begun = true })) []
    unserved_steps = record {
      opens = None;
      now = all;
      is_now = sym (append-nil all);
      state = refl;
      kept = record { mode = i.mode; unended = i.unended; claims = i.claims; stand = i.stand; idle = λ q. absurd (true≢false q); few = i.few };
      stands = λ came text h. record { none = λ q. absurd (true≢false q); after = h.after; count = h.count; told = append-nil text ∙ h.told };
      opened = sym (append-nil (channels_in all));
      headed = sym (append-nil (option_to_list stage.reached.head));
    }

    event_line_steps : (line : TraceLine) (o : Option Event) (later : Reached) → says line ≡ says_event o → record stage.reached { begun = true } ≡ later
        → eventless s stage later line ≡ goes_on (unserved later) [] → Steps stage all line (after_line s stage later line o)
    event_line_steps line None later said is silent =
        subst (Steps stage all line) (sym silent)
        (subst (λ (said : Says Event). Step stage all said (unserved later) []) (sym said)
        (subst (λ (r : Reached). Step stage all (says_event None) (unserved r) []) is unserved_steps))
    event_line_steps line (Some e) later said is silent = counted_steps line e later said is

    -- A channel's line comes under a head line, before any event.
    module _ (c : Channel) (head : Head) (headed : stage.reached.head ≡ Some head) (begun : stage.reached.begun ≡ false) (j : IsJoined stage.reached head c (record stage.reached { channels = stage.reached.channels ++ claim c ∷ [] })) where
      abbrev one : Settings
      one = settings c (tick_of stage.reached.head)

      abbrev with_one : Stage State
      with_one = record { reached = record stage.reached { channels = stage.reached.channels ++ claim c ∷ [] }; state = s.opened one stage.state; events = stage.events }

      idle_with : IsIdle s with_one (all ++ one ∷ [])
      idle_with = record { events = (i.idle begun).events; state = ap (s.opened one) (i.idle begun).state ∙ sym (opens_last all one s.start) }

      channel_keeps : IsStage s with_one (all ++ one ∷ [])
      channel_keeps = record {
        mode = i.mode;
        unended = i.unended;
        claims = ap (λ (l : List Claim). l ++ claim c ∷ []) i.claims ∙ sym (map-append claim_of all (one ∷ []));
        stand =
            let u : StandUnder head all = subst (λ (o : Option Head). Stand o all) headed i.stand in
            let tick : tick_of stage.reached.head ≡ head.tick = ap tick_of headed in
            subst (λ (o : Option Head). Stand o (all ++ one ∷ [])) (sym headed)
            (subst (λ (n : ℕ). StandUnder head (all ++ settings c n ∷ [])) (sym tick) (stand_more head stage.reached c _ all i.claims u j));
        idle = λ q. idle_with;
        few = i.few;
      }

      channel_stands : (came : List Event) (text : List ℕ) → Stands stage all came text → Stands with_one (all ++ one ∷ []) came (text ++ [])
      unfolding after_all events_text
      channel_stands came text h =
          let none = h.none begun in
          let now = new_state s (all ++ one ∷ []) in
          record {
            none = λ q. none;
            after = idle_with.state ∙ sym (ap (λ (l : List Event). after_all s l now) none);
            count = h.count;
            told = append-nil text ∙ h.told ∙ ap (λ (l : List Event). events_text s l (new_state s all)) none ∙ sym (ap (λ (l : List Event). events_text s l now) none);
          }

      channel_steps : Step stage all (says_channel c) with_one []
      channel_steps = record {
        opens = Some one;
        now = all ++ one ∷ [];
        is_now = refl;
        state = refl;
        kept = channel_keeps;
        stands = channel_stands;
        opened = map-append (λ (x : Settings). x.channel) all (one ∷ []);
        headed = sym (append-nil (option_to_list stage.reached.head));
      }

    abbrev with_head : Head → Stage State
    with_head head = record { reached = record stage.reached { head = Some head }; state = stage.state; events = stage.events }

    head_steps : (head : Head) → is_some stage.reached.head ≡ false → IsHead head → Step stage all (says_head head) (with_head head) []
    head_steps head none is = record {
      opens = None;
      now = all;
      is_now = sym (append-nil all);
      state = refl;
      kept = record {
        mode = i.mode;
        unended = i.unended;
        claims = i.claims;
        stand = subst (StandUnder head) (sym (no_channels stage.reached.head all none i.stand)) (stand_none head is);
        idle = λ q. record { events = (i.idle q).events; state = (i.idle q).state };
        few = i.few;
      };
      stands = λ came text h. record { none = h.none; after = h.after; count = h.count; told = append-nil text ∙ h.told };
      opened = sym (append-nil (channels_in all));
      headed = ap (λ (l : List Head). l ++ head ∷ []) (sym (no_head stage.reached.head none));
    }

    -- each line
    pub steps : (line : TraceLine) (later : Reached) → IsAccepted stage.reached line later → Steps stage all line (after_line s stage later line (brought s line))
    steps (head_line version tick link) later a =
        let r = stage.reached in
        let head : Head = record { version = version; tick = tick; link = link } in
        let first = and_parts (not r.ended && not (is_some r.head)) true a.may in
        let none = not-true (is_some r.head) (and_parts (not r.ended) (not (is_some r.head)) first.0).1 in
        let is : record r { head = Some head } ≡ later = cc (a.gives) in
        subst (λ (x : Reached). Step stage all (says_head head) (record { reached = x; state = stage.state; events = stage.events }) []) is
        (head_steps head none (head_is version tick link a.in_range))
    steps (channel_line version c) later a =
        let r = stage.reached in
        let first = and_parts (not r.ended && (is_some r.head && not r.begun && not (has_one_channel r.mode && has_channel r))) (has_version r (channel_line version c)) a.may in
        let next = and_parts (not r.ended) (is_some r.head && not r.begun && not (has_one_channel r.mode && has_channel r)) first.0 in
        let more = and_parts (is_some r.head && not r.begun) (not (has_one_channel r.mode && has_channel r)) next.1 in
        let begun = not-true r.begun (and_parts (is_some r.head) (not r.begun) more.0).1 in
        let found = channel_so r r.head c later a.gives in
        let join = found.2 in
        let j : IsJoined r found.0 c (record r { channels = r.channels ++ claim c ∷ [] }) =
        record { new = join.new; lawful = join.lawful; fits = join.fits; few = join.few; gives = refl } in
        subst (λ (x : Reached). Step stage all (says_channel c) (record { reached = x; state = s.opened (settings c (tick_of x.head)) stage.state; events = stage.events }) []) join.gives
        (channel_steps c found.0 found.1 begun j)
    steps (live_line id hex) later a = event_line_steps (live_line id hex) (s.event_of (live_line id hex)) later refl (cc (a.gives)) refl
    steps (feedback_line id client hex) later a = event_line_steps (feedback_line id client hex) (s.event_of (feedback_line id client hex)) later refl (cc (a.gives)) refl
    steps tick_line later a = event_line_steps tick_line (s.event_of tick_line) later refl (cc (a.gives)) refl
    steps end_line later a = λ bytes lines number reached j. is_done bytes lines reached j
    steps (tune_line id client ssrc) later a = event_line_steps (tune_line id client ssrc) (s.event_of (tune_line id client ssrc)) later refl (cc (a.gives)) refl
    steps (give_line n) later a = event_line_steps (give_line n) (s.event_of (give_line n)) later refl (cc (a.gives)) refl
    steps (mcast_line id client n) later a = event_line_steps (mcast_line id client n) (s.event_of (mcast_line id client n)) later refl (cc (a.gives)) refl
    steps (ask_line id client) later a = event_line_steps (ask_line id client) (s.event_of (ask_line id client)) later refl (cc (a.gives)) refl
    steps (drop_line id client) later a = event_line_steps (drop_line id client) (s.event_of (drop_line id client)) later refl (cc (a.gives)) refl

  pub opening_stage : IsStage s (opening s) []
  opening_stage = record {
    mode = refl;
    unended = refl;
    claims = refl;
    stand = refl;
    idle = λ q. record { events = refl; state = refl };
    few = omega arith;
  }

  pub opening_stands : Stands (opening s) [] [] []
  unfolding after_all events_text
  opening_stands = record { none = λ q. refl; after = refl; count = refl; told = refl }
