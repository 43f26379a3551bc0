-- What the lines of a head open.
use Rattle.std.proofs.Common.{◌≡◌, ℕ, ◌≤◌, true, false, not, List, [], ◌∷◌, ◌++◌, length, Option, None, Some, Ok, is_some, refl, sym, subst, ap, ◌∙◌, arith, length-append}
use Rattle.std.specs.Prelude.{IsSomeAnd}
use Rattle.std.proofs.lemmas.Bool.{and_parts, leb-true}
use Rattle.std.proofs.lemmas.List.{length-map, map-append}
use Rattle.rams_model.specs.declared.{Channel.Channel, Mode.TheVariants.Serve}
use Rattle.rams_model.specs.declared.LineKind.TheVariants as kind
use Rattle.rams_model.specs.Service.{Settings, settings}
use Rattle.rams_model.specs.Texts.{TraceLine, head_line, channel_line, end_line, line_in_range, Claim, Head, Reached, tick_of, may_come, may_come_next, kind_may_come, has_events, has_receivers, has_channel}
use Rattle.server_hub.specs.{AllServe, new_hub, served}
use Rattle.server_hub.specs.Seen.{Seen}
use Rattle.server_hub.specs.Served.{Served}
use Rattle.trace_loop.specs.trace_book.trace_serving.{Stage, eventless, done, ends}
use Rattle.trace_loop.specs.trace_book.{run}
use Rattle.trace_loop.specs.trace_book.Stages.{settings_of as settings_all}
use Rattle.trace_loop.proofs.trace_book.trace_serving.Judged.{IsAccepted, IsJoined, judged_so, channel_so}
use Rattle.trace_lines.specs.declared.Line.{Line}
use Rattle.trace_lines.specs.{shown}
use Rattle.trace_lines.specs.declared.Line.TheVariants as line
use Rattle.trace_text.specs.{IsOther}
use Rattle.trace_loop.specs.declared.head_loop.head.HeadLine.TheVariants.{GoesOn, Ends}
use Rattle.trace_loop.specs.head_loop.{HasOpened, HubServes, Serves, CanOpen, OpensIn, Comes, Took, claim_of}
use Rattle.trace_loop.proofs.head_loop.Channels.{settings_stand, numbers_append, numbers_length}
use Rattle.trace_loop.proofs.head_loop.Claims.{claims_are, fits, none_before}

-- the line was accepted
pub accepted_so : (hub : Option Seen) (ids : List ℕ) (reached : Reached) (read : TraceLine) (stage : Stage (List Served)) → Comes hub ids reached read stage → IsAccepted stage.reached read reached
accepted_so hub ids reached read stage comes = (judged_so stage.reached comes.bytes read reached comes.comes).accepts

-- the head line is still that of the trace
pub later_head : (r later : Reached) (head : Head) (c : Channel) → IsJoined r head c later → r.head ≡ Some head → later.head ≡ Some head
later_head r later head c j is = ap (λ (x : Reached). x.head) (sym j.gives) ∙ is

-- the hub serves under this head line
served_under : (hub : Option Seen) (stage : Stage (List Served)) (ids : List ℕ) (head : Head) → HasOpened hub ids stage → stage.reached.head ≡ Some head → HubServes hub (Some head) stage.state
served_under hub stage ids head opened is = subst (λ (h : Option Head). HubServes hub h stage.state) is opened.served

-- the channel can be opened
pub opens_next : (hub : Option Seen) (ids : List ℕ) (version : ℕ) (later : Reached) (s : Settings) (stage : Stage (List Served)) → s.tick ≡ tick_of later.head → Comes hub ids later (channel_line version s.channel) stage
    → IsSomeAnd hub (λ v. CanOpen v s)
opens_next hub ids version later s stage tick comes =
    let j = channel_so stage.reached stage.reached.head s.channel later (accepted_so hub ids later (channel_line version s.channel) stage comes).gives in
    by j.0 j.1 j.2 hub (served_under hub stage ids j.0 comes.before j.1)
  where
    by : (head : Head) → stage.reached.head ≡ Some head → IsJoined stage.reached head s.channel later → (o : Option Seen) → HubServes o (Some head) stage.state → IsSomeAnd o (λ v. CanOpen v s)
    by head is j None serves = absurd serves
    by head is j (Some v) serves =
        record { tick = tick ∙ (ap tick_of (ap (λ (x : Reached). x.head) (sym j.gives) ∙ is) ∙ sym serves.tick); fits = fits v stage.reached (settings_all stage.state) (comes.before.claims ∙ claims_are stage.state) (settings_stand v stage.state serves.stands) later head s.channel j serves.link }

-- what stands behind the line of a channel
pub opened_turn : (hub new : Option Seen) (ids : List ℕ) (version number : ℕ) (later : Reached) (s : Settings) (stage : Stage (List Served)) → s.tick ≡ tick_of later.head → OpensIn s hub new
    → Comes hub ids later (channel_line version s.channel) stage → Took stage (eventless run stage later (channel_line version s.channel)) new (ids ++ s.channel.id ∷ []) later number GoesOn
opened_turn None new ids version number later s stage tick opens comes = absurd opens
opened_turn (Some v) None ids version number later s stage tick opens comes = absurd opens
opened_turn (Some v) (Some w) ids version number later s stage tick opens comes =
    let c = s.channel in
    let j = channel_so stage.reached stage.reached.head c later (accepted_so (Some v) ids later (channel_line version c) stage comes).gives in
    let at : Serves v j.0 stage.state = served_under (Some v) stage ids j.0 comes.before j.1 in
    let head : later.head ≡ Some j.0 = later_head stage.reached later j.0 c j.2 j.1 in
    let one = served (settings c (tick_of later.head)) [] in
    let more = stage.state ++ one ∷ [] in
    let stands = subst (λ (n : ℕ). AllServe w.channels (stage.state ++ served (settings c n) [] ∷ [])) tick (opens.stands stage.state at.stands) in
    let ids_are = comes.before.ids_are in
    let few = j.2.few in
    let claimed = ap length comes.before.claims ∙ length-map stage.state claim_of in
    let many = ap length ids_are ∙ numbers_length stage.state in (
      record { reached = later; state = more; events = stage.events },
      refl,
      (
        refl,
        record {
          served = subst (λ (h : Option Head). HubServes (Some w) h more) (sym head)
              (record { stands = stands; tick = opens.tick ∙ at.tick; link = opens.link ∙ at.link; calls = opens.calls ∙ at.calls });
          claims =
              ap (λ (x : Reached). x.channels) (sym j.2.gives) ∙ ap (λ (l : List Claim). l ++ (record { id = c.id; share = c.share } ∷ [])) comes.before.claims
              ∙ sym (map-append claim_of stage.state (one ∷ []));
          mode = ap (λ (x : Reached). x.mode) (sym j.2.gives) ∙ comes.before.mode;
          events = comes.before.events;
          ids_are = ap (λ l. l ++ c.id ∷ []) ids_are ∙ sym (numbers_append stage.state one);
          few = omega (arith, few, claimed, many, length-append ids (c.id ∷ []));
        },
      ),
    )

-- the head line gives the hub
pub head_turn : (hub : Option Seen) (ids : List ℕ) (version tick link number : ℕ) (later : Reached) (stage : Stage (List Served)) → Comes hub ids later (head_line version tick link) stage
    → Took stage (eventless run stage later (head_line version tick link)) (Some (new_hub tick link)) ids later number GoesOn
head_turn hub ids version tick link number later stage comes =
    (record { reached = later; state = stage.state; events = stage.events }, refl, (refl, by hub stage.reached.head refl comes.before.served))
  where
    so : IsAccepted stage.reached (head_line version tick link) later
    so = accepted_so hub ids later (head_line version tick link) stage comes

    later_is : record stage.reached { head = Some (record { version = version; tick = tick; link = link }) } ≡ later
    later_is =
        let does : Ok (record stage.reached { head = Some (record { version = version; tick = tick; link = link }) }) ≡ Ok later = so.gives in
        cc

    by : (o : Option Seen) (h : Option Head) → stage.reached.head ≡ h → HubServes o h stage.state
        → HasOpened (Some (new_hub tick link)) ids (record { reached = later; state = stage.state; events = stage.events })
    by None None is serves = record {
      served = subst (λ (h : Option Head). HubServes (Some (new_hub tick link)) h stage.state) (ap (λ (x : Reached). x.head) later_is)
          (record { stands = subst (λ (l : List Served). AllServe [] l) (sym serves) tt; tick = refl; link = refl; calls = refl });
      claims = ap (λ (x : Reached). x.channels) (sym later_is) ∙ comes.before.claims;
      mode = ap (λ (x : Reached). x.mode) (sym later_is) ∙ comes.before.mode;
      events = comes.before.events;
      ids_are = comes.before.ids_are;
      few = comes.before.few;
    }
    by (Some v) None is serves = absurd serves
    by o (Some head) is serves =
        let none = none_before stage.reached.ended (is_some stage.reached.head) (and_parts _ _ so.may).0 in
        let some : is_some stage.reached.head ≡ true = ap is_some is in
        absurd cc

-- `end`
pub end_turn : (hub : Option Seen) (ids : List ℕ) (number : ℕ) (later : Reached) (stage : Stage (List Served)) → Comes hub ids later end_line stage → Took stage (eventless run stage later end_line) hub ids later number Ends
end_turn hub ids number later stage comes = (ap (λ n. ends (done n)) comes.before.events, comes.before, (accepted_so hub ids later end_line stage comes).may)

-- What the head line says is in its range.
pub record Bounded (tick link : ℕ) : Type 0 where
  pub tick_least : 1 ≤ tick
  pub tick_most : tick ≤ 1000
  pub link_least : 1500 ≤ link
  pub link_most : link ≤ 1000000000

pub bounded : (version tick link : ℕ) → line_in_range (head_line version tick link) ≡ true → Bounded tick link
bounded version tick link h =
    let both = and_parts _ _ h in
    let ticks = and_parts _ _ both.0 in
    let links = and_parts _ _ both.1 in
    record { tick_least = leb-true 1 tick ticks.0; tick_most = leb-true tick 1000 ticks.1; link_least = leb-true 1500 link links.0; link_most = leb-true link 1000000000 links.1 }

pub head_bounds : (hub : Option Seen) (ids : List ℕ) (version tick link : ℕ) (later : Reached) (stage : Stage (List Served)) → Comes hub ids later (head_line version tick link) stage → Bounded tick link
head_bounds hub ids version tick link later stage comes = bounded version tick link (accepted_so hub ids later (head_line version tick link) stage comes).in_range

-- a head has no event of a server or of a receiver
never_event : (r : Reached) → r.mode ≡ Serve → kind_may_come r kind.Event ≡ true → ⊥
never_event r serve may =
    let has : has_events r.mode ≡ true = (and_parts (has_channel r) (has_events r.mode) (and_parts (not r.ended) (may_come_next r kind.Event) may).1).1 in
    let none : has_events r.mode ≡ false = ap has_events serve in
    absurd cc

never_receiver : (r : Reached) → r.mode ≡ Serve → kind_may_come r kind.ReceiverEvent ≡ true → ⊥
never_receiver r serve may =
    let has : has_receivers r.mode ≡ true = (and_parts (has_channel r) (has_receivers r.mode) (and_parts (not r.ended) (may_come_next r kind.ReceiverEvent) may).1).1 in
    let none : has_receivers r.mode ≡ false = ap has_receivers serve in
    absurd cc

pub no_other : (hub : Option Seen) (ids : List ℕ) (later : Reached) (stage : Stage (List Served)) (l : Line) → Comes hub ids later (shown l) stage → IsOther l → (P : Type 0)
    → ((version tick link : ℕ) → l ≡ line.Head version tick link → P) → (l ≡ line.End → P) → P
no_other hub ids later stage l comes other P head end = by l (accepted_so hub ids later (shown l) stage comes).may other head end
  where
    by : (k : Line) → may_come stage.reached (shown k) ≡ true → IsOther k → ((version tick link : ℕ) → k ≡ line.Head version tick link → P) → (k ≡ line.End → P) → P
    by (line.Head version tick link) may other head end = head version tick link refl
    by (line.Channel version c) may other head end = absurd other
    by (line.Live id hex) may other head end = absurd (never_event stage.reached comes.before.mode (and_parts _ _ may).0)
    by (line.Feedback id client hex) may other head end = absurd (never_event stage.reached comes.before.mode (and_parts _ _ may).0)
    by line.Tick may other head end = absurd (never_event stage.reached comes.before.mode (and_parts _ _ may).0)
    by line.End may other head end = end refl
    by (line.Tune id client ssrc) may other head end = absurd (never_receiver stage.reached comes.before.mode (and_parts _ _ may).0)
    by (line.Give number) may other head end = absurd (never_receiver stage.reached comes.before.mode (and_parts _ _ may).0)
    by (line.Mcast id client n) may other head end = absurd (never_receiver stage.reached comes.before.mode (and_parts _ _ may).0)
    by (line.Ask id client) may other head end = absurd (never_receiver stage.reached comes.before.mode (and_parts _ _ may).0)
    by (line.Drop id client) may other head end = absurd (never_receiver stage.reached comes.before.mode (and_parts _ _ may).0)
