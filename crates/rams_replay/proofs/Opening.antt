-- The turns of lines that bring no event.
use Rattle.std.proofs.Common.{◌≡◌, ℕ, true, List, [], ◌∷◌, ◌++◌, Option, None, Some, Ok, is_some, refl, sym, subst, ap, ◌∙◌}
use Rattle.std.specs.Prelude.{IsSomeAnd}
use Rattle.std.proofs.lemmas.Bool.{and_parts}
use Rattle.std.proofs.lemmas.List.{map-append}
use Rattle.rams_model.specs.Service.{Settings, settings}
use Rattle.rams_model.specs.Texts.{head_line, channel_line, Claim, Head, Reached, tick_of}
use Rattle.server_hub.specs.{AllServe, new_hub, refused, served}
use Rattle.server_hub.specs.Seen.{Seen}
use Rattle.server_hub.specs.Served.{Served}
use Rattle.trace_loop.proofs.trace_book.trace_serving.Judged.{IsAccepted, accepted_so, channel_so, IsJoined}
use Rattle.trace_loop.specs.trace_book.trace_serving.{Stage, eventless}
use Rattle.trace_loop.specs.declared.Turn.TheVariants.{GoesOn}
use Rattle.trace_loop.specs.trace_book.{run}
use Rattle.trace_loop.specs.head_loop.{CanOpen, OpensIn, claim_of}
use Rattle.trace_loop.specs.trace_book.Stages.{settings_of as settings_all}
use Rattle.trace_loop.proofs.head_loop.Channels.{settings_stand}
use Rattle.trace_loop.proofs.head_loop.Claims.{claims_are, fits, none_before}
use Rattle.trace_loop.proofs.head_loop.Opening.{Bounded, bounded, later_head}
use Rattle.rams_replay.specs.{Stands, Comes, Took}
use Rattle.takeover.specs.standby.{HubServes, Serves}

-- the hub serves under this head line
served_under : (hub : Option Seen) (events : ℕ) (stage : Stage (List Served)) (head : Head) → Stands hub events stage.reached stage → stage.reached.head ≡ Some head → HubServes hub (Some head) stage.state stage.events
served_under hub events stage head stands is = subst (λ (h : Option Head). HubServes hub h stage.state stage.events) is stands.served

-- the channel can be opened
pub opens_next : (hub : Option Seen) (events version : ℕ) (later : Reached) (s : Settings) (stage : Stage (List Served)) → s.tick ≡ tick_of later.head → Comes hub events later (channel_line version s.channel) stage
    → IsSomeAnd hub (λ v. CanOpen v s)
opens_next hub events version later s stage tick comes =
    let j = channel_so stage.reached stage.reached.head s.channel later (accepted_so stage.reached (channel_line version s.channel) later comes.comes).gives in
    by j.0 j.1 j.2 hub (served_under hub events stage j.0 comes.before j.1)
  where
    by : (head : Head) → stage.reached.head ≡ Some head → IsJoined stage.reached head s.channel later → (o : Option Seen) → HubServes o (Some head) stage.state stage.events → IsSomeAnd o (λ v. CanOpen v s)
    by head is j None serves = absurd serves
    by head is j (Some v) serves =
        let same : s.tick ≡ v.tick = tick ∙ (ap tick_of (later_head stage.reached later head s.channel j is) ∙ sym serves.tick) in
        let fit = fits v stage.reached (settings_all stage.state) (comes.before.claims ∙ claims_are stage.state) (settings_stand v stage.state serves.stands) later head s.channel j serves.link in
        record { tick = same; fits = subst (λ (n : ℕ). refused v (settings s.channel n) ≡ None) (sym same) fit }

-- what stands behind the line of a channel
pub opened_turn : (hub new : Option Seen) (events version number : ℕ) (later : Reached) (s : Settings) (stage : Stage (List Served)) → s.tick ≡ tick_of later.head → OpensIn s hub new
    → Comes hub events later (channel_line version s.channel) stage → Took (eventless run stage later (channel_line version s.channel)) new events later number GoesOn
opened_turn None new events version number later s stage tick opens comes = absurd opens
opened_turn (Some v) None events version number later s stage tick opens comes = absurd opens
opened_turn (Some v) (Some w) events version number later s stage tick opens comes =
    let r = stage.reached in
    let c = s.channel in
    let j = channel_so r r.head c later (accepted_so r (channel_line version c) later comes.comes).gives in
    let at : Serves v j.0 stage.state stage.events = served_under (Some v) events stage j.0 comes.before j.1 in
    let head = later_head r later j.0 c j.2 j.1 in
    let more = stage.state ++ served (settings c (tick_of later.head)) [] ∷ [] in
    let stands = subst (λ (n : ℕ). AllServe w.channels (stage.state ++ served (settings c n) [] ∷ [])) tick (opens.stands stage.state at.stands) in (
      record {
        served = subst (λ (h : Option Head). HubServes (Some w) h more stage.events) (sym head)
            (record { stands = stands; tick = opens.tick ∙ at.tick; link = opens.link ∙ at.link; calls = opens.calls ∙ at.calls });
        claims =
            ap (λ (x : Reached). x.channels) (sym j.2.gives) ∙ ap (λ (l : List Claim). l ++ (record { id = c.id; share = c.share } ∷ [])) comes.before.claims
            ∙ sym (map-append claim_of stage.state (served (settings c (tick_of later.head)) [] ∷ []));
        counted = comes.before.counted;
        lines = refl;
      },
      refl,
      refl,
    )

-- the head line gives the hub
pub head_turn : (hub : Option Seen) (events version tick link number : ℕ) (later : Reached) (stage : Stage (List Served)) → Comes hub events later (head_line version tick link) stage
    → Took (eventless run stage later (head_line version tick link)) (Some (new_hub tick link)) events later number GoesOn
head_turn hub events version tick link number later stage comes = (by hub stage.reached.head refl comes.before.served, refl, refl)
  where
    parts : IsAccepted stage.reached (head_line version tick link) later
    parts = accepted_so stage.reached (head_line version tick link) later comes.comes

    later_is : record stage.reached { head = Some (record { version = version; tick = tick; link = link }) } ≡ later
    later_is =
        let does : Ok (record stage.reached { head = Some (record { version = version; tick = tick; link = link }) }) ≡ Ok later = parts.gives in
        cc

    by : (o : Option Seen) (h : Option Head) → stage.reached.head ≡ h → HubServes o h stage.state stage.events
        → Stands (Some (new_hub tick link)) events later (record { reached = later; state = stage.state; events = stage.events })
    by None None is serves = record {
      served = subst (λ (h : Option Head). HubServes (Some (new_hub tick link)) h stage.state stage.events) (ap (λ (x : Reached). x.head) later_is)
          (record { stands = subst (λ (l : List Served). AllServe [] l) (sym serves.0) tt; tick = refl; link = refl; calls = sym serves.1 });
      claims = ap (λ (x : Reached). x.channels) (sym later_is) ∙ comes.before.claims;
      counted = comes.before.counted;
      lines = refl;
    }
    by (Some v) None is serves = absurd serves
    by o (Some head) is serves =
        let none = none_before stage.reached.ended (is_some stage.reached.head) (and_parts _ _ parts.may).0 in
        let some : is_some stage.reached.head ≡ true = ap is_some is in
        absurd cc

pub head_bounds : (hub : Option Seen) (events version tick link : ℕ) (later : Reached) (stage : Stage (List Served)) → Comes hub events later (head_line version tick link) stage → Bounded tick link
head_bounds hub events version tick link later stage comes =
    bounded version tick link (accepted_so stage.reached (head_line version tick link) later comes.comes).in_range
