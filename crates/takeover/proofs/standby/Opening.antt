-- The turns of lines that open a hub and its channels.
use Rattle.std.proofs.Common.{◌≡◌, ℕ, ◌<◌, true, List, [], ◌∷◌, ◌++◌, length, Option, None, Some, Result, Ok, is_some, refl, sym, subst, ap, ◌∙◌, arith}
use Rattle.std.specs.Prelude.{IsSomeAnd}
use Rattle.std.proofs.lemmas.Bool.{and_parts}
use Rattle.std.proofs.lemmas.List.{length-map, map-append}
use Rattle.rams_model.specs.declared.{LineFault.LineFault, Mode.TheVariants.Run}
use Rattle.rams_model.specs.Service.{Settings, settings}
use Rattle.rams_model.specs.Texts.{head_line, channel_line, line_in_range, Claim, Head, Reached, tick_of, accepted, may_come, with_reached}
use Rattle.server_hub.specs.{AllServe, new_hub, refused, served}
use Rattle.server_hub.specs.Seen as hubs
use Rattle.server_hub.specs.Served.{Served}
use Rattle.trace_loop.proofs.trace_book.trace_serving.Judged.{IsJoined, accepted_so, channel_so}
use Rattle.trace_loop.specs.trace_book.trace_serving.{Stage, goes_on, after_judging}
use Rattle.trace_loop.specs.trace_book.{run, settings_of}
use Rattle.trace_loop.specs.trace_book.Stages.{settings_of as settings_all}
use Rattle.trace_loop.specs.head_loop.{CanOpen, OpensIn, claim_of}
use Rattle.trace_loop.proofs.head_loop.Channels.{settings_stand, numbers_append}
use Rattle.trace_loop.proofs.head_loop.Claims.{claims_are, fits, none_before}
use Rattle.trace_loop.proofs.head_loop.Opening.{later_head}
use Rattle.takeover.specs.declared.standby.fault.Step.TheVariants.{GoesOn}
use Rattle.takeover.specs.standby.{HubServes, Stands, Took, turn_of}
use Rattle.takeover.proofs.standby.Turning.{accepts}

-- the head line gives the hub
pub head_turn : (hub : Option hubs.Seen) (ids : List ℕ) (events version tick link number : ℕ) (r later : Reached) (stage : Stage (List Served)) → Stands hub ids events r stage
    → may_come r (head_line version tick link) ≡ true → line_in_range (head_line version tick link) ≡ true → accepted r (head_line version tick link) ≡ Ok later
    → Took (Ok GoesOn) (turn_of stage number (head_line version tick link)) (Stands (Some (new_hub tick link)) ids events later) number
head_turn hub ids events version tick link number r later stage stands may in_range does =
    (record { reached = there; state = stage.state; events = stage.events }, [], turn_is, by hub stage.reached.head refl stands.serves)
  where
    there : Reached
    there = record stage.reached { head = Some (record { version = version; tick = tick; link = link }) }

    mode : stage.reached.mode ≡ Run
    mode = ap (λ (x : Reached). x.mode) (sym stands.lines) ∙ stands.mode

    may_there : may_come stage.reached (head_line version tick link) ≡ true
    may_there = subst (λ (x : Reached). may_come x (head_line version tick link) ≡ true) stands.lines may

    accepted_there : accepted stage.reached (head_line version tick link) ≡ Ok there
    accepted_there = accepts stage.reached (head_line version tick link) mode may_there in_range

    turn_is : turn_of stage number (head_line version tick link) ≡ goes_on (record { reached = there; state = stage.state; events = stage.events }) []
    turn_is = ap (λ (o : Result Reached LineFault). after_judging run stage number (with_reached (head_line version tick link) o)) accepted_there

    later_is : there ≡ later
    later_is =
        let both : Ok there ≡ Ok later = sym accepted_there ∙ subst (λ (x : Reached). accepted x (head_line version tick link) ≡ Ok later) stands.lines does in
        cc

    by : (o : Option hubs.Seen) (h : Option Head) → stage.reached.head ≡ h → HubServes o h stage.state stage.events
        → Stands (Some (new_hub tick link)) ids events later (record { reached = there; state = stage.state; events = stage.events })
    by None None is serves = record {
      serves = record { stands = subst (λ (l : List Served). AllServe [] l) (sym serves.0) tt; tick = refl; link = refl; calls = sym serves.1 };
      ids_are = stands.ids_are;
      claims = stands.claims;
      counted = stands.counted;
      few = stands.few;
      lines = sym later_is;
      mode = ap (λ (x : Reached). x.mode) (sym later_is) ∙ mode;
    }
    by (Some v) None is serves = absurd serves
    by o (Some head) is serves =
        let none = none_before stage.reached.ended (is_some stage.reached.head) (and_parts _ _ may_there).0 in
        let some : is_some stage.reached.head ≡ true = ap is_some is in
        absurd cc

module _ (hub : Option hubs.Seen) (ids : List ℕ) (events version : ℕ) (r later : Reached) (s : Settings) (stage : Stage (List Served)) (stands : Stands hub ids events r stage) (tick : s.tick ≡ tick_of r.head) (does : accepted r (channel_line version s.channel) ≡ Ok later) where
  there : accepted stage.reached (channel_line version s.channel) ≡ Ok later
  there = subst (λ (x : Reached). accepted x (channel_line version s.channel) ≡ Ok later) stands.lines does

  joins : (head : Head) × (stage.reached.head ≡ Some head) × IsJoined stage.reached head s.channel later
  joins = channel_so stage.reached stage.reached.head s.channel later (accepted_so stage.reached (channel_line version s.channel) later there).gives

  serves : HubServes hub (Some joins.0) stage.state stage.events
  serves = subst (λ (h : Option Head). HubServes hub h stage.state stage.events) joins.1 stands.serves

  head_later : later.head ≡ Some joins.0
  head_later = later_head stage.reached later joins.0 s.channel joins.2 joins.1

  tick_later : s.tick ≡ tick_of later.head
  tick_later = tick ∙ ap (λ (x : Reached). tick_of x.head) stands.lines ∙ ap tick_of joins.1 ∙ sym (ap tick_of head_later)

  -- the channel can be opened
  pub opens_next : IsSomeAnd hub (λ v. CanOpen v s)
  opens_next = by hub serves
    where
      by : (o : Option hubs.Seen) → HubServes o (Some joins.0) stage.state stage.events → IsSomeAnd o (λ v. CanOpen v s)
      by None serves = absurd serves
      by (Some v) serves =
          let same : s.tick ≡ v.tick = tick_later ∙ (ap tick_of head_later ∙ sym serves.tick) in
          let fit = fits v stage.reached (settings_all stage.state) (stands.claims ∙ claims_are stage.state) (settings_stand v stage.state serves.stands) later joins.0 s.channel joins.2 serves.link in
          record { tick = same; fits = subst (λ (n : ℕ). refused v (settings s.channel n) ≡ None) (sym same) fit }

  -- there are few enough numbers, so that one more has room
  pub ids_few : length ids < 64
  ids_few =
      let same : length ids ≡ length stage.reached.channels =
      ap length stands.ids_are ∙ length-map (settings_of stage.state) (λ s. s.channel.id) ∙ length-map stage.state (λ k. k.settings) ∙ sym (length-map stage.state claim_of) ∙ ap length (sym stands.claims) in
      omega (arith, same, joins.2.few)

  -- a channel that was opened
  pub opened_turn : (number : ℕ) (new : Option hubs.Seen) → OpensIn s hub new
      → Took (Ok GoesOn) (turn_of stage number (channel_line version s.channel)) (Stands new (ids ++ s.channel.id ∷ []) events later) number
  opened_turn number new opens = by hub serves new opens
    where
      more : List Served
      more = stage.state ++ served (settings s.channel (tick_of later.head)) [] ∷ []

      next : Stage (List Served)
      next = record { reached = later; state = more; events = stage.events }

      by : (o : Option hubs.Seen) → HubServes o (Some joins.0) stage.state stage.events → (n : Option hubs.Seen) → OpensIn s o n
          → Took (Ok GoesOn) (turn_of stage number (channel_line version s.channel)) (Stands n (ids ++ s.channel.id ∷ []) events later) number
      by None serves n opens = absurd serves
      by (Some v) serves None opens = absurd opens
      by (Some v) serves (Some w) opens = (
        next,
        [],
        ap (λ (o : Result Reached LineFault). after_judging run stage number (with_reached (channel_line version s.channel) o)) there,
        record {
          serves = subst (λ (h : Option Head). HubServes (Some w) h more stage.events) (sym head_later)
              (record {
                stands = subst (λ (n : ℕ). AllServe w.channels (stage.state ++ served (settings s.channel n) [] ∷ [])) tick_later (opens.stands stage.state serves.stands);
                tick = opens.tick ∙ serves.tick;
                link = opens.link ∙ serves.link;
                calls = opens.calls ∙ serves.calls;
              });
          ids_are = ap (λ (l : List ℕ). l ++ s.channel.id ∷ []) stands.ids_are ∙ sym (numbers_append stage.state (served (settings s.channel (tick_of later.head)) []));
          claims =
              ap (λ (x : Reached). x.channels) (sym joins.2.gives) ∙ ap (λ (l : List Claim). l ++ (record { id = s.channel.id; share = s.channel.share } ∷ [])) stands.claims
              ∙ sym (map-append claim_of stage.state (served (settings s.channel (tick_of later.head)) [] ∷ []));
          counted = stands.counted;
          few = stands.few;
          lines = refl;
          mode = ap (λ (x : Reached). x.mode) (sym joins.2.gives) ∙ ap (λ (x : Reached). x.mode) (sym stands.lines) ∙ stands.mode;
        },
      )
