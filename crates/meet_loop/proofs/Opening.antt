-- The turns of lines that bring no event.
use Rattle.std.proofs.Common.{◌≡◌, ℕ, true, false, not, ◌&&◌, List, [], ◌∷◌, ◌++◌, map, Option, None, Some, Ok, is_some, refl, sym, subst, ap, ◌∙◌}
use Rattle.std.specs.Prelude.{IsSomeAnd}
use Rattle.std.proofs.lemmas.Bool.{and_parts, not-true}
use Rattle.std.proofs.lemmas.List.{map-append}
use Rattle.rams_model.specs.declared.Channel.{Channel}
use Rattle.rams_model.specs.declared.LineKind.TheVariants as kind
use Rattle.rams_model.specs.Service.{Settings, settings}
use Rattle.rams_model.specs.Texts.{TraceLine, head_line, channel_line, Claim, Head, Reached, tick_of, may_come, may_come_next, kind_may_come, has_channel, has_one_channel}
use Rattle.server_hub.specs.{served, refused}
use Rattle.trace_loop.proofs.trace_book.trace_serving.Judged.{IsAccepted, IsJoined, judged_so, channel_so}
use Rattle.trace_loop.specs.trace_book.trace_serving.{Stage, eventless, claim_of}
use Rattle.trace_loop.specs.declared.Turn.TheVariants.{GoesOn}
use Rattle.trace_loop.specs.trace_book.{settings_of}
use Rattle.trace_loop.proofs.head_loop.Channels.{settings_stand}
use Rattle.trace_loop.proofs.head_loop.Claims.{fits, none_before}
use Rattle.trace_loop.proofs.head_loop.Opening.{Bounded, bounded}
use Rattle.meet_loop.specs.world_laws.World.{World}
use Rattle.meet_loop.specs.declared.world_laws.world.WorldNote.{WorldNote}
use Rattle.meet_loop.specs.world_net.{CameAtMost, Seen, StandsFor, with_channel}
use Rattle.meet_loop.specs.world_book.{meet}
use Rattle.meet_loop.specs.{WorldServes, Serves, Stands, CanOpen, OpensIn, IsUnder, Comes, Took}

-- the line was accepted
pub accepted_so : (world : Option Seen) (events : ℕ) (later : Reached) (line : TraceLine) (stage : Stage World) → Comes world events later line stage → IsAccepted stage.reached line later
accepted_so world events later line stage comes = (judged_so stage.reached comes.bytes line later comes.comes).accepts

-- no event comes before a channel line
unbegun : (r : Reached) (version : ℕ) (c : Channel) → may_come r (channel_line version c) ≡ true → r.begun ≡ false
unbegun r version c may =
    let kind_may : kind_may_come r kind.Channel ≡ true = (and_parts _ _ may).0 in
    let next : may_come_next r kind.Channel ≡ true = (and_parts (not r.ended) (may_come_next r kind.Channel) kind_may).1 in
    let under = and_parts (is_some r.head && not r.begun) (not (has_one_channel r.mode && has_channel r)) next in
    not-true r.begun (and_parts (is_some r.head) (not r.begun) under.0).1

-- the world serves under this head line
served_under : (world : Option Seen) (events : ℕ) (reached : Reached) (stage : Stage World) (head : Head) → Stands world events reached stage → stage.reached.head ≡ Some head
    → WorldServes world (Some head) stage.reached.begun stage.state stage.events
served_under world events reached stage head stands is = subst (λ (h : Option Head). WorldServes world h stage.reached.begun stage.state stage.events) is stands.served

-- the channel can be opened
pub opens_next : (world : Option Seen) (events version : ℕ) (later : Reached) (s : Settings) (stage : Stage World) → s.tick ≡ tick_of later.head → Comes world events later (channel_line version s.channel) stage
    → IsSomeAnd world (λ v. CanOpen v s)
opens_next world events version later s stage tick comes =
    let so = accepted_so world events later (channel_line version s.channel) stage comes in
    let j = channel_so stage.reached stage.reached.head s.channel later so.gives in
    by j.0 j.1 j.2 (unbegun stage.reached version s.channel so.may) world (served_under world events stage.reached stage j.0 comes.before j.1)
  where
    by : (head : Head) → stage.reached.head ≡ Some head → IsJoined stage.reached head s.channel later → stage.reached.begun ≡ false → (o : Option Seen)
        → WorldServes o (Some head) stage.reached.begun stage.state stage.events → IsSomeAnd o (λ v. CanOpen v s)
    by head is j none None serves = absurd serves
    by head is j none (Some v) serves =
        let same : s.tick ≡ v.kept.hub.tick = tick ∙ (ap tick_of (ap (λ (x : Reached). x.head) (sym j.gives) ∙ is) ∙ sym (serves.tick none)) in
        record {
          tick = same;
          fits = ap (λ n. refused v.kept.hub (settings s.channel n)) same
              ∙ fits v.kept.hub stage.reached (settings_of stage.state.channels) comes.before.claims (settings_stand v.kept.hub stage.state.channels serves.stands.kept.hub) later head s.channel j (serves.link none);
        }

-- what the lines keep of one channel more
claims_more : (w : World) (s : Settings) → map claim_of (settings_of (with_channel s w).channels) ≡ map claim_of (settings_of w.channels) ++ claim_of s ∷ []
claims_more w s =
    ap (map claim_of) (map-append (λ c. c.settings) w.channels (served s [] ∷ [])) ∙ map-append claim_of (settings_of w.channels) (s ∷ [])

-- what stands behind the line of a channel
pub opened_turn : (world new : Option Seen) (events version number : ℕ) (later : Reached) (s : Settings) (stage : Stage World) (notes : List WorldNote) → s.tick ≡ tick_of later.head → OpensIn s world new
    → Comes world events later (channel_line version s.channel) stage → Took (eventless meet stage later (channel_line version s.channel)) new events later notes number GoesOn
opened_turn None new events version number later s stage notes tick opens comes = absurd opens
opened_turn (Some v) None events version number later s stage notes tick opens comes = absurd opens
opened_turn (Some v) (Some w) events version number later s stage notes tick opens comes =
    let c = s.channel in
    let so = accepted_so (Some v) events later (channel_line version c) stage comes in
    let j = channel_so stage.reached stage.reached.head c later so.gives in
    let none = unbegun stage.reached version c so.may in
    let at : Serves v j.0 stage.reached.begun stage.state stage.events = served_under (Some v) events stage.reached stage j.0 comes.before j.1 in
    let head : later.head ≡ Some j.0 = ap (λ (x : Reached). x.head) (sym j.2.gives) ∙ j.1 in
    let one = settings c (tick_of later.head) in
    let stands = subst (λ (n : ℕ). StandsFor w (with_channel (settings c n) stage.state)) tick (opens.stands stage.state at.stands) in (
      record {
        served = subst (λ (h : Option Head). WorldServes (Some w) h later.begun (with_channel one stage.state) stage.events) (sym head)
            (record { stands = stands; few = opens.few stage.events at.few; tick = λ e. opens.tick ∙ at.tick none; link = λ e. opens.link ∙ at.link none });
        claims = ap (λ (x : Reached). x.channels) (sym j.2.gives) ∙ ap (λ (l : List Claim). l ++ claim_of one ∷ []) comes.before.claims ∙ sym (claims_more stage.state one);
        counted = comes.before.counted;
        lines = refl;
      },
      refl,
      refl,
    )

-- the head line begins the world
pub head_turn : (world : Option Seen) (v : Seen) (events version tick link number : ℕ) (later : Reached) (stage : Stage World) (notes : List WorldNote) → IsUnder tick link v → Comes world events later (head_line version tick link) stage
    → Took (eventless meet stage later (head_line version tick link)) (Some v) events later notes number GoesOn
head_turn world v events version tick link number later stage notes under comes = (by world stage.reached.head refl comes.before.served, refl, refl)
  where
    so : IsAccepted stage.reached (head_line version tick link) later
    so = accepted_so world events later (head_line version tick link) stage comes

    later_is : record stage.reached { head = Some (record { version = version; tick = tick; link = link }) } ≡ later
    later_is =
        let does : Ok (record stage.reached { head = Some (record { version = version; tick = tick; link = link }) }) ≡ Ok later = so.gives in
        cc

    by : (o : Option Seen) (h : Option Head) → stage.reached.head ≡ h → WorldServes o h stage.reached.begun stage.state stage.events
        → Stands (Some v) events later (record { reached = later; state = stage.state; events = stage.events })
    by None None is serves = record {
      served = subst (λ (h : Option Head). WorldServes (Some v) h later.begun stage.state stage.events) (ap (λ (x : Reached). x.head) later_is)
          (record { stands = subst (λ (w : World). StandsFor v w) (sym serves.0) under.stands; few = subst (λ n. CameAtMost n v.kept) (sym serves.1) under.few; tick = λ e. under.tick_is; link = λ e. under.link_is });
      claims = ap (λ (x : Reached). x.channels) (sym later_is) ∙ comes.before.claims;
      counted = comes.before.counted;
      lines = refl;
    }
    by (Some u) None is serves = absurd serves
    by o (Some head) is serves =
        let none = none_before stage.reached.ended (is_some stage.reached.head) (and_parts _ _ so.may).0 in
        let some : is_some stage.reached.head ≡ true = ap is_some is in
        absurd cc

pub head_bounds : (world : Option Seen) (events version tick link : ℕ) (later : Reached) (stage : Stage World) → Comes world events later (head_line version tick link) stage → Bounded tick link
head_bounds world events version tick link later stage comes = bounded version tick link (accepted_so world events later (head_line version tick link) stage comes).in_range
