-- What is so at each stage of a trace.
use Rattle.std.specs.Prelude.{◌≡◌, ℕ, ◌≤◌, false, List, [], ◌∷◌, ◌++◌, map, Option, None, Some, option_to_list, Ok, All}
use Rattle.rams_model.specs.Service.{Settings, most_bytes, checked}
use Rattle.rams_model.specs.declared.wire.TheConstants.{MOST_ON_WIRE}
use Rattle.rams_model.specs.Texts.{Head, Claim}
use Rattle.server_hub.specs.{FitLink}
use Rattle.trace_loop.specs.trace_book.trace_serving.Text.{Serving, Stage, goes_on, turn}

-- the number and the share of a channel
abbrev pub claim_of : Settings → Claim
claim_of s = record { id = s.channel.id; share = s.channel.share }

-- The numbers of a head line are in range.
pub record IsHead (head : Head) : Type 0 where
  pub tick_least : 1 ≤ head.tick
  pub tick_most : head.tick ≤ 1000
  pub link_least : MOST_ON_WIRE ≤ head.link
  pub link_most : head.link ≤ most_bytes

abbrev pub AreLawful : Settings → Type 0
AreLawful s = checked s ≡ Ok s

-- Channels stand under a head line: their shares fit its link, they have its tick, no number stands twice, and each one's settings are lawful.
pub record StandUnder (head : Head) (all : List Settings) : Type 0 where
  pub is_head : IsHead head
  pub fit : FitLink head.tick head.link all
  pub lawful : All AreLawful all

-- before a head line there is no channel
abbrev pub Stand : Option Head → List Settings → Type 0
Stand None all = all ≡ []
Stand (Some head) all = StandUnder head all

module _ {State Event : Type 0} (s : Serving State Event) where
  -- after channels with these settings were opened, in order
  abbrev pub opened_all : List Settings → State → State
  opened_all [] state = state
  opened_all (x ∷ all) state = opened_all all (s.opened x state)

  -- where nothing has come to the channels
  abbrev pub new_state : List Settings → State
  new_state all = opened_all all s.start

  -- No event has come.
  pub record IsIdle (stage : Stage State) (all : List Settings) : Type 0 where
    pub events : stage.events ≡ 0
    pub state : stage.state ≡ new_state all

  -- What is so at each stage; `all` are the settings of the channels, in the order of their lines.
  pub record IsStage (stage : Stage State) (all : List Settings) : Type 0 where
    -- the trace is read for this, and `end` hasn't come
    pub mode : stage.reached.mode ≡ s.mode
    pub unended : stage.reached.ended ≡ false
    -- the numbers and shares that the trace has reached are those of the channels
    pub claims : stage.reached.channels ≡ map claim_of all
    pub stand : Stand stage.reached.head all
    -- before an event line there was no event
    pub idle : stage.reached.begun ≡ false → IsIdle stage all
    pub few : stage.events ≤ s.most

  -- with the channel that a line may open
  abbrev pub opened_by : Option Settings → State → State
  opened_by None state = state
  opened_by (Some x) state = s.opened x state

  -- after the event that a line may bring
  abbrev pub after_brought : Option Event → State → State
  after_brought None state = state
  after_brought (Some e) state = s.after e state

  -- A line opens at most one channel and brings at most one event, and what it goes on with is a stage again.
  pub record KeepsStage (stage later : Stage State) (all : List Settings) : Type 0 where
    pub opens : Option Settings
    pub brings : Option Event
    pub state : later.state ≡ after_brought brings (opened_by opens stage.state)
    pub kept : IsStage later (all ++ option_to_list opens)

  abbrev pub StagesAreKept : Type 0
  StagesAreKept =
      (stage later : Stage State) (all : List Settings) (number : ℕ) (bytes text : List ℕ) → IsStage stage all → turn s stage number bytes ≡ goes_on later text → KeepsStage stage later all
