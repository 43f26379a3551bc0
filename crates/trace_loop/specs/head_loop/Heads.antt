-- The head of what a command reads: its lines in front of `end`.
use Rattle.std.specs.Prelude.{◌≡◌, ℕ, ◌<◌, ◌≤◌, List, [], ◌∷◌, ◌++◌, map, drop, length, Option, Some, None, Ok, true, codes}
use Rattle.std.specs.List.{flat_map}
use Rattle.rams_model.specs.declared.Mode.TheVariants.{Serve}
use Rattle.rams_model.specs.Service.{Settings}
use Rattle.rams_model.specs.Texts.{TraceLine, end_line, Claim, Reached, judged, may_come, tick_of, lines_of}
use Rattle.rams_model.specs.Texts.{Head as HeadSaid}
use Rattle.line_io.specs.{IsCutOff}
use Rattle.server_hub.specs.{StandsFor, ids_of, served, refused as refused_add}
use Rattle.server_hub.specs.Seen.{Seen}
use Rattle.server_hub.specs.Served.{Served}
use Rattle.trace_loop.specs.trace_book.trace_serving.{Stage, Outcome, Turn, goes_on, ends, done, refused, turn, text_from, stage_from, taken_from}
use Rattle.trace_loop.specs.trace_book.{run}
use Rattle.trace_loop.specs.trace_book.Stages.{settings_of}
use Rattle.trace_loop.specs.journal_book.{Opens, starting}
use Rattle.trace_loop.specs.declared.head_loop.head.Head.{Head}
use Rattle.trace_loop.specs.declared.head_loop.head.Head.TheVariants.{Lawful, Unlawful}
use Rattle.trace_loop.specs.declared.head_loop.head.HeadLine.{HeadLine}
use Rattle.trace_loop.specs.declared.head_loop.head.HeadLine.TheVariants.{GoesOn, Ends, Refused}

-- how it ends: with `end`, or with the first line that is refused
abbrev pub head_end : List ℕ → Outcome
head_end xs = text_from run (starting Serve) 1 (lines_of xs)

-- what stands behind its lines
abbrev pub head_stage : List ℕ → Stage (List Served)
head_stage xs = stage_from run (starting Serve) 1 (lines_of xs)

-- a line with its line feed
abbrev pub with_feed : List ℕ → List ℕ
with_feed line = line ++ codes "\n"

-- its text, in which each line has its line feed
abbrev pub head_text : List ℕ → List ℕ
head_text xs = flat_map with_feed (taken_from run (starting Serve) 1 (lines_of xs))

-- what stands behind its lines and the line `end`
abbrev pub behind_head : List ℕ → List ℕ
behind_head xs = drop (length (head_text xs ++ codes "end\n")) xs

-- the numbers of the channels
abbrev pub numbers : List Served → List ℕ
numbers channels = ids_of (settings_of channels)

-- the hub stands for some channels
abbrev pub StandsSomewhere : Seen → Type 0
StandsSomewhere hub = (channels : List Served) × StandsFor hub channels

-- what a trace's lines keep of a channel
abbrev pub claim_of : Served → Claim
claim_of c = record { id = c.settings.channel.id; share = c.settings.channel.share }

-- The hub of this head line stands for the channels, and has had no event.
pub record Serves (v : Seen) (head : HeadSaid) (channels : List Served) : Type 0 where
  pub stands : StandsFor v channels
  pub tick : v.tick ≡ head.tick
  pub link : v.link ≡ head.link
  pub calls : v.calls ≡ 0

-- there is a hub exactly where a head line came
abbrev pub HubServes : Option Seen → Option HeadSaid → List Served → Type 0
HubServes None None channels = channels ≡ []
HubServes (Some v) (Some head) channels = Serves v head channels
HubServes _ _ channels = ⊥

-- What the lines of a head have opened: a hub for the channels, with these numbers.
pub record HasOpened (hub : Option Seen) (ids : List ℕ) (stage : Stage (List Served)) : Type 0 where
  pub served : HubServes hub stage.reached.head stage.state
  pub claims : stage.reached.channels ≡ map claim_of stage.state
  pub mode : stage.reached.mode ≡ Serve
  pub events : stage.events ≡ 0
  pub ids_are : ids ≡ numbers stage.state
  pub few : length ids ≤ 64

-- the same of what the lines so far have reached
abbrev pub HasOpenedBy : Option Seen → List ℕ → Reached → Stage (List Served) → Type 0
HasOpenedBy hub ids reached stage = (reached ≡ stage.reached) × HasOpened hub ids stage

-- some lines have opened it
abbrev pub HasOpenedSome : Option Seen → List ℕ → Reached → Type 0
HasOpenedSome hub ids reached = (stage : Stage (List Served)) × HasOpenedBy hub ids reached stage

-- a channel with these settings can be opened: they are of the hub's tick, and it fits the link beside the others
pub record CanOpen (v : Seen) (s : Settings) : Type 0 where
  pub tick : s.tick ≡ v.tick
  pub fits : refused_add v s ≡ None

-- the channel was opened, beside the others
pub record OpensChannel (s : Settings) (old new : Seen) : Type 0 where
  pub stands : (channels : List Served) → StandsFor old channels → StandsFor new (channels ++ served s [] ∷ [])
  pub tick : new.tick ≡ old.tick
  pub link : new.link ≡ old.link
  pub calls : new.calls ≡ old.calls

-- the same of a hub that is there
abbrev pub OpensIn : Settings → Option Seen → Option Seen → Type 0
OpensIn s (Some old) (Some new) = OpensChannel s old new
OpensIn s _ _ = ⊥

-- this line was judged behind those of the stage, and may come
pub record Comes (hub : Option Seen) (ids : List ℕ) (reached : Reached) (line : TraceLine) (stage : Stage (List Served)) : Type 0 where
  pub before : HasOpened hub ids stage
  pub bytes : List ℕ
  pub comes : judged stage.reached bytes ≡ Ok (line, reached)

-- The turn of a line at some stage: it goes on to a stage of what is opened then, or is `end`, which may come, or is refused.
abbrev pub Took : Stage (List Served) → Turn (List Served) → Option Seen → List ℕ → Reached → ℕ → HeadLine → Type 0
Took stage was hub ids reached number GoesOn = (later : Stage (List Served)) × (was ≡ goes_on later []) × HasOpenedBy hub ids reached later
Took stage was hub ids reached number Ends = (was ≡ ends (done 0)) × HasOpened hub ids stage × (may_come stage.reached end_line ≡ true)
Took stage was hub ids reached number (Refused fault) = was ≡ ends (refused number fault)

-- the text after a line: with the line where that goes on, and as before where it is `end`
abbrev pub Grows : HeadLine → List ℕ → List ℕ → List ℕ → Type 0
Grows GoesOn old new line = new ≡ old ++ with_feed line
Grows Ends old new line = new ≡ old
Grows (Refused fault) old new line = Unit {0}

-- what stands behind a line that isn't refused
abbrev pub StandsAfter : HeadLine → Option Seen → List ℕ → Reached → Type 0
StandsAfter GoesOn hub ids reached = HasOpenedSome hub ids reached
StandsAfter Ends hub ids reached = (stage : Stage (List Served)) × HasOpened hub ids stage × (may_come stage.reached end_line ≡ true)
StandsAfter (Refused fault) hub ids reached = Unit {0}

-- The first line of xs is cut off, and goes on; it stands behind the text, and ys is left.
pub record GoesOnAfter (stage : Stage (List Served)) (number : ℕ) (xs : List ℕ) (hub : Option Seen) (ids : List ℕ) (reached : Reached) (text texts ys : List ℕ) : Type 0 where
  pub line : List ℕ
  pub cut : IsCutOff xs ys line
  pub lines : lines_of xs ≡ line ∷ lines_of ys
  pub later : Stage (List Served)
  pub does : turn run stage number line ≡ goes_on later []
  pub opened : HasOpenedBy hub ids reached later
  pub text_is : texts ≡ text ++ with_feed line

-- Its first line is `end`, and ys is left.
pub record EndsAt (stage : Stage (List Served)) (number : ℕ) (xs : List ℕ) (hub : Option Seen) (ids text texts ys : List ℕ) : Type 0 where
  pub cut : IsCutOff xs ys (codes "end")
  pub end : text_from run stage number (lines_of xs) ≡ done 0
  pub reaches : stage_from run stage number (lines_of xs) ≡ stage
  pub takes : taken_from run stage number (lines_of xs) ≡ []
  pub opened : HasOpened hub ids stage
  pub may : may_come stage.reached end_line ≡ true
  pub text_is : texts ≡ text

-- What the first line of xs does, where ys comes after it.
abbrev pub IsFirstLine : Stage (List Served) → ℕ → List ℕ → Option Seen → List ℕ → Reached → List ℕ → List ℕ → HeadLine → List ℕ → Type 0
IsFirstLine stage number xs hub ids reached text texts GoesOn ys = GoesOnAfter stage number xs hub ids reached text texts ys
IsFirstLine stage number xs hub ids reached text texts Ends ys = EndsAt stage number xs hub ids text texts ys
IsFirstLine stage number xs hub ids reached text texts (Refused fault) ys = text_from run stage number (lines_of xs) ≡ refused number fault

-- The trace begins with a head and `end`: its text, the hub of its channels and their numbers.
pub record IsHeadOf (xs : List ℕ) (hub : Seen) (ids text : List ℕ) : Type 0 where
  pub end : head_end xs ≡ done 0
  pub text_is : text ≡ head_text xs
  pub opens : Opens text (head_stage xs).state
  pub stands : StandsFor hub (head_stage xs).state
  pub tick : hub.tick ≡ tick_of (head_stage xs).reached.head
  pub ids_are : ids ≡ numbers (head_stage xs).state

-- What was read of a trace: its whole head, or up to the first line that is refused.
abbrev pub HasRead : List ℕ → Head → Type 0
HasRead xs (Lawful opened) = IsHeadOf xs opened.hub opened.ids.items opened.text.items
HasRead xs (Unlawful number fault) = head_end xs ≡ refused number fault

-- a hub that has had no event, and stands for some channels, and no more numbers than there may be channels
abbrev pub IsIdle : Head → Type 0
IsIdle (Lawful opened) = StandsSomewhere opened.hub × (length opened.ids.items ≤ 64) × (opened.hub.calls ≡ 0)
IsIdle (Unlawful number fault) = Unit {0}

-- what is left is what stands behind a head that was read whole
abbrev pub LeavesBehind : Head → List ℕ → List ℕ → Type 0
LeavesBehind (Lawful opened) xs left = left ≡ behind_head xs
LeavesBehind (Unlawful number fault) xs left = Unit {0}

-- Of a trace the bytes in front of what is left were taken: where it begins with a head and `end`, fewer than these have.
abbrev pub IsCutBefore : List ℕ → List ℕ → Type 0
IsCutBefore xs left = (taken : List ℕ) × (xs ≡ taken ++ left) × (head_end xs ≡ done 0 → length taken < length (head_text xs ++ codes "end\n"))
