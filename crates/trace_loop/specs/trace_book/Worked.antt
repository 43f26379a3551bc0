-- Worked examples: small traces with their whole text.
use Rattle.std.specs.Prelude.{◌≡◌, ℕ, Bool, List, [], ◌∷◌, ◌++◌, replicate, codes}
use Rattle.rams_model.specs.declared.Event.TheVariants.{Tick}
use Rattle.rams_model.specs.declared.Status.TheVariants.{Done, BadTrace, TooLong}
use Rattle.rams_model.specs.Service.{settings}
use Rattle.rams_model.specs.Worked.Setting.{channel}
use Rattle.server_hub.specs.{served}
use Rattle.server_hub.specs.Served.{Served}
use Rattle.trace_loop.specs.trace_book.trace_serving.{Stage, goes_on, ends, ended, turn, last_stage}
use Rattle.trace_loop.specs.trace_book.TraceText.{run, served_by, trace_text}

abbrev pub head_text : List ℕ
head_text = codes "rams-trace 1 tick 10 link 100000\n"

-- a channel line: the number, the first sequence number, the share, and what stands behind the clients
abbrev pub channel_text : List ℕ → List ℕ → List ℕ → List ℕ → List ℕ
channel_text id first share rest =
    codes "channel " ++ id ++ codes " ssrc 11223344 pt 33 rtx 99 server aabbccdd seq0 " ++ first
    ++ codes " ring 64 window 0 access marker share " ++ share ++ codes " reserve 1500 burst 4000 declared 100 minwire 42 limit 100 idle 100 clients 4" ++ rest

-- that of channel 7, in a trace of version 1
abbrev pub line_of_share : List ℕ → List ℕ
line_of_share share = channel_text (codes "7") (codes "500") share (codes "\n")

abbrev pub plain_line : List ℕ
plain_line = line_of_share (codes "10000")

-- the same line in a trace of version 2
abbrev pub line_with : List ℕ → List ℕ
line_with rest = channel_text (codes "7") (codes "500") (codes "10000") rest

-- A trace without events has an empty book.
abbrev pub NoEvent : Type 0
NoEvent = trace_text (head_text ++ plain_line ++ codes "end\n") ≡ ended Done (codes "rams-book 1\ndone 0\n")

-- What follows `end` isn't read, and the last line needs no line feed.
abbrev pub NothingAfterTheEnd : Type 0
NothingAfterTheEnd = trace_text (head_text ++ plain_line ++ codes "tick\nend\nlive 7 0") ≡ ended Done (codes "rams-book 1\ndone 1\n")

-- how a trace ends whose one line that is refused is this, with this word; it brings no event that is answered
abbrev pub IsRefused : List ℕ → List ℕ → Type 0
IsRefused trace words = trace_text trace ≡ ended BadTrace (codes "rams-book 1\nrefused " ++ words ++ codes "\n")

-- How lines are refused: for their form, their order, their range, a number that stood before, and a rule.
abbrev pub RefusedLines : Type 0
RefusedLines =
    IsRefused (head_text ++ plain_line ++ codes "tick\nlive 7 0\n") (codes "4 form")
    × IsRefused (head_text ++ codes "tick\n") (codes "2 order")
    × IsRefused (head_text ++ plain_line ++ codes "live 0 80\n") (codes "3 range")
    × IsRefused (head_text ++ plain_line ++ plain_line ++ codes "end\n") (codes "3 twice")
    × IsRefused (head_text ++ line_of_share (codes "5499") ++ codes "end\n") (codes "2 rule-3")

-- A line that is missing is out of order: the first one, or `end`.
abbrev pub MissingLines : Type 0
MissingLines = IsRefused [] (codes "1 order") × IsRefused (head_text ++ plain_line) (codes "3 order")

-- two channels with the share of 10000 each
abbrev pub two_channels : List ℕ → List ℕ
two_channels link =
    codes "rams-trace 1 tick 10 link " ++ link ++ codes "\n" ++ channel_text (codes "8") (codes "700") (codes "10000") (codes "\n") ++ plain_line

-- Their shares together are at most the link.
abbrev pub SharesFitTheLink : Type 0
SharesFitTheLink =
    IsRefused (two_channels (codes "19999") ++ codes "end\n") (codes "3 rule-4")
    × (trace_text (two_channels (codes "20000") ++ codes "end\n") ≡ ended Done (codes "rams-book 1\ndone 0\n"))

-- An event goes to the channel that it names. A tick goes to both, which answer in the order of their lines, each with a datagram of its own.
abbrev pub BothAnswerATick : Type 0
BothAnswerATick =
    trace_text (
    two_channels (codes "20000")
    ++ codes "live 7 80a1000a000000001122334400000000\n"
    ++ codes "live 8 80a1000a000000001122334400000000\n"
    ++ codes "fb 7 5 81cd00030000c00111223344000a0000\n"
    ++ codes "fb 8 6 81cd00030000c00111223344000a0000\n"
    ++ codes "tick\n"
    ++ codes "end\n")
    ≡ ended Done (
    codes "rams-book 1\n"
    ++ codes "1 7 took 65546\n"
    ++ codes "2 8 took 65546\n"
    ++ codes "3 7 queued 5 65546\n"
    ++ codes "4 8 queued 6 65546\n"
    ++ codes "5 8 repair 6 65546 700\n"
    ++ codes "5 8 send 6 80e302bc0000000011223344000a00000000\n"
    ++ codes "5 7 repair 5 65546 500\n"
    ++ codes "5 7 send 5 80e301f40000000011223344000a00000000\n"
    ++ codes "done 5\n")

-- An event of a channel that isn't there has a line of its own, and counts.
abbrev pub NoSuchChannel : Type 0
NoSuchChannel =
    trace_text (head_text ++ plain_line ++ codes "live 8 80\nlive 7 40\nfb 8 5 -\nend\n")
    ≡ ended Done (codes "rams-book 1\n1 8 no-channel\n2 7 bad short\n3 8 no-channel\ndone 3\n")

-- A channel line is spelled in the version of its trace, which is 1 or 2.
abbrev pub VersionsOfTheText : Type 0
VersionsOfTheText =
    IsRefused (head_text ++ line_with (codes " depth 0 swell 1400\n") ++ codes "end\n") (codes "2 order")
    × IsRefused (codes "rams-trace 2 tick 10 link 100000\n" ++ plain_line ++ codes "end\n") (codes "2 order")
    × IsRefused (codes "rams-trace 3 tick 10 link 1500\n") (codes "1 form")

-- so many zero digits
abbrev pub zeros : ℕ → List ℕ
zeros count = replicate count 48

-- a packet of 1,500 bytes on the wire, as a repair
abbrev pub large_repair : List ℕ → List ℕ
large_repair client = codes "6 7 repair " ++ client ++ codes " 65546 500\n6 7 send " ++ client ++ codes " 806301f40000000011223344000a" ++ zeros 2916 ++ codes "\n"

-- In a trace of version 2 a channel spends what it kept: three repairs of 1,500 bytes in one tick, at a share of 3,100 and 1,400 of the tick before.
abbrev pub SwellIsSpent : Type 0
SwellIsSpent =
    trace_text (
    codes "rams-trace 2 tick 10 link 100000\n"
    ++ codes "channel 7 ssrc 11223344 pt 33 rtx 99 server aabbccdd seq0 500 ring 64 window 0 access marker share 3100"
    ++ codes " reserve 1500 burst 1600 declared 100 minwire 42 limit 100 idle 100 clients 4 depth 0 swell 1400\n"
    ++ codes "live 7 8021000a0000000011223344" ++ zeros 2916 ++ codes "\n"
    ++ codes "tick\n"
    ++ codes "fb 7 5 81cd00030000c00111223344000a0000\n"
    ++ codes "fb 7 6 81cd00030000c00111223344000a0000\n"
    ++ codes "fb 7 7 81cd00030000c00111223344000a0000\n"
    ++ codes "tick\n"
    ++ codes "end\n")
    ≡ ended Done (
    codes "rams-book 1\n1 7 took 65546\n3 7 queued 5 65546\n4 7 queued 6 65546\n5 7 queued 7 65546\n"
    ++ large_repair (codes "5") ++ large_repair (codes "6") ++ large_repair (codes "7") ++ codes "done 6\n")

-- a trace of version 2
abbrev pub second_version : List ℕ
second_version = codes "rams-trace 2 tick 10 link 100000\n" ++ line_with (codes " depth 1499 swell 1400\n") ++ codes "tick\ntick\nend\n"

-- What a channel keeps from tick to tick is in its settings, and the newest event stands first.
abbrev pub SecondVersion : Type 0
SecondVersion =
    (served_by second_version ≡ served (settings (record channel { depth = 1499; swell = 1400 }) 10) (Tick ∷ Tick ∷ []) ∷ [])
    × (trace_text second_version ≡ ended Done (codes "rams-book 1\ndone 2\n"))

-- a trace after its channel line, as if so many events had come
abbrev pub after_events : ℕ → Stage (List Served)
after_events count = record (last_stage run (head_text ++ plain_line)) { events = count }

-- An event number 1,000,000 is served, and none after it.
abbrev pub OneEventTooMany : Type 0
OneEventTooMany =
    (turn run (after_events 999999) 3 (codes "live 8 80")
    ≡ goes_on (record { reached = record (after_events 0).reached { begun = Bool.true }; state = (after_events 0).state; events = 1000000 }) (codes "1000000 8 no-channel\n"))
    × (turn run (after_events 1000000) 3 (codes "tick") ≡ ends (ended TooLong (codes "too-long\n")))
