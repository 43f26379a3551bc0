-- Worked examples: small traces with their whole text.
use Rattle.std.specs.Prelude.{◌≡◌, ℕ, Bool, [], ◌++◌, codes}
use Rattle.rams_model.specs.declared.Status.TheVariants.{Done, BadTrace, TooLong}
use Rattle.trace_loop.specs.trace_book.trace_serving.{Stage, goes_on, ends, ended, turn, last_stage}
use Rattle.trace_loop.specs.trace_book.Worked.{head_text, plain_line}
use Rattle.meet_loop.specs.world_laws.World.{World}
use Rattle.meet_loop.specs.world_book.WorldText.{meet, meet_text}

-- A receiver asks for a burst as it is tuned. A datagram that isn't there has no channel.
abbrev pub AReceiverAsks : Type 0
AReceiverAsks =
    meet_text (head_text ++ plain_line ++ codes "give 99\ntune 7 5 0000000a\ntune 8 5 0000000a\nend\n")
    ≡ ended Done (
    codes "rams-world 1\n1 no-datagram 99\n"
    ++ codes "2 7 post 5 80c900010000000a81ca00030000000a010373746200000086cd00040000000a112233440100000001000000\n"
    ++ codes "3 8 no-channel\ndone 3\n")

-- Lines are refused as in any trace, and a receiver needs a channel.
abbrev pub RefusedInAWorld : Type 0
RefusedInAWorld =
    (meet_text (head_text ++ codes "tune 7 5 0000000a\n") ≡ ended BadTrace (codes "rams-world 1\nrefused 2 order\n"))
    × (meet_text [] ≡ ended BadTrace (codes "rams-world 1\nrefused 1 order\n"))

-- a trace after its channel line, as if so many events had come
abbrev pub after_events : ℕ → Stage World
after_events count = record (last_stage meet (head_text ++ plain_line)) { events = count }

-- An event number 100,000 is served, and none after it.
abbrev pub OneEventTooMany : Type 0
OneEventTooMany =
    (turn meet (after_events 99999) 3 (codes "ask 8 5")
    ≡ goes_on (record { reached = record (after_events 0).reached { begun = Bool.true }; state = (after_events 0).state; events = 100000 }) (codes "100000 8 no-channel\n"))
    × (turn meet (after_events 100000) 3 (codes "ask 8 5") ≡ ends (ended TooLong (codes "too-long\n")))
