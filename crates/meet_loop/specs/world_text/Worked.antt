-- Worked examples: the line of everything that is said of an event, and the lines of some events. The checker computes them.
use Rattle.std.specs.Prelude.{◌≡◌, ℕ, true, List, [], ◌∷◌, ◌++◌, map, reverse, codes}
use Rattle.rams_model.specs.declared.Note.TheVariants as noted
use Rattle.rams_model.specs.declared.InfoCame.TheVariants as info
use Rattle.rams_model.specs.declared.MediaCame.TheVariants as media
use Rattle.rams_model.specs.Worked.Setting.{packet}
use Rattle.server_hub.specs.declared.HubEvent.TheVariants.{Tick}
use Rattle.server_hub.specs.{new_channel, of_channel}
use Rattle.meet_loop.specs.declared.world_laws.world.WorldEvent.TheVariants.{Hub, Tune, Give, Mcast, Ask, Drop}
use Rattle.meet_loop.specs.declared.world_laws.world.WorldItem.{WorldItem}
use Rattle.meet_loop.specs.declared.world_laws.world.WorldItem.TheVariants as item
use Rattle.meet_loop.specs.world_laws.{note}
use Rattle.meet_loop.specs.world_text.WorldLines.{world_line, world_lines}

-- the lines of these, of event 9 and channel 7
abbrev lines : List WorldItem → List (List ℕ)
lines items = map (λ said. world_line 9 (note 7 said)) items

-- what became of what was delivered
abbrev pub ReceptionLines : Type 0
ReceptionLines =
    (lines (map (item.Info 5) (info.Taken ∷ info.Repeated ∷ info.Updated ∷ info.Ended 201 ∷ info.Refused 507 ∷ info.Foreign ∷ info.Bad ∷ []))
    ≡ codes "9 7 info 5 taken\n" ∷ codes "9 7 info 5 repeated\n" ∷ codes "9 7 info 5 updated\n" ∷ codes "9 7 info 5 ended 201\n"
    ∷ codes "9 7 info 5 refused 507\n" ∷ codes "9 7 info 5 foreign\n" ∷ codes "9 7 info 5 bad\n" ∷ [])
    × (lines (map (item.Media 5) (media.Took ∷ media.Behind ∷ media.Beyond ∷ media.Twice ∷ media.BeforeFirst ∷ media.Foreign ∷ media.Bad ∷ []))
    ≡ codes "9 7 came 5 took\n" ∷ codes "9 7 came 5 behind\n" ∷ codes "9 7 came 5 beyond\n" ∷ codes "9 7 came 5 twice\n"
    ∷ codes "9 7 came 5 before-first\n" ∷ codes "9 7 came 5 foreign\n" ∷ codes "9 7 came 5 bad\n" ∷ [])

-- what is sent, posted and presented
abbrev pub DatagramLines : Type 0
DatagramLines =
    lines (item.Note (noted.StopAt 5 65552) ∷ item.Send 5 (128 ∷ 99 ∷ []) ∷ item.Post 5 (129 ∷ 203 ∷ []) ∷ item.Show 5 65546 (128 ∷ 33 ∷ []) ∷ item.Show 5 65547 [] ∷ [])
    ≡ codes "9 7 stop 5 65552\n" ∷ codes "9 7 send 5 8063\n" ∷ codes "9 7 post 5 81cb\n" ∷ codes "9 7 show 5 65546 8021\n" ∷ codes "9 7 show 5 65547 -\n" ∷ []

-- what is refused
abbrev pub RefusalLines : Type 0
RefusalLines =
    lines (item.NoChannel 7 ∷ item.TunedBefore 5 ∷ item.NoReceiver 5 ∷ item.NoDatagram 99 ∷ item.NoPacket 65546 ∷ item.TooFar 5 ∷ [])
    ≡ codes "9 7 no-channel\n" ∷ codes "9 7 tuned-before 5\n" ∷ codes "9 7 no-receiver 5\n" ∷ codes "9 no-datagram 99\n" ∷ codes "9 7 no-packet 65546\n"
    ∷ codes "9 7 too-far 5\n" ∷ []

-- a receiver is tuned, asks again, gets nothing, and leaves
abbrev pub LinesOfAWorld : Type 0
LinesOfAWorld =
    world_lines (new_channel 7 ∷ [])
    (reverse (Hub (of_channel 7 (packet 10 0 true 4)) ∷ Give 99 ∷ Tune 7 5 0xc001 ∷ Tune 7 5 0xc001 ∷ Ask 7 5 ∷ Mcast 7 5 65546 ∷ Hub Tick ∷ Drop 7 5 ∷ Ask 7 5 ∷ Ask 8 5 ∷ []))
    ≡ codes "1 7 took 65546\n"
    ++ codes "2 no-datagram 99\n"
    ++ codes "3 7 post 5 80c900010000c00181ca00030000c001010373746200000086cd00040000c001112233440100000001000000\n"
    ++ codes "4 7 tuned-before 5\n"
    ++ codes "5 7 post 5 80c900010000c00181ca00030000c001010373746200000086cd00040000c001112233440100000001000000\n"
    ++ codes "6 7 came 5 before-first\n"
    ++ codes "8 7 post 5 80c900010000c00181ca00030000c001010373746200000081cb00010000c001\n"
    ++ codes "9 7 no-receiver 5\n"
    ++ codes "10 8 no-channel\n"
