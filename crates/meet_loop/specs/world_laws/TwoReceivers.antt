-- Two receivers on one channel, each of which loses packets of its burst and of the multicast. The checker computes it.
use Rattle.std.specs.Prelude.{◌≡◌, ℕ, true, false, ◌==◌, List, [], ◌∷◌, ◌++◌, if◌then◌else◌, map, codes}
use Rattle.rams_model.specs.declared.{Note.Note, Cause.TheVariants.Stopped, MediaCame.TheVariants.Took}
use Rattle.rams_model.specs.declared.Note.TheVariants as noted
use Rattle.rams_model.specs.declared.InfoCame.TheVariants as info
use Rattle.rams_model.specs.Worked.Setting.{hex}
use Rattle.server_hub.specs.declared.HubEvent.TheVariants.{Tick}
use Rattle.server_hub.specs.{new_channel}
use Rattle.meet_loop.specs.declared.world_laws.world.WorldEvent.TheVariants.{Hub, Tune, Give, Mcast, Ask, Drop}
use Rattle.meet_loop.specs.declared.{world_laws.world.WorldItem.WorldItem, world_laws.world.WorldNote.WorldNote}
use Rattle.meet_loop.specs.declared.world_laws.world.WorldItem.TheVariants as item
use Rattle.meet_loop.specs.world_laws.World.{new_world}
use Rattle.meet_loop.specs.world_laws.Worked.{Row, IsSaid, row, live_row, said_from}

-- what is posted for the receiver whose SSRC has these digits: a report, its name, and the message
abbrev pub posts_as : ℕ → List ℕ → List ℕ → WorldItem
posts_as client ssrc message =
    item.Post client (hex (codes "80c90001" ++ ssrc ++ codes "81ca0003" ++ ssrc ++ codes "0103737462000000" ++ message))

-- the SSRCs of the receivers of clients 5 and 6
abbrev pub first : List ℕ
first = codes "0000c001"

abbrev pub second : List ℕ
second = codes "0000c002"

-- a note that sends a datagram to this client
abbrev pub sends_to : ℕ → Note → List WorldItem
sends_to client n = item.Note n ∷ item.Send client [] ∷ []

abbrev pub packets_to : ℕ → List Note → List WorldItem
packets_to client [] = []
packets_to client (n ∷ notes) = sends_to client n ++ packets_to client notes

-- a packet comes to this client, and these are shown
abbrev pub came_to : ℕ → List ℕ → List WorldItem
came_to client shown = item.Media client Took ∷ map (λ n. item.Show client n []) shown

-- Both tune in: the RAMS-R are datagrams 0 and 2, the RAMS-I datagrams 1 and 3. The burst of client 5 are datagrams 4 to 9, that of client 6 datagrams 10 to 15.
abbrev pub both_tune : List Row
both_tune =
    live_row 10 true 65546 ∷ live_row 11 false 65547 ∷ live_row 12 false 65548 ∷ live_row 13 false 65549 ∷ live_row 14 false 65550 ∷ live_row 15 false 65551
    ∷ row (Tune 7 5 0xc001) (posts_as 5 first (codes "86cd00040000c001112233440100000001000000") ∷ [])
    ∷ row (Give 0) (sends_to 5 (noted.Accept 5 65546 4000 1))
    ∷ row (Give 1) (item.Info 5 info.Taken ∷ [])
    ∷ row (Tune 7 6 0xc002) (posts_as 6 second (codes "86cd00040000c002112233440100000001000000") ∷ [])
    ∷ row (Give 2) (sends_to 6 (noted.Accept 6 65546 4000 1))
    ∷ row (Give 3) (item.Info 6 info.Taken ∷ [])
    ∷ row (Hub Tick)
    (packets_to 5
    (noted.Burst 5 65546 500
    ∷ noted.Burst 5 65547 501
    ∷ noted.Burst 5 65548 502
    ∷ noted.Burst 5 65549 503
    ∷ noted.Burst 5 65550 504
    ∷ noted.Burst 5 65551 505
    ∷ [])
    ++ packets_to 6
    (noted.Burst 6 65546 500
    ∷ noted.Burst 6 65547 501
    ∷ noted.Burst 6 65548 502
    ∷ noted.Burst 6 65549 503
    ∷ noted.Burst 6 65550 504
    ∷ noted.Burst 6 65551 505
    ∷ []))
    ∷ []

-- Client 5 gets no packet 12 (datagram 6), client 6 no 11 and no 14 (datagrams 11 and 14), and its 12 before its 10.
abbrev pub both_get_a_burst : List Row
both_get_a_burst =
    row (Give 4) (came_to 5 (65546 ∷ []))
    ∷ row (Give 5) (came_to 5 (65547 ∷ []))
    ∷ row (Give 7) (came_to 5 [])
    ∷ row (Give 8) (came_to 5 [])
    ∷ row (Give 9) (came_to 5 [])
    ∷ row (Give 12) (came_to 6 [])
    ∷ row (Give 10) (came_to 6 (65546 ∷ []))
    ∷ row (Give 13) (came_to 6 [])
    ∷ row (Give 15) (came_to 6 [])
    ∷ []

-- Client 5 joins with packet 16, which ends its burst at once, and loses 17. Client 6 joins with 17, so its burst brings it 16.
abbrev pub both_join : List Row
both_join =
    live_row 16 false 65552 ∷ live_row 17 false 65553 ∷ live_row 18 false 65554
    ∷ row (Mcast 7 5 65552) (came_to 5 [] ++ posts_as 5 first (codes "86cd00050000c00111223344030000003d00000400010010") ∷ [])
    ∷ row (Give 16) (item.Note (noted.StopAt 5 65552) ∷ sends_to 5 (noted.End 5 Stopped))
    ∷ row (Give 17) (item.Info 5 (info.Ended 201) ∷ [])
    ∷ row (Mcast 7 5 65554) (came_to 5 [])
    ∷ row (Mcast 7 6 65553) (came_to 6 [] ++ posts_as 6 second (codes "86cd00050000c00211223344030000003d00000400010011") ∷ [])
    ∷ row (Give 18) (item.Note (noted.StopAt 6 65553) ∷ [])
    ∷ row (Hub Tick) (sends_to 6 (noted.Burst 6 65552 506) ++ sends_to 6 (noted.End 6 Stopped))
    ∷ row (Give 19) (came_to 6 [])
    ∷ row (Give 20) (item.Info 6 (info.Ended 201) ∷ [])
    ∷ row (Mcast 7 6 65554) (came_to 6 [])
    ∷ []

-- Client 5 asks for 12 and 17, client 6 for 11 and 14. The repair of 14 is lost too (datagram 26), and asked for again.
abbrev pub both_are_repaired : List Row
both_are_repaired =
    row (Ask 7 5) (posts_as 5 first (codes "81cd00030000c00111223344000c0010") ∷ [])
    ∷ row (Give 21) (item.Note (noted.Queued 5 65548) ∷ item.Note (noted.Queued 5 65553) ∷ [])
    ∷ row (Ask 7 6) (posts_as 6 second (codes "81cd00030000c00211223344000b0004") ∷ [])
    ∷ row (Give 22) (item.Note (noted.Queued 6 65547) ∷ item.Note (noted.Queued 6 65550) ∷ [])
    ∷ row (Hub Tick)
    (packets_to 5 (noted.Repair 5 65548 506 ∷ noted.Repair 5 65553 507 ∷ [])
    ++ packets_to 6 (noted.Repair 6 65547 507 ∷ noted.Repair 6 65550 508 ∷ []))
    ∷ row (Give 23) (came_to 5 (65548 ∷ 65549 ∷ 65550 ∷ 65551 ∷ 65552 ∷ []))
    ∷ row (Give 24) (came_to 5 (65553 ∷ 65554 ∷ []))
    ∷ row (Give 25) (came_to 6 (65547 ∷ 65548 ∷ 65549 ∷ []))
    ∷ row (Ask 7 6) (posts_as 6 second (codes "81cd00030000c00211223344000e0000") ∷ [])
    ∷ row (Give 27) (item.Note (noted.Queued 6 65550) ∷ [])
    ∷ row (Hub Tick) (sends_to 6 (noted.Repair 6 65550 509))
    ∷ row (Give 28) (came_to 6 (65550 ∷ 65551 ∷ 65552 ∷ 65553 ∷ 65554 ∷ []))
    ∷ row (Drop 7 5) (posts_as 5 first (codes "81cb00010000c001") ∷ [])
    ∷ row (Give 29) (item.Note (noted.Bye 5) ∷ [])
    ∷ row (Drop 7 6) (posts_as 6 second (codes "81cb00010000c002") ∷ [])
    ∷ row (Give 30) (item.Note (noted.Bye 6) ∷ [])
    ∷ []

abbrev pub two_receivers : List Row
two_receivers = both_tune ++ both_get_a_burst ++ both_join ++ both_are_repaired

-- what is said of each event
abbrev pub TwoReceiversOnOneChannel : Type 0
TwoReceiversOnOneChannel = IsSaid two_receivers

-- the numbers of what is shown to a client
unfoldable pub shown_of : ℕ → WorldItem → List ℕ
shown_of client (item.Show c n _) = if c == client then n ∷ [] else []
shown_of client _ = []

unfoldable pub shown_in : ℕ → List WorldNote → List ℕ
shown_in client [] = []
shown_in client (said ∷ notes) = shown_of client said.item ++ shown_in client notes

unfoldable pub joined : List (List WorldNote) → List WorldNote
joined [] = []
joined (notes ∷ lists) = notes ++ joined lists

abbrev pub shown_to : ℕ → List ℕ
shown_to client = shown_in client (joined (said_from (new_world (new_channel 7 ∷ [])) (map (λ r. r.event) two_receivers)))

abbrev pub nine_packets : List ℕ
nine_packets = 65546 ∷ 65547 ∷ 65548 ∷ 65549 ∷ 65550 ∷ 65551 ∷ 65552 ∷ 65553 ∷ 65554 ∷ []

-- to both the same nine packets of the source, in order, each once
abbrev pub BothAreShownTheSource : Type 0
BothAreShownTheSource = (shown_to 5 ≡ nine_packets) × (shown_to 6 ≡ nine_packets)
