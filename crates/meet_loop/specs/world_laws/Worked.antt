-- Worked worlds of one channel and client 5's receiver: what is said of each event. The checker computes them.
use Rattle.std.specs.Prelude.{◌≡◌, ℕ, Bool, true, false, List, [], ◌∷◌, ◌++◌, map, codes}
use Rattle.rams_model.specs.declared.{Note.Note, Cause.TheVariants.Stopped, MediaCame.MediaCame}
use Rattle.rams_model.specs.declared.LiveNote.TheVariants as live
use Rattle.rams_model.specs.declared.Note.TheVariants as noted
use Rattle.rams_model.specs.declared.InfoCame.TheVariants as info
use Rattle.rams_model.specs.declared.MediaCame.TheVariants.{Took, Behind, BeforeFirst}
use Rattle.rams_model.specs.Worked.Setting.{packet, hex}
use Rattle.rams_model.specs.Worked.Receptions.{front}
use Rattle.server_hub.specs.declared.HubEvent.TheVariants.{Tick}
use Rattle.server_hub.specs.{new_channel, of_channel}
use Rattle.meet_loop.specs.declared.{world_laws.world.WorldEvent.WorldEvent, world_laws.world.WorldItem.WorldItem}
use Rattle.meet_loop.specs.declared.world_laws.world.WorldNote.{WorldNote}
use Rattle.meet_loop.specs.declared.world_laws.world.WorldEvent.TheVariants.{Hub, Tune, Give, Mcast, Ask, Drop}
use Rattle.meet_loop.specs.declared.world_laws.world.WorldItem.TheVariants as item
use Rattle.meet_loop.specs.world_laws.World.{World, new_world, note}
use Rattle.meet_loop.specs.world_laws.Happening.{happens}

-- An event, and what is said of it.
pub record Row : Type 0 where
  pub event : WorldEvent
  pub said : List WorldNote

-- without the bytes that the server sends, and those of what is presented
abbrev pub brief : WorldItem → WorldItem
brief (item.Send client bytes) = item.Send client []
brief (item.Show client n packet) = item.Show client n []
brief said = said

abbrev pub brief_note : WorldNote → WorldNote
brief_note said = note said.id (brief said.item)

unfoldable pub said_from : World → List WorldEvent → List (List WorldNote)
said_from w [] = []
said_from w (e ∷ events) = let s = happens e w in map brief_note s.notes ∷ said_from s.world events

-- In a world of channel 7 this is said of these events, the first of all in front.
abbrev pub IsSaid : List Row → Type 0
IsSaid rows = said_from (new_world (new_channel 7 ∷ [])) (map (λ r. r.event) rows) ≡ map (λ r. r.said) rows

abbrev pub row : WorldEvent → List WorldItem → Row
row event said = record { event = event; said = map (note 7) said }

-- a live packet with its marker, or without one
abbrev pub live_row : ℕ → Bool → ℕ → Row
live_row sequence marker n = row (Hub (of_channel 7 (packet sequence 0 marker 4))) (item.Note (noted.Live (live.Took n)) ∷ [])

-- what a note sends
abbrev pub sends : Note → List WorldItem
sends n = item.Note n ∷ item.Send 5 [] ∷ []

abbrev pub shows : ℕ → WorldItem
shows n = item.Show 5 n []

-- a packet that comes is said so
abbrev pub came : MediaCame → WorldItem
came what = item.Media 5 what

abbrev pub post : List ℕ → WorldItem
post bytes = item.Post 5 (front ++ bytes)

-- The receiver is tuned and served: its RAMS-R is datagram 0, the RAMS-I datagram 1.
abbrev pub tuned : List Row
tuned =
    live_row 10 true 65546 ∷ live_row 11 false 65547 ∷ live_row 12 false 65548 ∷ live_row 13 false 65549 ∷ live_row 14 false 65550 ∷ live_row 15 false 65551
    ∷ row (Tune 7 5 0xc001) (post (hex (codes "86cd00040000c001112233440100000001000000")) ∷ [])
    ∷ row (Give 0) (sends (noted.Accept 5 65546 4000 1))
    ∷ []

abbrev pub taken : Row
taken = row (Give 1) (item.Info 5 info.Taken ∷ [])

-- the burst: datagrams 2 to 7
abbrev pub burst : Row
burst =
    row (Hub Tick)
    (sends (noted.Burst 5 65546 500) ++ sends (noted.Burst 5 65547 501) ++ sends (noted.Burst 5 65548 502) ++ sends (noted.Burst 5 65549 503)
    ++ sends (noted.Burst 5 65550 504) ++ sends (noted.Burst 5 65551 505))

-- A burst is lost in part, the receiver joins the multicast and is told of the end; what it lacks is sent again, it presents each packet once, and leaves.
abbrev pub AHandover : Type 0
AHandover =
    IsSaid (
    tuned
    ++ taken
    ∷ burst
    ∷ row (Give 2) (came Took ∷ shows 65546 ∷ [])
    ∷ row (Give 3) (came Took ∷ shows 65547 ∷ [])
    ∷ row (Give 6) (came Took ∷ [])
    ∷ row (Give 7) (came Took ∷ [])
    ∷ row (Give 3) (came Behind ∷ [])
    ∷ live_row 16 false 65552
    ∷ live_row 17 false 65553
    ∷ live_row 18 false 65554
    ∷ row (Mcast 7 5 65552) (came Took ∷ post (hex (codes "86cd00050000c00111223344030000003d00000400010010")) ∷ [])
    ∷ row (Mcast 7 5 65553) (came Took ∷ [])
    ∷ row (Mcast 7 5 65554) (came Took ∷ [])
    ∷ row (Give 8) (item.Note (noted.StopAt 5 65552) ∷ sends (noted.End 5 Stopped))
    ∷ row (Give 9) (item.Info 5 (info.Ended 201) ∷ [])
    ∷ row (Ask 7 5) (post (hex (codes "81cd00030000c00111223344000c0001")) ∷ [])
    ∷ row (Give 10) (item.Note (noted.Queued 5 65548) ∷ item.Note (noted.Queued 5 65549) ∷ [])
    ∷ row (Hub Tick) (sends (noted.Repair 5 65548 506) ++ sends (noted.Repair 5 65549 507))
    ∷ row (Give 11) (came Took ∷ shows 65548 ∷ [])
    ∷ row (Give 12) (came Took ∷ shows 65549 ∷ shows 65550 ∷ shows 65551 ∷ shows 65552 ∷ shows 65553 ∷ shows 65554 ∷ [])
    ∷ row (Drop 7 5) (post (hex (codes "81cb00010000c001")) ∷ [])
    ∷ row (Mcast 7 5 65546) (item.NoReceiver 5 ∷ [])
    ∷ [])

-- without its RAMS-I a receiver takes no packet of the burst
abbrev pub NoBurstWithoutItsInfo : Type 0
NoBurstWithoutItsInfo = IsSaid (tuned ++ burst ∷ row (Give 2) (came BeforeFirst ∷ []) ∷ [])

-- the burst's third packet tells its first number; a multicast packet doesn't, and is dropped
abbrev pub AnyPacketTellsTheFirst : Type 0
AnyPacketTellsTheFirst =
    IsSaid (
    tuned
    ++ taken
    ∷ burst
    ∷ row (Mcast 7 5 65546) (came BeforeFirst ∷ [])
    ∷ row (Give 4) (came Took ∷ [])
    ∷ row (Give 2) (came Took ∷ shows 65546 ∷ [])
    ∷ row (Give 3) (came Took ∷ shows 65547 ∷ shows 65548 ∷ [])
    ∷ [])

-- what is refused, each for the first reason that applies; a client that left can't be tuned again, but its datagrams still come
abbrev pub WhatIsRefused : Type 0
WhatIsRefused =
    IsSaid (
    record { event = Give 99; said = note 0 (item.NoDatagram 99) ∷ [] }
    ∷ record { event = Tune 8 5 0xc001; said = note 8 (item.NoChannel 8) ∷ [] }
    ∷ record { event = Mcast 8 5 1; said = note 8 (item.NoChannel 8) ∷ [] }
    ∷ record { event = Ask 8 5; said = note 8 (item.NoChannel 8) ∷ [] }
    ∷ record { event = Drop 8 5; said = note 8 (item.NoChannel 8) ∷ [] }
    ∷ row (Mcast 7 5 1) (item.NoReceiver 5 ∷ [])
    ∷ row (Ask 7 5) (item.NoReceiver 5 ∷ [])
    ∷ row (Drop 7 5) (item.NoReceiver 5 ∷ [])
    ∷ row (Tune 7 5 0xc001) (post (hex (codes "86cd00040000c001112233440100000001000000")) ∷ [])
    ∷ row (Tune 7 5 0xc002) (item.TunedBefore 5 ∷ [])
    ∷ row (Mcast 7 5 65546) (item.NoPacket 65546 ∷ [])
    ∷ row (Drop 7 5) (post (hex (codes "81cb00010000c001")) ∷ [])
    ∷ row (Tune 7 5 0xc001) (item.TunedBefore 5 ∷ [])
    ∷ row (Give 0) (sends (noted.Refuse 5 507))
    ∷ row (Give 2) (item.NoReceiver 5 ∷ [])
    ∷ row (Give 1) (item.Note (noted.ByeIdle 5) ∷ [])
    ∷ [])

-- a new start of the source: its low bits stand for another number to the receiver
abbrev pub TooFarAway : Type 0
TooFarAway =
    IsSaid (
    tuned
    ++ taken
    ∷ burst
    ∷ row (Give 2) (came Took ∷ shows 65546 ∷ [])
    ∷ row (Hub (of_channel 7 (packet 60010 0 false 4))) (item.Note (noted.Live live.Jump) ∷ [])
    ∷ row (Hub (of_channel 7 (packet 60011 0 false 4))) (item.Note (noted.Live (live.Restart 125547)) ∷ [])
    ∷ row (Mcast 7 5 125547) (item.TooFar 5 ∷ [])
    ∷ [])
