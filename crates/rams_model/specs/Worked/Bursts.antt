-- Bursts: where they begin, what they send, how they end.
use Rattle.std.specs.Prelude.{true, false, [], ◌∷◌, ◌++◌, replicate, codes}
use Rattle.rams_model.specs.declared.event.Event.TheVariants.{Tick}
use Rattle.rams_model.specs.declared.note.Cause.TheVariants as cause
use Rattle.rams_model.specs.declared.note.Note.TheVariants.{Accept, Refuse, Burst, End, Forgot}
use Rattle.rams_model.specs.Worked.Setting.{channel, hex, packet, plain_request, rated_request, step, took, IsAnswered}

-- at 1,500 bytes a tick a burst is sent one packet in each tick
abbrev pub OnePacketPerTick : Type 0
OnePacketPerTick =
    IsAnswered (record channel { burst = 1500; declared = 0; minwire = 1500 }) (
    took (packet 10 0 false 1458) 65546
    ∷ took (packet 11 900 true 1458) 65547
    ∷ took (packet 12 1800 false 1458) 65548
    ∷ step (plain_request 5) (Accept 5 65547 1500 3000 ∷ [])
    (hex (codes "86cd000caabbccdd11223344020000c82000000201f40000210000040000753022000004000003e8230000080000000000124f80") ∷ [])
    ∷ step Tick (Burst 5 65547 500 ∷ [])
    ((hex (codes "80e301f40000038411223344000b") ++ replicate 1458 0) ∷ [])
    ∷ step Tick (Burst 5 65548 501 ∷ [])
    ((hex (codes "806301f50000070811223344000c") ++ replicate 1458 0) ∷ [])
    ∷ [])

-- a burst begins at an access point, and only where what stands from it on surely fits into the ring
abbrev pub NoEligibleAccessPoint : Type 0
NoEligibleAccessPoint =
    IsAnswered channel (
    took (packet 10 0 false 4) 65546
    ∷ step (plain_request 5) (Refuse 5 507 ∷ [])
    (hex (codes "86cd0003aabbccdd11223344020001fb") ∷ [])
    ∷ [])
    × IsAnswered (record channel { ring = 1; declared = 0; minwire = 45 }) (
    took (packet 10 0 true 4) 65546
    ∷ step (plain_request 5) (Refuse 5 507 ∷ [])
    (hex (codes "86cd0003aabbccdd11223344020001fb") ∷ [])
    ∷ [])
    × IsAnswered (record channel { ring = 1; declared = 0; minwire = 46 }) (
    took (packet 10 0 true 4) 65546
    ∷ step (plain_request 5) (Accept 5 65546 4000 1 ∷ [])
    (hex (codes "86cd000caabbccdd11223344020000c82000000201f40000210000040000000a22000004000003e823000008000000000030d400") ∷ [])
    ∷ [])

-- a burst whose next packet the ring has let go ends, lost
abbrev pub BurstLost : Type 0
BurstLost =
    IsAnswered (record channel { ring = 4; minwire = 100 }) (
    took (packet 10 0 true 4) 65546
    ∷ step (plain_request 5) (Accept 5 65546 4000 1 ∷ [])
    (hex (codes "86cd000caabbccdd11223344020000c82000000201f40000210000040000000a22000004000003e823000008000000000030d400") ∷ [])
    ∷ took (packet 11 0 false 4) 65547
    ∷ took (packet 12 0 false 4) 65548
    ∷ took (packet 13 0 false 4) 65549
    ∷ took (packet 14 0 false 4) 65550
    ∷ took (packet 15 0 false 4) 65551
    ∷ step Tick (End 5 cause.Lost ∷ [])
    (hex (codes "86cd0003aabbccdd11223344020101f6") ∷ [])
    ∷ [])

-- a burst ends after `limit` ticks; a client that is idle for `idle` ticks is forgotten
abbrev pub LimitAndIdle : Type 0
LimitAndIdle =
    IsAnswered (record channel { limit = 1; idle = 2 }) (
    took (packet 10 0 true 4) 65546
    ∷ step (plain_request 5) (Accept 5 65546 4000 1 ∷ [])
    (hex (codes "86cd000caabbccdd11223344020000c82000000201f40000210000040000000a220000040000000a23000008000000000030d400") ∷ [])
    ∷ step Tick (Burst 5 65546 500 ∷ End 5 cause.Limit ∷ [])
    (hex (codes "80e301f40000000011223344000a00000000") ∷ hex (codes "86cd0003aabbccdd11223344020100c9") ∷ [])
    ∷ step Tick [] []
    ∷ step Tick (Forgot 5 ∷ []) []
    ∷ [])

-- two bursts that the share has room for to the byte, and one byte less
abbrev pub ShareIsSpent : Type 0
ShareIsSpent =
    IsAnswered (record channel { share = 9500 }) (
    took (packet 10 0 true 4) 65546
    ∷ step (plain_request 5) (Accept 5 65546 4000 1 ∷ [])
    (hex (codes "86cd000caabbccdd11223344020000c82000000201f40000210000040000000a22000004000003e823000008000000000030d400") ∷ [])
    ∷ step (plain_request 6) (Accept 6 65546 4000 1 ∷ [])
    (hex (codes "86cd000caabbccdd11223344020000c82000000201f40000210000040000000a22000004000003e823000008000000000030d400") ∷ [])
    ∷ [])
    × IsAnswered (record channel { share = 9499 }) (
    took (packet 10 0 true 4) 65546
    ∷ step (plain_request 5) (Accept 5 65546 4000 1 ∷ [])
    (hex (codes "86cd000caabbccdd11223344020000c82000000201f40000210000040000000a22000004000003e823000008000000000030d400") ∷ [])
    ∷ step (plain_request 6) (Refuse 6 501 ∷ [])
    (hex (codes "86cd0003aabbccdd11223344020001f5") ∷ [])
    ∷ [])

-- a client that receives 1,600 bytes a tick, and one that receives a byte less, which is too slow to catch up
abbrev pub SlowClient : Type 0
SlowClient =
    IsAnswered channel (
    took (packet 10 0 true 4) 65546
    ∷ step (rated_request 5 (codes "00138800")) (Accept 5 65546 1600 46 ∷ [])
    (hex (codes "86cd000caabbccdd11223344020000c82000000201f4000021000004000001cc22000004000003e8230000080000000000138800") ∷ [])
    ∷ [])
    × IsAnswered channel (
    took (packet 10 0 true 4) 65546
    ∷ step (rated_request 5 (codes "001387ff")) (Refuse 5 403 ∷ [])
    (hex (codes "86cd0003aabbccdd1122334402000193") ∷ [])
    ∷ [])

-- a burst that catches up in its third tick, as it was told, and not before
abbrev pub StatedJoinTimeIsKept : Type 0
StatedJoinTimeIsKept =
    IsAnswered (record channel { burst = 2999; declared = 0; minwire = 1500 }) (
    took (packet 10 0 true 1458) 65546
    ∷ took (packet 11 0 false 1458) 65547
    ∷ took (packet 12 0 false 1458) 65548
    ∷ step (plain_request 5) (Accept 5 65546 2999 3 ∷ [])
    (hex (codes "86cd000caabbccdd11223344020000c82000000201f40000210000040000001e22000004000003e8230000080000000000249be0") ∷ [])
    ∷ step Tick (Burst 5 65546 500 ∷ [])
    ((hex (codes "80e301f40000000011223344000a") ++ replicate 1458 0) ∷ [])
    ∷ step Tick (Burst 5 65547 501 ∷ [])
    ((hex (codes "806301f50000000011223344000b") ++ replicate 1458 0) ∷ [])
    ∷ step Tick (Burst 5 65548 502 ∷ [])
    ((hex (codes "806301f60000000011223344000c") ++ replicate 1458 0) ∷ [])
    ∷ [])

-- an eligible access point is still held after a tick of what the source declares
abbrev pub RingIsFilled : Type 0
RingIsFilled =
    IsAnswered (record channel { ring = 4; declared = 142; minwire = 142; burst = 1642 }) (
    took (packet 10 0 true 100) 65546
    ∷ took (packet 11 0 false 100) 65547
    ∷ took (packet 12 0 false 100) 65548
    ∷ step (plain_request 5) (Accept 5 65546 1642 426 ∷ [])
    (hex (codes "86cd000caabbccdd11223344020000c82000000201f4000021000004000010a422000004000003e8230000080000000000140b40") ∷ [])
    ∷ took (packet 13 0 false 100) 65549
    ∷ step Tick (Burst 5 65546 500 ∷ Burst 5 65547 501 ∷ Burst 5 65548 502 ∷ Burst 5 65549 503 ∷ [])
    ((hex (codes "80e301f40000000011223344000a") ++ replicate 100 0) ∷ (hex (codes "806301f50000000011223344000b") ++ replicate 100 0) ∷ (hex (codes "806301f60000000011223344000c") ++ replicate 100 0) ∷ (hex (codes "806301f70000000011223344000d") ++ replicate 100 0) ∷ [])
    ∷ [])

-- where the source sends twice what it declares, the burst is lost
abbrev pub SourceSendsMoreThanDeclared : Type 0
SourceSendsMoreThanDeclared =
    IsAnswered (record channel { ring = 4; declared = 142; minwire = 142; burst = 1642 }) (
    took (packet 10 0 true 100) 65546
    ∷ took (packet 11 0 false 100) 65547
    ∷ took (packet 12 0 false 100) 65548
    ∷ step (plain_request 5) (Accept 5 65546 1642 426 ∷ [])
    (hex (codes "86cd000caabbccdd11223344020000c82000000201f4000021000004000010a422000004000003e8230000080000000000140b40") ∷ [])
    ∷ took (packet 13 0 false 100) 65549
    ∷ took (packet 14 0 false 100) 65550
    ∷ step Tick (End 5 cause.Lost ∷ [])
    (hex (codes "86cd0003aabbccdd11223344020101f6") ∷ [])
    ∷ [])

-- with one packet more behind it the access point is not eligible
abbrev pub NotEligibleWithOneMore : Type 0
NotEligibleWithOneMore =
    IsAnswered (record channel { ring = 4; declared = 142; minwire = 142; burst = 1642 }) (
    took (packet 10 0 true 100) 65546
    ∷ took (packet 11 0 false 100) 65547
    ∷ took (packet 12 0 false 100) 65548
    ∷ took (packet 13 0 false 100) 65549
    ∷ step (plain_request 5) (Refuse 5 507 ∷ [])
    (hex (codes "86cd0003aabbccdd11223344020001fb") ∷ [])
    ∷ [])

-- bursts are served by rising client, whatever order they began in, and each client has its own sequence numbers
abbrev pub BurstsInTheOrderOfClients : Type 0
BurstsInTheOrderOfClients =
    IsAnswered (record channel { share = 20000 }) (
    took (packet 10 0 true 4) 65546
    ∷ took (packet 11 0 false 4) 65547
    ∷ step (plain_request 9) (Accept 9 65546 4000 1 ∷ [])
    (hex (codes "86cd000caabbccdd11223344020000c82000000201f40000210000040000000a22000004000003e823000008000000000030d400") ∷ [])
    ∷ step (plain_request 2) (Accept 2 65546 4000 1 ∷ [])
    (hex (codes "86cd000caabbccdd11223344020000c82000000201f40000210000040000000a22000004000003e823000008000000000030d400") ∷ [])
    ∷ step Tick (Burst 2 65546 500 ∷ Burst 2 65547 501 ∷ Burst 9 65546 500 ∷ Burst 9 65547 501 ∷ [])
    (hex (codes "80e301f40000000011223344000a00000000") ∷ hex (codes "806301f50000000011223344000b00000000") ∷ hex (codes "80e301f40000000011223344000a00000000") ∷ hex (codes "806301f50000000011223344000b00000000") ∷ [])
    ∷ [])

-- a burst that has caught up is sent each packet in the tick after it came
abbrev pub BurstWaitsForTheSource : Type 0
BurstWaitsForTheSource =
    IsAnswered channel (
    took (packet 10 0 true 4) 65546
    ∷ step (plain_request 5) (Accept 5 65546 4000 1 ∷ [])
    (hex (codes "86cd000caabbccdd11223344020000c82000000201f40000210000040000000a22000004000003e823000008000000000030d400") ∷ [])
    ∷ step Tick (Burst 5 65546 500 ∷ [])
    (hex (codes "80e301f40000000011223344000a00000000") ∷ [])
    ∷ step Tick [] []
    ∷ took (packet 11 0 false 4) 65547
    ∷ step Tick (Burst 5 65547 501 ∷ [])
    (hex (codes "806301f50000000011223344000b00000000") ∷ [])
    ∷ [])

-- a packet that does not fit is not skipped for a smaller one behind it
abbrev pub RunStopsAtTheFirstThatDoesNotFit : Type 0
RunStopsAtTheFirstThatDoesNotFit =
    IsAnswered (record channel { burst = 1600; minwire = 1500 }) (
    took (packet 10 0 true 1400) 65546
    ∷ took (packet 11 0 false 1400) 65547
    ∷ took (packet 12 0 false 4) 65548
    ∷ step (plain_request 5) (Accept 5 65546 1600 2930 ∷ [])
    (hex (codes "86cd000caabbccdd11223344020000c82000000201f40000210000040000727422000004000003e8230000080000000000138800") ∷ [])
    ∷ step Tick (Burst 5 65546 500 ∷ [])
    ((hex (codes "80e301f40000000011223344000a") ++ replicate 1400 0) ∷ [])
    ∷ step Tick (Burst 5 65547 501 ∷ Burst 5 65548 502 ∷ [])
    ((hex (codes "806301f50000000011223344000b") ++ replicate 1400 0) ∷ hex (codes "806301f60000000011223344000c00000000") ∷ [])
    ∷ [])
