-- What bursts and the channel keep from tick to tick.
use Rattle.std.specs.Prelude.{true, false, [], ◌∷◌, ◌++◌, replicate, codes}
use Rattle.rams_model.specs.declared.event.Event.TheVariants.{Tick}
use Rattle.rams_model.specs.declared.note.Cause.TheVariants as cause
use Rattle.rams_model.specs.declared.note.Note.TheVariants.{Accept, Update, Refuse, Queued, Burst, Repair, End}
use Rattle.rams_model.specs.Worked.Setting.{channel, hex, packet, plain_request, rated_request, nack, step, took, IsAnswered}

-- budgets of 2,999, 4,498 and 4,497 bytes; without a depth the join time is longer
abbrev pub BurstKeepsWhatItLeft : Type 0
BurstKeepsWhatItLeft =
    IsAnswered (record channel { burst = 2999; declared = 0; minwire = 1500; depth = 1499 }) (
    took (packet 10 0 true 1458) 65546
    ∷ took (packet 11 0 false 1458) 65547
    ∷ took (packet 12 0 false 1458) 65548
    ∷ took (packet 13 0 false 1458) 65549
    ∷ took (packet 14 0 false 1458) 65550
    ∷ step (plain_request 5) (Accept 5 65546 2999 3 ∷ [])
    (hex (codes "86cd000caabbccdd11223344020000c82000000201f40000210000040000001e22000004000003e8230000080000000000249be0") ∷ [])
    ∷ step Tick (Burst 5 65546 500 ∷ [])
    ((hex (codes "80e301f40000000011223344000a") ++ replicate 1458 0) ∷ [])
    ∷ step Tick (Burst 5 65547 501 ∷ Burst 5 65548 502 ∷ [])
    ((hex (codes "806301f50000000011223344000b") ++ replicate 1458 0) ∷ (hex (codes "806301f60000000011223344000c") ++ replicate 1458 0) ∷ [])
    ∷ step Tick (Burst 5 65549 503 ∷ Burst 5 65550 504 ∷ [])
    ((hex (codes "806301f70000000011223344000d") ++ replicate 1458 0) ∷ (hex (codes "806301f80000000011223344000e") ++ replicate 1458 0) ∷ [])
    ∷ [])
    × IsAnswered (record channel { burst = 2999; declared = 0; minwire = 1500 }) (
    took (packet 10 0 true 1458) 65546
    ∷ took (packet 11 0 false 1458) 65547
    ∷ took (packet 12 0 false 1458) 65548
    ∷ took (packet 13 0 false 1458) 65549
    ∷ took (packet 14 0 false 1458) 65550
    ∷ step (plain_request 5) (Accept 5 65546 2999 5 ∷ [])
    (hex (codes "86cd000caabbccdd11223344020000c82000000201f40000210000040000003222000004000003e8230000080000000000249be0") ∷ [])
    ∷ [])

-- two bursts with their depths that the share has room for to the byte, and one byte less
abbrev pub DepthIsReserved : Type 0
DepthIsReserved =
    IsAnswered (record channel { burst = 2999; declared = 0; minwire = 1500; depth = 1499; share = 10496 }) (
    took (packet 10 0 true 1458) 65546
    ∷ took (packet 11 0 false 1458) 65547
    ∷ took (packet 12 0 false 1458) 65548
    ∷ took (packet 13 0 false 1458) 65549
    ∷ took (packet 14 0 false 1458) 65550
    ∷ step (plain_request 5) (Accept 5 65546 2999 3 ∷ [])
    (hex (codes "86cd000caabbccdd11223344020000c82000000201f40000210000040000001e22000004000003e8230000080000000000249be0") ∷ [])
    ∷ step (plain_request 6) (Accept 6 65546 2999 3 ∷ [])
    (hex (codes "86cd000caabbccdd11223344020000c82000000201f40000210000040000001e22000004000003e8230000080000000000249be0") ∷ [])
    ∷ [])
    × IsAnswered (record channel { burst = 2999; declared = 0; minwire = 1500; depth = 1499; share = 10495 }) (
    took (packet 10 0 true 1458) 65546
    ∷ took (packet 11 0 false 1458) 65547
    ∷ took (packet 12 0 false 1458) 65548
    ∷ took (packet 13 0 false 1458) 65549
    ∷ took (packet 14 0 false 1458) 65550
    ∷ step (plain_request 5) (Accept 5 65546 2999 3 ∷ [])
    (hex (codes "86cd000caabbccdd11223344020000c82000000201f40000210000040000001e22000004000003e8230000080000000000249be0") ∷ [])
    ∷ step (plain_request 6) (Refuse 6 501 ∷ [])
    (hex (codes "86cd0003aabbccdd11223344020001f5") ∷ [])
    ∷ [])

-- three repairs in one tick from what the tick before left, and with one byte less two, and the third a tick later
abbrev pub ChannelKeepsWhatItLeft : Type 0
ChannelKeepsWhatItLeft =
    IsAnswered (record channel { burst = 1600; share = 3100; swell = 1400 }) (
    took (packet 10 0 false 1458) 65546
    ∷ step Tick [] []
    ∷ step (nack 5 (codes "000a0000")) (Queued 5 65546 ∷ []) []
    ∷ step (nack 6 (codes "000a0000")) (Queued 6 65546 ∷ []) []
    ∷ step (nack 7 (codes "000a0000")) (Queued 7 65546 ∷ []) []
    ∷ step Tick (Repair 5 65546 500 ∷ Repair 6 65546 500 ∷ Repair 7 65546 500 ∷ [])
    ((hex (codes "806301f40000000011223344000a") ++ replicate 1458 0) ∷ (hex (codes "806301f40000000011223344000a") ++ replicate 1458 0) ∷ (hex (codes "806301f40000000011223344000a") ++ replicate 1458 0) ∷ [])
    ∷ [])
    × IsAnswered (record channel { burst = 1600; share = 3100; swell = 1399 }) (
    took (packet 10 0 false 1458) 65546
    ∷ step Tick [] []
    ∷ step (nack 5 (codes "000a0000")) (Queued 5 65546 ∷ []) []
    ∷ step (nack 6 (codes "000a0000")) (Queued 6 65546 ∷ []) []
    ∷ step (nack 7 (codes "000a0000")) (Queued 7 65546 ∷ []) []
    ∷ step Tick (Repair 5 65546 500 ∷ Repair 6 65546 500 ∷ [])
    ((hex (codes "806301f40000000011223344000a") ++ replicate 1458 0) ∷ (hex (codes "806301f40000000011223344000a") ++ replicate 1458 0) ∷ [])
    ∷ step Tick (Repair 7 65546 500 ∷ [])
    ((hex (codes "806301f40000000011223344000a") ++ replicate 1458 0) ∷ [])
    ∷ [])

-- repairs of a client whose burst is behind leave what it keeps; where it has caught up they do not
abbrev pub RepairsLeaveTheDepth : Type 0
RepairsLeaveTheDepth =
    IsAnswered (record channel { burst = 3100; declared = 0; minwire = 1500; depth = 54; share = 6000 }) (
    took (packet 9 0 false 4) 65545
    ∷ took (packet 10 0 true 1458) 65546
    ∷ took (packet 11 0 false 1458) 65547
    ∷ took (packet 12 0 false 1458) 65548
    ∷ took (packet 13 0 false 1458) 65549
    ∷ step (plain_request 5) (Accept 5 65546 3100 4 ∷ [])
    (hex (codes "86cd000caabbccdd11223344020000c82000000201f40000210000040000002822000004000003e823000008000000000025d780") ∷ [])
    ∷ step (nack 5 (codes "00090000")) (Queued 5 65545 ∷ []) []
    ∷ step Tick (Burst 5 65546 500 ∷ Burst 5 65547 501 ∷ Repair 5 65545 502 ∷ [])
    ((hex (codes "80e301f40000000011223344000a") ++ replicate 1458 0) ∷ (hex (codes "806301f50000000011223344000b") ++ replicate 1458 0) ∷ hex (codes "806301f60000000011223344000900000000") ∷ [])
    ∷ [])
    × IsAnswered (record channel { burst = 3100; declared = 0; minwire = 1500; depth = 55; share = 6000 }) (
    took (packet 9 0 false 4) 65545
    ∷ took (packet 10 0 true 1458) 65546
    ∷ took (packet 11 0 false 1458) 65547
    ∷ took (packet 12 0 false 1458) 65548
    ∷ took (packet 13 0 false 1458) 65549
    ∷ step (plain_request 5) (Accept 5 65546 3100 4 ∷ [])
    (hex (codes "86cd000caabbccdd11223344020000c82000000201f40000210000040000002822000004000003e823000008000000000025d780") ∷ [])
    ∷ step (nack 5 (codes "00090000")) (Queued 5 65545 ∷ []) []
    ∷ step Tick (Burst 5 65546 500 ∷ Burst 5 65547 501 ∷ [])
    ((hex (codes "80e301f40000000011223344000a") ++ replicate 1458 0) ∷ (hex (codes "806301f50000000011223344000b") ++ replicate 1458 0) ∷ [])
    ∷ step Tick (Burst 5 65548 502 ∷ Burst 5 65549 503 ∷ Repair 5 65545 504 ∷ [])
    ((hex (codes "806301f60000000011223344000c") ++ replicate 1458 0) ∷ (hex (codes "806301f70000000011223344000d") ++ replicate 1458 0) ∷ hex (codes "806301f80000000011223344000900000000") ∷ [])
    ∷ [])

-- a burst that ends in a tick keeps nothing from the repairs of its client
abbrev pub EndedBurstLeavesAll : Type 0
EndedBurstLeavesAll =
    IsAnswered (record channel { burst = 3000; declared = 0; minwire = 1500; depth = 1000; share = 6000; limit = 1 }) (
    took (packet 9 0 false 4) 65545
    ∷ took (packet 10 0 true 1458) 65546
    ∷ took (packet 11 0 false 1400) 65547
    ∷ took (packet 12 0 false 1458) 65548
    ∷ step (nack 5 (codes "00090000")) (Queued 5 65545 ∷ []) []
    ∷ step (plain_request 5) (Accept 5 65546 3000 2 ∷ [])
    (hex (codes "86cd000caabbccdd11223344020000c82000000201f400002100000400000014220000040000000a230000080000000000249f00") ∷ [])
    ∷ step Tick (Burst 5 65546 500 ∷ Burst 5 65547 501 ∷ End 5 cause.Limit ∷ Repair 5 65545 502 ∷ [])
    ((hex (codes "80e301f40000000011223344000a") ++ replicate 1458 0) ∷ (hex (codes "806301f50000000011223344000b") ++ replicate 1400 0) ∷ hex (codes "86cd0003aabbccdd11223344020100c9") ∷ hex (codes "806301f60000000011223344000900000000") ∷ [])
    ∷ [])

-- a new rate counts from the next tick on, beside what the last one left
abbrev pub UpdateKeepsWhatIsKept : Type 0
UpdateKeepsWhatIsKept =
    IsAnswered (record channel { burst = 4000; declared = 0; minwire = 1500; depth = 1499 }) (
    took (packet 10 0 true 1458) 65546
    ∷ took (packet 11 0 false 1458) 65547
    ∷ took (packet 12 0 false 1458) 65548
    ∷ took (packet 13 0 false 1458) 65549
    ∷ step (rated_request 5 (codes "00236680")) (Accept 5 65546 2900 3 ∷ [])
    (hex (codes "86cd000caabbccdd11223344020000c82000000201f40000210000040000001e22000004000003e8230000080000000000236680") ∷ [])
    ∷ step Tick (Burst 5 65546 500 ∷ [])
    ((hex (codes "80e301f40000000011223344000a") ++ replicate 1458 0) ∷ [])
    ∷ step (rated_request 5 (codes "00138800")) (Update 5 1600 3 ∷ [])
    (hex (codes "86cd000caabbccdd11223344020100642000000201f40000210000040000001e22000004000003de230000080000000000138800") ∷ [])
    ∷ step Tick (Burst 5 65547 501 ∷ Burst 5 65548 502 ∷ [])
    ((hex (codes "806301f50000000011223344000b") ++ replicate 1458 0) ∷ (hex (codes "806301f60000000011223344000c") ++ replicate 1458 0) ∷ [])
    ∷ step Tick (Burst 5 65549 503 ∷ [])
    ((hex (codes "806301f70000000011223344000d") ++ replicate 1458 0) ∷ [])
    ∷ [])
