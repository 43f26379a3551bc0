-- RAMS-T: where a burst stops.
use Rattle.std.specs.Prelude.{true, false, [], ◌∷◌, codes}
use Rattle.rams_model.specs.declared.event.Event.TheVariants.{Tick}
use Rattle.rams_model.specs.declared.note.Cause.TheVariants as cause
use Rattle.rams_model.specs.declared.note.Note.TheVariants.{Accept, StopAt, StopKept, StopIdle, Burst, End}
use Rattle.rams_model.specs.Worked.Setting.{channel, hex, packet, feedback, plain_request, stop_request, step, took, IsAnswered}

-- a stop is named by 16 bits, and means a number from the first of the burst on
abbrev pub StopAcrossTheWrap : Type 0
StopAcrossTheWrap =
    IsAnswered channel (
    took (packet 65534 0 true 4) 131070
    ∷ took (packet 65535 900 false 4) 131071
    ∷ took (packet 0 1800 false 4) 131072
    ∷ took (packet 1 2700 false 4) 131073
    ∷ step (plain_request 5) (Accept 5 131070 4000 1 ∷ [])
    (hex (codes "86cd000caabbccdd11223344020000c82000000201f40000210000040000000a22000004000003e823000008000000000030d400") ∷ [])
    ∷ step (stop_request 5 (codes "00000001")) (StopAt 5 131073 ∷ []) []
    ∷ step Tick (Burst 5 131070 500 ∷ Burst 5 131071 501 ∷ Burst 5 131072 502 ∷ End 5 cause.Stopped ∷ [])
    (hex (codes "80e301f40000000011223344fffe00000000") ∷ hex (codes "806301f50000038411223344ffff00000000") ∷ hex (codes "806301f60000070811223344000000000000") ∷ hex (codes "86cd0003aabbccdd11223344020100c9") ∷ [])
    ∷ [])

-- a stop at a packet that was sent ends the burst at once; then there is none to stop
abbrev pub StopAfterTheLast : Type 0
StopAfterTheLast =
    IsAnswered channel (
    took (packet 65534 0 true 4) 131070
    ∷ took (packet 65535 900 false 4) 131071
    ∷ took (packet 0 1800 false 4) 131072
    ∷ took (packet 1 2700 false 4) 131073
    ∷ step (plain_request 5) (Accept 5 131070 4000 1 ∷ [])
    (hex (codes "86cd000caabbccdd11223344020000c82000000201f40000210000040000000a22000004000003e823000008000000000030d400") ∷ [])
    ∷ step Tick (Burst 5 131070 500 ∷ Burst 5 131071 501 ∷ Burst 5 131072 502 ∷ Burst 5 131073 503 ∷ [])
    (hex (codes "80e301f40000000011223344fffe00000000") ∷ hex (codes "806301f50000038411223344ffff00000000") ∷ hex (codes "806301f60000070811223344000000000000") ∷ hex (codes "806301f700000a8c11223344000100000000") ∷ [])
    ∷ step (stop_request 5 (codes "0000ffff")) (StopAt 5 131074 ∷ End 5 cause.Stopped ∷ [])
    (hex (codes "86cd0003aabbccdd11223344020100c9") ∷ [])
    ∷ step (stop_request 5 (codes "0000ffff")) (StopIdle 5 ∷ []) []
    ∷ [])

-- a stop at the first packet of all ends the burst before it sends anything
abbrev pub StopAlreadyPassed : Type 0
StopAlreadyPassed =
    IsAnswered channel (
    took (packet 65534 0 true 4) 131070
    ∷ took (packet 65535 900 false 4) 131071
    ∷ took (packet 0 1800 false 4) 131072
    ∷ took (packet 1 2700 false 4) 131073
    ∷ step (plain_request 5) (Accept 5 131070 4000 1 ∷ [])
    (hex (codes "86cd000caabbccdd11223344020000c82000000201f40000210000040000000a22000004000003e823000008000000000030d400") ∷ [])
    ∷ step (stop_request 5 (codes "0000fffe")) (StopAt 5 131070 ∷ End 5 cause.Stopped ∷ [])
    (hex (codes "86cd0003aabbccdd11223344020100c9") ∷ [])
    ∷ step Tick [] []
    ∷ [])

-- the high bits of the number are not looked at
abbrev pub StopHighBits : Type 0
StopHighBits =
    IsAnswered channel (
    took (packet 65534 0 true 4) 131070
    ∷ took (packet 65535 900 false 4) 131071
    ∷ took (packet 0 1800 false 4) 131072
    ∷ took (packet 1 2700 false 4) 131073
    ∷ step (plain_request 5) (Accept 5 131070 4000 1 ∷ [])
    (hex (codes "86cd000caabbccdd11223344020000c82000000201f40000210000040000000a22000004000003e823000008000000000030d400") ∷ [])
    ∷ step (stop_request 5 (codes "00090001")) (StopAt 5 131073 ∷ []) []
    ∷ step Tick (Burst 5 131070 500 ∷ Burst 5 131071 501 ∷ Burst 5 131072 502 ∷ End 5 cause.Stopped ∷ [])
    (hex (codes "80e301f40000000011223344fffe00000000") ∷ hex (codes "806301f50000038411223344ffff00000000") ∷ hex (codes "806301f60000070811223344000000000000") ∷ hex (codes "86cd0003aabbccdd11223344020100c9") ∷ [])
    ∷ [])

-- a second stop changes nothing, and is told the first
abbrev pub StopIsKept : Type 0
StopIsKept =
    IsAnswered channel (
    took (packet 65534 0 true 4) 131070
    ∷ took (packet 65535 900 false 4) 131071
    ∷ took (packet 0 1800 false 4) 131072
    ∷ took (packet 1 2700 false 4) 131073
    ∷ step (plain_request 5) (Accept 5 131070 4000 1 ∷ [])
    (hex (codes "86cd000caabbccdd11223344020000c82000000201f40000210000040000000a22000004000003e823000008000000000030d400") ∷ [])
    ∷ step (stop_request 5 (codes "00000001")) (StopAt 5 131073 ∷ []) []
    ∷ step (stop_request 5 (codes "0000ffff")) (StopKept 5 131073 ∷ []) []
    ∷ step Tick (Burst 5 131070 500 ∷ Burst 5 131071 501 ∷ Burst 5 131072 502 ∷ End 5 cause.Stopped ∷ [])
    (hex (codes "80e301f40000000011223344fffe00000000") ∷ hex (codes "806301f50000038411223344ffff00000000") ∷ hex (codes "806301f60000070811223344000000000000") ∷ hex (codes "86cd0003aabbccdd11223344020100c9") ∷ [])
    ∷ [])

-- a RAMS-T without a number stops a burst where it is, before anything was sent; the next burst has the same first sequence number
abbrev pub StopWithoutNumber : Type 0
StopWithoutNumber =
    IsAnswered channel (
    took (packet 65534 0 true 4) 131070
    ∷ took (packet 65535 900 false 4) 131071
    ∷ took (packet 0 1800 false 4) 131072
    ∷ took (packet 1 2700 false 4) 131073
    ∷ step (plain_request 5) (Accept 5 131070 4000 1 ∷ [])
    (hex (codes "86cd000caabbccdd11223344020000c82000000201f40000210000040000000a22000004000003e823000008000000000030d400") ∷ [])
    ∷ step (feedback 5 (codes "86cd00030000c0011122334403000000")) (StopAt 5 131070 ∷ End 5 cause.Stopped ∷ [])
    (hex (codes "86cd0003aabbccdd11223344020100c9") ∷ [])
    ∷ step (plain_request 5) (Accept 5 131070 4000 1 ∷ [])
    (hex (codes "86cd000caabbccdd11223344020000c82000000201f40000210000040000000a22000004000003e823000008000000000030d400") ∷ [])
    ∷ step Tick (Burst 5 131070 500 ∷ Burst 5 131071 501 ∷ Burst 5 131072 502 ∷ Burst 5 131073 503 ∷ [])
    (hex (codes "80e301f40000000011223344fffe00000000") ∷ hex (codes "806301f50000038411223344ffff00000000") ∷ hex (codes "806301f60000070811223344000000000000") ∷ hex (codes "806301f700000a8c11223344000100000000") ∷ [])
    ∷ step (feedback 5 (codes "86cd00030000c0011122334403000000")) (StopAt 5 131074 ∷ End 5 cause.Stopped ∷ [])
    (hex (codes "86cd0003aabbccdd11223344020100c9") ∷ [])
    ∷ [])
