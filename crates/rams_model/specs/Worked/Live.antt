-- Live packets: numbers, the reordering window, restarts.
use Rattle.std.specs.Prelude.{true, false, [], ◌∷◌, ◌++◌, replicate, codes}
use Rattle.rams_model.specs.declared.{channel.Access.TheVariants.Ts, event.Event.TheVariants.Live, event.Event.TheVariants.Tick}
use Rattle.rams_model.specs.declared.fault.RtpFault.TheVariants as rtp
use Rattle.rams_model.specs.declared.note.Cause.TheVariants as cause
use Rattle.rams_model.specs.declared.note.LiveNote.TheVariants.{Restart, Late, Twice, Jump, ForeignSsrc, ForeignType, TooBig, Bad}
use Rattle.rams_model.specs.declared.note.Note.TheVariants.{Accept, Refuse, Queued, Unheld, Burst, Repair, End}
use Rattle.rams_model.specs.Worked.Setting.{channel, hex, packet, packet_of, live, plain_request, nack, step, took, noted, IsAnswered}

-- each note of a live packet that is not numbered, and those of the reordering window
abbrev pub LiveRefusals : Type 0
LiveRefusals =
    IsAnswered (record channel { window = 2 }) (
    noted (live (codes "")) (Bad rtp.Short)
    ∷ noted (live (codes "40")) (Bad rtp.Short)
    ∷ noted (packet 1 0 false 1459) TooBig
    ∷ took (packet 10 0 false 4) 65546
    ∷ took (packet 12 0 false 4) 65548
    ∷ noted (packet 12 0 false 4) Twice
    ∷ noted (packet 10 0 false 4) Late
    ∷ noted (packet_of 0x11223345 33 10 0 false 4) ForeignSsrc
    ∷ noted (packet_of 0x11223344 34 10 0 false 4) ForeignType
    ∷ noted (live (codes "4021000a000000001122334400000000")) (Bad rtp.Version)
    ∷ [])

-- within a window of two places a packet may come late; what comes later is dropped
abbrev pub WindowAndLate : Type 0
WindowAndLate =
    IsAnswered (record channel { window = 2 }) (
    took (packet 10 0 false 4) 65546
    ∷ took (packet 12 0 false 4) 65548
    ∷ took (packet 11 0 false 4) 65547
    ∷ took (packet 14 0 false 4) 65550
    ∷ took (packet 15 0 false 4) 65551
    ∷ took (packet 16 0 false 4) 65552
    ∷ noted (packet 13 0 false 4) Late
    ∷ step (nack 5 (codes "000c0002")) (Unheld 5 12 ∷ Queued 5 65550 ∷ []) []
    ∷ [])

-- two packets in order after a jump begin a new start; a burst of the old one is lost
abbrev pub RestartLosesTheBurst : Type 0
RestartLosesTheBurst =
    IsAnswered channel (
    took (packet 10 0 true 4) 65546
    ∷ step (plain_request 5) (Accept 5 65546 4000 1 ∷ [])
    (hex (codes "86cd000caabbccdd11223344020000c82000000201f40000210000040000000a22000004000003e823000008000000000030d400") ∷ [])
    ∷ noted (packet 20010 0 false 4) Jump
    ∷ noted (packet 20011 0 false 4) (Restart 85547)
    ∷ step Tick (End 5 cause.Lost ∷ [])
    (hex (codes "86cd0003aabbccdd11223344020101f6") ∷ [])
    ∷ [])

-- a packet with a contributing source, a header extension and padding is sent again without its padding
abbrev pub PaddingAndExtension : Type 0
PaddingAndExtension =
    IsAnswered channel (
    took (live (codes "b2a1000a00000000112233440000000100000002bede000110ff0000aabb0002")) 65546
    ∷ step (plain_request 5) (Accept 5 65546 4000 1 ∷ [])
    (hex (codes "86cd000caabbccdd11223344020000c82000000201f40000210000040000000a22000004000003e823000008000000000030d400") ∷ [])
    ∷ step Tick (Burst 5 65546 500 ∷ [])
    (hex (codes "92e301f400000000112233440000000100000002bede000110ff0000000aaabb") ∷ [])
    ∷ [])

-- bytes that end inside the contributing sources, inside the header extension (twice), and padding counts of 0, of too much, and of none
abbrev pub EveryBadPacket : Type 0
EveryBadPacket =
    IsAnswered channel (
    noted (live (codes "82210001000000001122334400000001")) (Bad rtp.Csrc)
    ∷ noted (live (codes "9021000100000000112233440000")) (Bad rtp.Extension)
    ∷ noted (live (codes "902100010000000011223344bede0001")) (Bad rtp.Extension)
    ∷ noted (live (codes "a0210001000000001122334400")) (Bad rtp.Padding)
    ∷ noted (live (codes "a021000100000000112233440003")) (Bad rtp.Padding)
    ∷ noted (live (codes "a02100010000000011223344")) (Bad rtp.Padding)
    ∷ [])

-- a packet 2,999 ahead of the greatest is in reach, one 3,000 ahead jumps; one 99 behind is in reach, and late here, one 100 behind jumps
abbrev pub ReachOfNumbers : Type 0
ReachOfNumbers =
    IsAnswered channel (
    took (packet 10 0 false 4) 65546
    ∷ took (packet 3009 0 false 4) 68545
    ∷ noted (packet 6009 0 false 4) Jump
    ∷ noted (packet 2910 0 false 4) Late
    ∷ noted (packet 2909 0 false 4) Jump
    ∷ [])

-- the packet after a jump may come later, behind others; a jump elsewhere takes its place
abbrev pub JumpIsKept : Type 0
JumpIsKept =
    IsAnswered channel (
    took (packet 10 0 false 4) 65546
    ∷ noted (packet 20010 0 false 4) Jump
    ∷ took (packet 11 0 false 4) 65547
    ∷ noted (packet 11 0 false 4) Late
    ∷ noted (packet 20011 0 false 4) (Restart 85547)
    ∷ noted (packet 50000 0 false 4) Jump
    ∷ noted (packet 60000 0 false 4) Jump
    ∷ noted (packet 50001 0 false 4) Jump
    ∷ noted (packet 60001 0 false 4) Jump
    ∷ noted (packet 60001 0 false 4) Jump
    ∷ took (packet 20012 0 false 4) 85548
    ∷ noted (packet 20012 0 false 4) Late
    ∷ [])

-- packets that wait as a new start begins are never held; a packet of the old start is far from the new one, or late
abbrev pub WindowAtARestart : Type 0
WindowAtARestart =
    IsAnswered (record channel { window = 4 }) (
    took (packet 10 0 true 4) 65546
    ∷ took (packet 12 0 true 4) 65548
    ∷ noted (packet 20010 0 false 4) Jump
    ∷ noted (packet 20011 0 true 4) (Restart 85547)
    ∷ noted (packet 13 0 false 4) Jump
    ∷ noted (packet 19980 0 false 4) Late
    ∷ step (nack 5 (codes "000a0002")) (Unheld 5 10 ∷ Unheld 5 12 ∷ []) []
    ∷ step (nack 5 (codes "4e2b0000")) (Queued 5 85547 ∷ []) []
    ∷ step (plain_request 5) (Accept 5 85547 4000 1 ∷ [])
    (hex (codes "86cd000caabbccdd11223344020000c82000000201f40000210000040000000a22000004000003e823000008000000000030d400") ∷ [])
    ∷ step Tick (Burst 5 85547 500 ∷ Repair 5 85547 501 ∷ [])
    (hex (codes "80e301f400000000112233444e2b00000000") ∷ hex (codes "80e301f500000000112233444e2b00000000") ∷ [])
    ∷ [])

-- the window waits for a number until the greatest is further ahead than its width; then the packets behind it are held
abbrev pub WindowReleases : Type 0
WindowReleases =
    IsAnswered (record channel { window = 2 }) (
    took (packet 10 0 true 4) 65546
    ∷ took (packet 12 0 false 4) 65548
    ∷ step (nack 5 (codes "000c0000")) (Unheld 5 12 ∷ []) []
    ∷ took (packet 13 0 false 4) 65549
    ∷ step (nack 5 (codes "000c0000")) (Unheld 5 12 ∷ []) []
    ∷ took (packet 14 0 false 4) 65550
    ∷ step (nack 5 (codes "000c0000")) (Queued 5 65548 ∷ []) []
    ∷ noted (packet 11 0 false 4) Late
    ∷ [])

-- access points by the flag of TS packets: in the second of two packets, and not in one whose adaptation field is empty, nor in a rest of 187 bytes
abbrev pub RandomAccessFlag : Type 0
RandomAccessFlag =
    IsAnswered (record channel { access = Ts; minwire = 1500 }) (
    took (Live (hex (codes "80a1000a0000000011223344474000200040") ++ replicate 182 0 ++ hex (codes "474000200140") ++ replicate 182 0)) 65546
    ∷ step (plain_request 5) (Accept 5 65546 4000 1 ∷ [])
    (hex (codes "86cd000caabbccdd11223344020000c82000000201f40000210000040000000a22000004000003e823000008000000000030d400") ∷ [])
    ∷ [])
    × IsAnswered (record channel { access = Ts; minwire = 1500 }) (
    took (Live (hex (codes "80a1000a0000000011223344474000200040") ++ replicate 182 0 ++ hex (codes "474000200140") ++ replicate 181 0)) 65546
    ∷ step (plain_request 5) (Refuse 5 507 ∷ [])
    (hex (codes "86cd0003aabbccdd11223344020001fb") ∷ [])
    ∷ [])
