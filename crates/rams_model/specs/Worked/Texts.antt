-- The line of every note, and the lines of a book.
use Rattle.std.specs.Prelude.{◌≡◌, ℕ, true, List, [], ◌∷◌, ◌++◌, map, reverse, codes}
use Rattle.rams_model.specs.declared.{event.Event.TheVariants.Tick, note.Note.Note}
use Rattle.rams_model.specs.declared.fault.FrameFault.TheVariants as frame
use Rattle.rams_model.specs.declared.fault.RtpFault.TheVariants as rtp
use Rattle.rams_model.specs.declared.note.Cause.TheVariants as cause
use Rattle.rams_model.specs.declared.note.LiveNote.TheVariants.{Took, Restart, Late, Twice, Jump, ForeignSsrc, ForeignType, TooBig, Bad}
use Rattle.rams_model.specs.declared.note.Note.TheVariants.{Live as LiveNoted, Accept, Update, Again, Refuse, StopAt, StopKept, StopIdle, Queued, Already, Unheld, Early, TableFull, ClientFull, QueueFull, ForeignNack, BadFeedback, Bye, ByeIdle, Burst, Repair, Gone, End, Forgot}
use Rattle.rams_model.specs.Texts.{note_line, book_lines}
use Rattle.rams_model.specs.Service.{book}
use Rattle.rams_model.specs.Worked.Setting.{channel, with_ticks, packet, plain_request}

-- the lines of these notes, of event 3 of channel 7
abbrev lines : List Note → List (List ℕ)
lines notes = map (note_line 3 7) notes

-- those of live packets
abbrev pub LiveNoteLines : Type 0
LiveNoteLines =
    lines (map (λ n. LiveNoted n) (Took 65546 ∷ Restart 85547 ∷ Late ∷ Twice ∷ Jump ∷ ForeignSsrc ∷ ForeignType ∷ TooBig
    ∷ Bad rtp.Short ∷ Bad rtp.Version ∷ Bad rtp.Csrc ∷ Bad rtp.Extension ∷ Bad rtp.Padding ∷ []))
    ≡ codes "3 7 took 65546\n" ∷ codes "3 7 restart 85547\n" ∷ codes "3 7 late\n" ∷ codes "3 7 twice\n" ∷ codes "3 7 jump\n"
    ∷ codes "3 7 foreign-ssrc\n" ∷ codes "3 7 foreign-type\n" ∷ codes "3 7 too-big\n" ∷ codes "3 7 bad short\n" ∷ codes "3 7 bad version\n"
    ∷ codes "3 7 bad csrc\n" ∷ codes "3 7 bad extension\n" ∷ codes "3 7 bad padding\n" ∷ []

-- those of requests, stops and BYEs
abbrev pub MessageNoteLines : Type 0
MessageNoteLines =
    lines (Accept 5 65546 1600 46 ∷ Update 5 3200 1 ∷ Again 5 ∷ Refuse 5 503 ∷ StopAt 5 65549 ∷ StopKept 5 65549 ∷ StopIdle 5 ∷ Bye 5 ∷ ByeIdle 5
    ∷ BadFeedback 5 frame.Empty ∷ BadFeedback 5 frame.Short ∷ BadFeedback 5 frame.Version ∷ BadFeedback 5 frame.Length ∷ BadFeedback 5 frame.Padding
    ∷ BadFeedback 5 frame.Body ∷ [])
    ≡ codes "3 7 accept 5 first 65546 rate 1600 join 46\n" ∷ codes "3 7 update 5 rate 3200 join 1\n" ∷ codes "3 7 again 5\n" ∷ codes "3 7 refuse 5 503\n"
    ∷ codes "3 7 stop 5 65549\n" ∷ codes "3 7 stop-kept 5 65549\n" ∷ codes "3 7 stop-idle 5\n" ∷ codes "3 7 bye 5\n" ∷ codes "3 7 bye-idle 5\n"
    ∷ codes "3 7 bad-feedback 5 empty\n" ∷ codes "3 7 bad-feedback 5 short\n" ∷ codes "3 7 bad-feedback 5 version\n" ∷ codes "3 7 bad-feedback 5 length\n"
    ∷ codes "3 7 bad-feedback 5 padding\n" ∷ codes "3 7 bad-feedback 5 body\n" ∷ []

-- those of NACKs and ticks
abbrev pub RepairNoteLines : Type 0
RepairNoteLines =
    lines (Queued 5 65546 ∷ Already 5 65546 ∷ Unheld 5 12 ∷ Early 5 65546 ∷ TableFull 5 65546 ∷ ClientFull 5 65546 ∷ QueueFull 5 65546 ∷ ForeignNack 5
    ∷ Burst 5 65546 500 ∷ Repair 5 65546 501 ∷ Gone 5 65546 ∷ End 5 cause.Stopped ∷ End 5 cause.Lost ∷ End 5 cause.Limit ∷ End 5 cause.Bye ∷ Forgot 5 ∷ [])
    ≡ codes "3 7 queued 5 65546\n" ∷ codes "3 7 already 5 65546\n" ∷ codes "3 7 unheld 5 12\n" ∷ codes "3 7 early 5 65546\n" ∷ codes "3 7 table-full 5 65546\n"
    ∷ codes "3 7 client-full 5 65546\n" ∷ codes "3 7 queue-full 5 65546\n" ∷ codes "3 7 foreign-nack 5\n" ∷ codes "3 7 burst 5 65546 500\n"
    ∷ codes "3 7 repair 5 65546 501\n" ∷ codes "3 7 gone 5 65546\n" ∷ codes "3 7 end 5 stopped\n" ∷ codes "3 7 end 5 lost\n" ∷ codes "3 7 end 5 limit\n"
    ∷ codes "3 7 end 5 bye\n" ∷ codes "3 7 forgot 5\n" ∷ []

-- a whole book: a burst of one packet that ends at its limit, and a client that is forgotten
abbrev pub LinesOfABook : Type 0
LinesOfABook =
    book_lines (with_ticks (record channel { limit = 1; idle = 2 }))
    (book (with_ticks (record channel { limit = 1; idle = 2 })) (reverse (packet 10 0 true 4 ∷ plain_request 5 ∷ Tick ∷ Tick ∷ Tick ∷ [])))
    ≡ codes "1 7 took 65546\n"
    ++ codes "2 7 accept 5 first 65546 rate 4000 join 1\n"
    ++ codes "2 7 send 5 86cd000caabbccdd11223344020000c82000000201f40000210000040000000a2200000400000"
    ++ codes "00a23000008000000000030d400\n"
    ++ codes "3 7 burst 5 65546 500\n"
    ++ codes "3 7 send 5 80e301f40000000011223344000a00000000\n"
    ++ codes "3 7 end 5 limit\n"
    ++ codes "3 7 send 5 86cd0003aabbccdd11223344020100c9\n"
    ++ codes "5 7 forgot 5\n"
