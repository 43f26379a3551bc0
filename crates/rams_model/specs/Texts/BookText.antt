-- The lines of a book: those of notes and of datagrams.
use Rattle.std.specs.Prelude.{ℕ, List, ◌∷◌, ◌++◌, codes, decimal}
use Rattle.rams_model.specs.declared.{fault.FrameFault.FrameFault, fault.LineFault.LineFault, fault.RtpFault.RtpFault, note.Cause.Cause}
use Rattle.rams_model.specs.declared.{note.LiveNote.LiveNote, note.Note.Note}
use Rattle.rams_model.specs.declared.fault.FrameFault.TheVariants as frame
use Rattle.rams_model.specs.declared.fault.LineFault.TheVariants as line
use Rattle.rams_model.specs.declared.fault.RtpFault.TheVariants as rtp
use Rattle.rams_model.specs.declared.note.Cause.TheVariants as cause
use Rattle.rams_model.specs.declared.note.LiveNote.TheVariants.{Took, Restart, Late, Twice, Jump, ForeignSsrc, ForeignType, TooBig, Bad}
use Rattle.rams_model.specs.declared.note.Note.TheVariants.{Live, Accept, Update, Again, Refuse, StopAt, StopKept, StopIdle, Queued, Already, Unheld, Early, TableFull, ClientFull, QueueFull, ForeignNack, BadFeedback, Bye, ByeIdle, Burst, Repair, Gone, End, Forgot}
use Rattle.rams_model.specs.Texts.Words.{hex_word}

-- a space and a number
abbrev pub spaced : ℕ → List ℕ
spaced n = 32 ∷ decimal n

abbrev pub rtp_fault_word : RtpFault → List ℕ
rtp_fault_word rtp.Short = codes "short"
rtp_fault_word rtp.Version = codes "version"
rtp_fault_word rtp.Csrc = codes "csrc"
rtp_fault_word rtp.Extension = codes "extension"
rtp_fault_word rtp.Padding = codes "padding"

abbrev pub frame_fault_word : FrameFault → List ℕ
frame_fault_word frame.Empty = codes "empty"
frame_fault_word frame.Short = codes "short"
frame_fault_word frame.Version = codes "version"
frame_fault_word frame.Length = codes "length"
frame_fault_word frame.Padding = codes "padding"
frame_fault_word frame.Body = codes "body"

abbrev pub cause_word : Cause → List ℕ
cause_word cause.Stopped = codes "stopped"
cause_word cause.Lost = codes "lost"
cause_word cause.Limit = codes "limit"
cause_word cause.Bye = codes "bye"

abbrev pub live_words : LiveNote → List ℕ
live_words (Took n) = codes "took" ++ spaced n
live_words (Restart n) = codes "restart" ++ spaced n
live_words Late = codes "late"
live_words Twice = codes "twice"
live_words Jump = codes "jump"
live_words ForeignSsrc = codes "foreign-ssrc"
live_words ForeignType = codes "foreign-type"
live_words TooBig = codes "too-big"
live_words (Bad fault) = codes "bad " ++ rtp_fault_word fault

-- a word and a client
abbrev pub of_client : List ℕ → ℕ → List ℕ
of_client word client = word ++ spaced client

-- a word, a client and a number
abbrev pub of_number : List ℕ → ℕ → ℕ → List ℕ
of_number word client n = word ++ spaced client ++ spaced n

-- a word, a client and one more word
abbrev pub of_word : List ℕ → ℕ → List ℕ → List ℕ
of_word word client what = word ++ spaced client ++ (32 ∷ what)

abbrev pub note_words : Note → List ℕ
note_words (Live note) = live_words note
note_words (Accept client first rate join) =
    codes "accept" ++ spaced client ++ codes " first" ++ spaced first ++ codes " rate" ++ spaced rate ++ codes " join" ++ spaced join
note_words (Update client rate join) = codes "update" ++ spaced client ++ codes " rate" ++ spaced rate ++ codes " join" ++ spaced join
note_words (Again client) = of_client (codes "again") client
note_words (Refuse client code) = of_number (codes "refuse") client code
note_words (StopAt client n) = of_number (codes "stop") client n
note_words (StopKept client n) = of_number (codes "stop-kept") client n
note_words (StopIdle client) = of_client (codes "stop-idle") client
note_words (Queued client n) = of_number (codes "queued") client n
note_words (Already client n) = of_number (codes "already") client n
note_words (Unheld client low) = of_number (codes "unheld") client low
note_words (Early client n) = of_number (codes "early") client n
note_words (TableFull client n) = of_number (codes "table-full") client n
note_words (ClientFull client n) = of_number (codes "client-full") client n
note_words (QueueFull client n) = of_number (codes "queue-full") client n
note_words (ForeignNack client) = of_client (codes "foreign-nack") client
note_words (BadFeedback client fault) = of_word (codes "bad-feedback") client (frame_fault_word fault)
note_words (Bye client) = of_client (codes "bye") client
note_words (ByeIdle client) = of_client (codes "bye-idle") client
note_words (Burst client n sequence) = codes "burst" ++ spaced client ++ spaced n ++ spaced sequence
note_words (Repair client n sequence) = codes "repair" ++ spaced client ++ spaced n ++ spaced sequence
note_words (Gone client n) = of_number (codes "gone") client n
note_words (End client cause) = of_word (codes "end") client (cause_word cause)
note_words (Forgot client) = of_client (codes "forgot") client

-- event number, channel, and then these words
abbrev pub book_line : ℕ → ℕ → List ℕ → List ℕ
book_line event id words = decimal event ++ spaced id ++ codes " " ++ words ++ codes "\n"

unfoldable pub note_line : ℕ → ℕ → Note → List ℕ
note_line event id note = book_line event id (note_words note)

-- a datagram to a client
unfoldable pub send_line : ℕ → ℕ → ℕ → List ℕ → List ℕ
send_line event id client bytes = book_line event id (codes "send" ++ spaced client ++ codes " " ++ hex_word bytes)

-- how many datagrams an end asks for: a client that left is told nothing
abbrev pub end_order_count : Cause → ℕ
end_order_count cause.Bye = 0
end_order_count _ = 1

-- how many datagrams a note asks for
abbrev pub order_count : Note → ℕ
order_count (Accept client first rate join) = 1
order_count (Update client rate join) = 1
order_count (Again client) = 1
order_count (Refuse client code) = 1
order_count (Burst client n sequence) = 1
order_count (Repair client n sequence) = 1
order_count (End client cause) = end_order_count cause
order_count _ = 0

abbrev pub line_fault_word : LineFault → List ℕ
line_fault_word line.Form = codes "form"
line_fault_word line.Order = codes "order"
line_fault_word line.Range = codes "range"
line_fault_word line.Twice = codes "twice"
line_fault_word (line.Rule k) = codes "rule-" ++ decimal k

-- the last line of a book whose trace has a line that is refused: its number and its fault
abbrev pub refused_line : ℕ → LineFault → List ℕ
refused_line number fault = codes "refused" ++ spaced number ++ (32 ∷ (line_fault_word fault ++ codes "\n"))
