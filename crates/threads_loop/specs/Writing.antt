-- What is written of a history.
use Rattle.std.specs.Prelude.{ℕ, ◌+◌, List, [], ◌∷◌, ◌++◌, length, codes}
use Rattle.rams_model.specs.Service.{Settings}
use Rattle.rams_model.specs.Texts.{answer_text}
use Rattle.channel_book.specs.declared.Entry.{Entry}
use Rattle.trace_loop.specs.trace_book.trace_serving.{done}
use Rattle.trace_loop.specs.journal_book.{event_line}
use Rattle.threads_loop.specs.declared.{writing.Part.Part, writing.Part.TheVariants.Trace, writing.Part.TheVariants.Book}
use Rattle.threads_loop.specs.Dealing.{hub_event}

-- what is written for the entry of the event of this number
abbrev pub piece_text : Settings → Part → ℕ → Entry → List ℕ
piece_text s Trace number e = event_line (hub_event s.channel.id e.event)
piece_text s Book number e = answer_text s number e.answer

-- for these entries, the first of which has this number
unfoldable pub part_text : Settings → Part → ℕ → List Entry → List ℕ
part_text s part number [] = []
part_text s part number (e ∷ later) = piece_text s part number e ++ part_text s part (number + 1) later

-- the trace of a history behind the lines of a head, and its book
abbrev pub written_text : Settings → List ℕ → List Entry → List ℕ
written_text s head entries =
    head ++ (part_text s Trace 1 entries ++ (codes "end\nrams-book 1\n" ++ (part_text s Book 1 entries ++ (done (length entries)).text)))
