-- The summary of a generated trace.
use Rattle.std.specs.Prelude.{ℕ, List, ◌++◌, map, reverse, length, codes, decimal}
use Rattle.rams_model.specs.declared.Event.{Event}
use Rattle.rams_model.specs.Texts.{spaced}
use Rattle.rams_model.specs.Service.{Settings, Answered, book}
use Rattle.generated.specs.trace_gen.{config, made}
use Rattle.generated.specs.declared.summary.counts.Counts.{Counts}
use Rattle.generated.specs.summary.Counts.{Tallied, tally_of}

-- a word and a number
abbrev pub count_line : List ℕ → ℕ → List ℕ
count_line word n = word ++ spaced n ++ codes "\n"

-- the first line
abbrev pub head_line : ℕ → ℕ → List ℕ
head_line seed blocks = codes "rams-made " ++ decimal seed ++ codes " " ++ decimal blocks ++ codes "\n"

-- the lines of these numbers
abbrev pub count_lines : ℕ → Counts → ℕ → List ℕ
count_lines events n bytes =
    count_line (codes "events") events
    ++ count_line (codes "took") n.took
    ++ count_line (codes "accept") n.accept
    ++ count_line (codes "again") n.again
    ++ count_line (codes "refuse") n.refuse
    ++ count_line (codes "burst") n.burst
    ++ count_line (codes "repair") n.repair
    ++ count_line (codes "end") n.end
    ++ count_line (codes "bytes") bytes

-- The summary of answers that are counted so, of so many events.
unfoldable pub summary : ℕ → ℕ → ℕ → Tallied → List ℕ
summary seed blocks events t = head_line seed blocks ++ count_lines events t.notes t.bytes ++ codes "done\n"

-- what some events, the newest first, are answered in their one lawful book
abbrev pub answers_in : Settings → List Event → List Answered
answers_in s events = map (λ e. e.answer) (book s events)

-- The summary of a seed and so many blocks.
abbrev pub made_summary : ℕ → ℕ → List ℕ
made_summary seed blocks = summary seed blocks (length (made seed blocks)) (tally_of (answers_in config (reverse (made seed blocks))))
