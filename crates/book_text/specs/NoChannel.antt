-- The line of an event whose channel isn't there.
use Rattle.std.specs.Prelude.{ℕ, List, codes}
use Rattle.rams_model.specs.Texts.{book_line}

-- the event was of this number, and no channel has the number that it names
abbrev pub no_channel_line : ℕ → ℕ → List ℕ
no_channel_line event id = book_line event id (codes "no-channel")
