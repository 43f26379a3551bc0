-- What a line means, and what its reader answers.
use Rattle.std.specs.Prelude.{◌≡◌, Bool, true, false, Option, None, Some, Result, Ok, Err}
use Rattle.rams_model.specs.declared.{LineFault.LineFault, LineFault.TheVariants.Form, LineFault.TheVariants.Range}
use Rattle.rams_model.specs.Texts.{TraceLine, head_line, channel_line, live_line, feedback_line, tick_line, end_line, tune_line, give_line, mcast_line, ask_line, drop_line, line_in_range, is_hex}
use Rattle.trace_lines.specs.declared.line.Line.{Line}
use Rattle.trace_lines.specs.declared.line.Line.TheVariants.{Head, Channel, Live, Feedback, Tick, End, Tune, Give, Mcast, Ask, Drop}

-- the line that it is
abbrev pub shown : Line → TraceLine
shown (Head version tick link) = head_line version tick link
shown (Channel version channel) = channel_line version channel
shown (Live id hex) = live_line id hex.now
shown (Feedback id client hex) = feedback_line id client hex.now
shown Tick = tick_line
shown End = end_line
shown (Tune id client ssrc) = tune_line id client ssrc
shown (Give number) = give_line number
shown (Mcast id client n) = mcast_line id client n
shown (Ask id client) = ask_line id client
shown (Drop id client) = drop_line id client

-- the answer is what a definition answers
abbrev pub Gives : Result Line LineFault → Result TraceLine LineFault → Type 0
Gives (Ok line) read = read ≡ Ok (shown line)
Gives (Err fault) read = read ≡ Err fault

-- whether each number is in its range, of a line that there may not be
abbrev pub is_ranged : Option TraceLine → Bool
is_ranged None = true
is_ranged (Some line) = line_in_range line

-- The line isn't read for this fault: there is none, or a number is out of its range.
abbrev pub Unread : LineFault → Option TraceLine → Type 0
Unread Form read = read ≡ None
Unread Range read = is_ranged read ≡ false
Unread _ read = ⊥

-- The answer is the line that a definition reads. `Range` is answered only where a number is out of its range.
abbrev pub Narrows : Result Line LineFault → Option TraceLine → Type 0
Narrows (Ok line) read = read ≡ Some (shown line)
Narrows (Err fault) read = Unread fault read

-- the bytes that it carries are hexadecimal digits
abbrev pub HasDigits : Line → Type 0
HasDigits (Live id hex) = is_hex hex.now ≡ true
HasDigits (Feedback id client hex) = is_hex hex.now ≡ true
HasDigits _ = Unit {0}
