-- What a line is that was judged.
use Rattle.std.specs.Prelude.{◌≡◌, ℕ, ◌==◌, not, if◌then◌else◌, List, Option, None, Some, Result, Ok, Err}
use Rattle.std.specs.List.{list_any}
use Rattle.rams_model.specs.declared.{Channel.Channel, ConfigFault.ConfigFault, LineFault.LineFault}
use Rattle.rams_model.specs.declared.LineFault.TheVariants.{Order, Range, Twice}
use Rattle.rams_model.specs.Service.{Settings, settings, channel_in_range, checked}
use Rattle.rams_model.specs.Texts.{TraceLine, channel_line, Head, Reached, accepted, judged, line_fault, joined}
use Rattle.trace_lines.specs.declared.Line.{Line}
use Rattle.trace_lines.specs.declared.Line.TheVariants as line
use Rattle.trace_lines.specs.{shown, HasDigits}
use Rattle.trace_text.specs.declared.judged.Judged.{Judged}
use Rattle.trace_text.specs.declared.judged.Judged.TheVariants as judged_line

-- the line that it is
abbrev pub told : Judged → TraceLine
told (judged_line.Channel version config) = channel_line version config.channel
told (judged_line.Other l) = shown l

-- this line, judged in a trace of this tick
abbrev pub judged_as : ℕ → Line → Judged
judged_as tick (line.Channel version c) = judged_line.Channel version (settings c tick)
judged_as tick l = judged_line.Other l

-- the line opens no channel
abbrev pub IsOther : Line → Type 0
IsOther (line.Channel version c) = ⊥
IsOther l = Unit {0}

-- Settings are of this tick, no other line opens a channel, and the bytes that it carries are hexadecimal digits.
abbrev pub IsSettled : ℕ → Judged → Type 0
IsSettled tick (judged_line.Channel version config) = config.tick ≡ tick
IsSettled tick (judged_line.Other l) = IsOther l × HasDigits l

-- The line of these bytes may come, and this is what it says.
pub record IsJudged (r : Reached) (bytes : List ℕ) (j : Judged) : Type 0 where
  pub later : Reached
  pub accepts : accepted r (told j) ≡ Ok later
  pub judges : judged r bytes ≡ Ok (told j, later)

abbrev pub by_rules : Result Settings ConfigFault → Result Settings LineFault
by_rules (Ok s) = Ok s
by_rules (Err fault) = Err (line_fault fault)

-- the settings of a channel, or their fault: the range, then a number that a channel before has, then a rule
abbrev pub settled : Reached → Settings → Result Settings LineFault
settled r s =
    if not (channel_in_range s.channel) then Err Range
    else if list_any (λ k. k.id == s.channel.id) r.channels then Err Twice
    else by_rules (checked s)

abbrev pub with_settled : Reached → Head → Channel → Result Settings LineFault → Result Reached LineFault
with_settled r head c (Err fault) = Err fault
with_settled r head c (Ok s) = joined r head c (Ok s)

-- the channel of a line that may come is added, or refused
abbrev pub with_ranged : Reached → Option Head → Channel → Result Reached LineFault
with_ranged r None c = Err Order
with_ranged r (Some head) c = with_settled r head c (settled r (settings c head.tick))
