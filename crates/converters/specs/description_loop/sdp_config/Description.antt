-- The settings of a channel that a session description gives.
use Rattle.std.specs.Prelude.{ℕ, ◌+◌, ◌&&◌, ◌==◌, not, nat_lt, if◌then◌else◌, List, [], ◌∷◌, Option, None, Some, Result, Ok, Err, codes, bytes_eq}
use Rattle.std.specs.Option.{option_or}
use Rattle.converters.specs.declared.{description_loop.sdp_config.sdp.Sdp.Sdp, description_loop.sdp_config.sdp.SdpFault.SdpFault}
use Rattle.converters.specs.declared.description_loop.sdp_config.section.Role.TheVariants.{Media, Repair}
use Rattle.converters.specs.declared.description_loop.sdp_config.sdp.SdpFault.TheVariants.{Form, Version, Long, NoChannel, NoSsrc, NoRtx, Same}
use Rattle.converters.specs.description_loop.sdp_config.Lines.{lines_in, is_line}
use Rattle.converters.specs.description_loop.sdp_config.Sections.{Found, sections_of, first_ssrc, first_found}

-- what is wrong with this line, whose number is counted from 1
abbrev pub line_fault : ℕ → List ℕ → Option SdpFault
line_fault number line =
    if nat_lt 1000 number then Some Long
    else if not (is_line line) then Some (Form number)
    else if number == 1 && not (bytes_eq line (codes "v=0")) then Some Version
    else None

-- the first fault of lines whose first has this number
abbrev pub first_fault : ℕ → List (List ℕ) → Option SdpFault
first_fault number [] = None
first_fault number (line ∷ lines) = option_or (line_fault number line) (first_fault (number + 1) lines)

-- the first fault of the lines of a description, which has one at least (RFC 8866, 5.1)
abbrev pub text_fault : List (List ℕ) → Option SdpFault
text_fault [] = Some Version
text_fault (line ∷ lines) = first_fault 1 (line ∷ lines)

abbrev pub with_rtx : ℕ → ℕ → Option Found → Result Sdp SdpFault
with_rtx pt ssrc None = Err NoRtx
with_rtx pt ssrc (Some rtx) = if rtx.format == pt then Err Same else Ok (record { pt = pt; rtx = rtx.format; ssrc = ssrc })

abbrev pub with_ssrc : ℕ → Option Found → Option ℕ → Result Sdp SdpFault
with_ssrc pt rtx None = Err NoSsrc
with_ssrc pt rtx (Some ssrc) = with_rtx pt ssrc rtx

abbrev pub with_channel : List (List ℕ) → Option Found → Result Sdp SdpFault
with_channel lines None = Err NoChannel
with_channel lines (Some channel) =
    with_ssrc channel.format (first_found (Repair channel.format) (sections_of lines)) (first_ssrc channel.section.lines)

-- the settings that lines in which nothing is wrong give: the channel's type, its media source, the type of its repairs
abbrev pub settings_in : List (List ℕ) → Result Sdp SdpFault
settings_in lines = with_channel lines (first_found Media (sections_of lines))

abbrev pub unless_fault : Result Sdp SdpFault → Option SdpFault → Result Sdp SdpFault
unless_fault r None = r
unless_fault r (Some fault) = Err fault

-- the settings that lines give, or their first fault
unfoldable pub settings_of : List (List ℕ) → Result Sdp SdpFault
settings_of lines = unless_fault (settings_in lines) (text_fault lines)

-- those of a text
abbrev pub sdp_at : List ℕ → Result Sdp SdpFault
sdp_at text = settings_of (lines_in text)
