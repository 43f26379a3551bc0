-- What `sdp` and `describe` write, and with what status.
use Rattle.std.specs.Prelude.{◌≡◌, ℕ, List, ◌++◌, Option, Result, Ok, Err, codes}
use Rattle.std.specs.Io.KnownBytes.{Appends}
use Rattle.rams_model.specs.declared.{Channel.Channel, Status.Status}
use Rattle.rams_model.specs.declared.Status.TheVariants.{Done, BadTrace, BadSdp}
use Rattle.rams_model.specs.Texts.{head_line, channel_line, end_line, line_text, spaced}
use Rattle.converters.specs.declared.{description_loop.sdp_config.sdp.Sdp.Sdp, description_loop.sdp_config.sdp.SdpFault.SdpFault}
use Rattle.converters.specs.declared.description_loop.reply.Reply.{Reply}
use Rattle.converters.specs.declared.description_loop.sdp_config.sdp.SdpFault.TheVariants.{Form, Version, Long, NoChannel, NoSsrc, NoRtx, Same}
use Rattle.converters.specs.description_loop.sdp_config.{sdp_at, description}
use Rattle.trace_loop.specs.trace_book.trace_serving.{Outcome, ended, refused}
use Rattle.trace_loop.specs.head_loop.{with_feed}
use Rattle.converters.specs.description_loop.Heads.{Heading, HeadSays, says, refuses, behind_head, head_of}

-- the three lines of a head: a trace of one channel, to which nothing comes
unfoldable pub heading_text : Heading → List ℕ
heading_text h =
    with_feed (line_text (head_line h.version h.settings.tick h.link)) ++ with_feed (line_text (channel_line h.version h.settings.channel))
    ++ with_feed (line_text end_line)

-- a channel with the settings of its description
abbrev pub with_settings : Sdp → Channel → Channel
with_settings sdp c = record c { pt = sdp.pt; rtx = sdp.rtx; ssrc = sdp.ssrc }

-- a head whose channel has them
abbrev pub with_sdp : Sdp → Heading → Heading
with_sdp sdp h = record h { settings = record h.settings { channel = with_settings sdp h.settings.channel } }

-- why a description is refused
abbrev pub fault_words : SdpFault → List ℕ
fault_words (Form line) = codes "form" ++ spaced line
fault_words Version = codes "version"
fault_words Long = codes "long"
fault_words NoChannel = codes "no-channel"
fault_words NoSsrc = codes "no-ssrc"
fault_words NoRtx = codes "no-rtx"
fault_words Same = codes "same"

abbrev pub fault_line : SdpFault → List ℕ
fault_line fault = codes "refused-sdp " ++ fault_words fault ++ codes "\n"

-- what is written for a head and what its description says: the head with these settings, or why there are none
abbrev pub settings_by : Heading → Result Sdp SdpFault → Outcome
settings_by h (Ok sdp) = ended Done (heading_text (with_sdp sdp h))
settings_by h (Err fault) = ended BadSdp (fault_line fault)

-- the description of a head's channel on this port
abbrev pub described_by : ℕ → Heading → Outcome
described_by port h = ended Done (description h.settings.channel port)

-- what is written for a head, or which line of it is refused
abbrev pub by_head : (Heading → Outcome) → HeadSays → Outcome
by_head write (says h) = write h
by_head write (refuses number fault) = refused number fault

-- What `sdp` writes for these bytes: a head, and a description behind it.
unfoldable pub settings_outcome : List ℕ → Outcome
settings_outcome bytes = by_head (λ h. settings_by h (sdp_at (behind_head bytes))) (head_of bytes)

-- What `describe` writes for a head that the bytes begin with.
unfoldable pub description_outcome : ℕ → List ℕ → Outcome
description_outcome port bytes = by_head (described_by port) (head_of bytes)

-- what a reply writes
abbrev pub answered : Reply → Outcome
answered reply = ended reply.status reply.text.items

-- a status with which these commands end
abbrev pub IsReplyEnd : Status → Type 0
IsReplyEnd Done = Unit {0}
IsReplyEnd BadTrace = Unit {0}
IsReplyEnd BadSdp = Unit {0}
IsReplyEnd _ = ⊥

-- the whole text of the outcome was written, and the command ends so
abbrev pub HasWritten : Option (List ℕ) → Option (List ℕ) → Outcome → Status → Type 0
HasWritten held holds o status = (status ≡ o.status) × Appends held holds o.text
