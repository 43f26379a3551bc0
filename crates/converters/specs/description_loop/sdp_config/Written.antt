-- The session description of a channel, as it is written.
use Rattle.std.specs.Prelude.{ℕ, ◌+◌, List, [], ◌∷◌, ◌++◌, codes, decimal}
use Rattle.rams_model.specs.declared.Channel.{Channel}
use Rattle.converters.specs.declared.description_loop.sdp_config.sdp.Sdp.{Sdp}

-- lines, each ended by CR LF
abbrev pub joined_lines : List (List ℕ) → List ℕ
joined_lines [] = []
joined_lines (line ∷ lines) = line ++ (13 ∷ 10 ∷ joined_lines lines)

-- the session (RFC 8866, 5)
abbrev pub session_lines : ℕ → List (List ℕ)
session_lines id = codes "v=0" ∷ codes "o=- 0 0 IN IP4 127.0.0.1" ∷ (codes "s=channel " ++ decimal id) ∷ codes "t=0 0" ∷ []

-- the channel's stream
abbrev pub media_lines : ℕ → ℕ → List (List ℕ)
media_lines port pt =
    (codes "m=video " ++ decimal port ++ codes " RTP/AVPF " ++ decimal pt)
    ∷ codes "c=IN IP4 127.0.0.1"
    ∷ (codes "a=rtpmap:" ++ decimal pt ++ codes " MP2T/90000")
    ∷ []

-- what is offered for it: NACKs and rapid acquisition (RFC 4585, 4.2; RFC 6285, 8.1); and its source (RFC 5576, 4.1)
abbrev pub offer_lines : ℕ → ℕ → List (List ℕ)
offer_lines pt ssrc =
    (codes "a=rtcp-fb:" ++ decimal pt ++ codes " nack")
    ∷ (codes "a=rtcp-fb:" ++ decimal pt ++ codes " nack rai")
    ∷ (codes "a=ssrc:" ++ decimal ssrc ++ codes " cname:rams")
    ∷ []

-- its repairs, in a session of their own (RFC 4588, 8.7)
abbrev pub repair_lines : ℕ → ℕ → ℕ → List (List ℕ)
repair_lines port rtx pt =
    (codes "m=video " ++ decimal port ++ codes " RTP/AVPF " ++ decimal rtx)
    ∷ codes "c=IN IP4 127.0.0.1"
    ∷ (codes "a=rtpmap:" ++ decimal rtx ++ codes " rtx/90000")
    ∷ (codes "a=fmtp:" ++ decimal rtx ++ codes " apt=" ++ decimal pt)
    ∷ []

-- the whole description: the channel on this port, its repairs on the next one
unfoldable pub description : Channel → ℕ → List ℕ
description c port = joined_lines (session_lines c.id ++ media_lines port c.pt ++ offer_lines c.pt c.ssrc ++ repair_lines (port + 1) c.rtx c.pt)

-- the settings of a channel that its description tells
abbrev pub shown_channel : Channel → Sdp
shown_channel c = record { pt = c.pt; rtx = c.rtx; ssrc = c.ssrc }
