-- The attributes that settings are read from.
use Rattle.std.specs.Prelude.{ℕ, ◌^◌, Bool, false, ◌&&◌, ◌||◌, ◌==◌, nat_le, nat_lt, if◌then◌else◌, List, [], ◌∷◌, ◌++◌, Option, None, Some, option_and_then, codes, bytes_eq, decimal}
use Rattle.std.specs.Char.{eq_ignore_ascii_case}
use Rattle.std.specs.List.{list_all, list_any}
use Rattle.rams_model.specs.Texts.{number_in}
use Rattle.converters.specs.declared.description_loop.sdp_config.attribute.Attribute.{Attribute}
use Rattle.converters.specs.declared.description_loop.sdp_config.attribute.Attribute.TheVariants.{Bursts, RtxMap, RtxOf}
use Rattle.converters.specs.description_loop.sdp_config.Lines.{behind, pieces_of, first_piece}

-- a payload type: a decimal number up to 127 (RFC 3551, 6)
abbrev pub type_in : List ℕ → Option ℕ
type_in field = option_and_then (λ n. if nat_le n 127 then Some n else None) (number_in field)

-- Rapid acquisition is offered for this format, or for all of its section (RFC 6285, 8.1; RFC 4585, 4.2).
abbrev pub offers_bursts : ℕ → List ℕ → Bool
offers_bursts p line =
    bytes_eq line (codes "a=rtcp-fb:" ++ decimal p ++ codes " nack rai") || bytes_eq line (codes "a=rtcp-fb:* nack rai")

-- a number below 2^32, up to the first space
abbrev pub ssrc_number : List ℕ → Option ℕ
ssrc_number bytes = option_and_then (λ n. if nat_lt n (2 ^ 32) then Some n else None) (number_in (first_piece 32 bytes))

-- the media source that the line names (RFC 5576, 4.1)
abbrev pub ssrc_in : List ℕ → Option ℕ
ssrc_in line = option_and_then ssrc_number (behind (codes "a=ssrc:") line)

-- there is something, and it passes this test
abbrev pub is_some_and : (List ℕ → Bool) → Option (List ℕ) → Bool
is_some_and test None = false
is_some_and test (Some bytes) = test bytes

-- these bytes begin with `rtx`, in large or small letters, and `/`
abbrev pub is_rtx_name : List ℕ → Bool
is_rtx_name (r ∷ t ∷ x ∷ slash ∷ rest) =
    eq_ignore_ascii_case r 114 && eq_ignore_ascii_case t 116 && eq_ignore_ascii_case x 120 && slash == 47
is_rtx_name _ = false

-- the line names this format as one of retransmission (RFC 4588, 8.6)
abbrev pub is_rtx_map : ℕ → List ℕ → Bool
is_rtx_map q line = is_some_and is_rtx_name (behind (codes "a=rtpmap:" ++ decimal q ++ codes " ") line)

-- what stands behind the first spaces
abbrev pub past_spaces : List ℕ → List ℕ
past_spaces [] = []
past_spaces (b ∷ bytes) = if b == 32 then past_spaces bytes else b ∷ bytes

-- only spaces
abbrev pub are_spaces : List ℕ → Bool
are_spaces bytes = list_all (λ b. b == 32) bytes

-- the bytes are this word, which doesn't begin with a space, with nothing but spaces around it
abbrev pub is_padded : List ℕ → List ℕ → Bool
is_padded word bytes = is_some_and are_spaces (behind word (past_spaces bytes))

-- one of the parameters between semicolons is `apt` of this format
abbrev pub has_apt : ℕ → List ℕ → Bool
has_apt p parameters = list_any (is_padded (codes "apt=" ++ decimal p)) (pieces_of 59 parameters)

-- The line says that the packets of the first format are those of the second again (RFC 4588, 8.6).
abbrev pub repairs_line : ℕ → ℕ → List ℕ → Bool
repairs_line q p line = is_some_and (has_apt p) (behind (codes "a=fmtp:" ++ decimal q ++ codes " ") line)

-- the line is an attribute that is looked for
abbrev pub is_wanted_line : Attribute → List ℕ → Bool
is_wanted_line (Bursts p) line = offers_bursts p line
is_wanted_line (RtxMap q) line = is_rtx_map q line
is_wanted_line (RtxOf q p) line = repairs_line q p line
