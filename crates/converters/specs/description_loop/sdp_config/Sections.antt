-- The sections of a session description, one a media stream, and the formats that they list (RFC 8866, 5.14).
use Rattle.std.specs.Prelude.{◌≡◌, ℕ, Bool, true, false, slice_index_or, ◌&&◌, if◌then◌else◌, List, [], ◌∷◌, drop, Option, None, option_map, codes, bytes_eq}
use Rattle.std.specs.List.{find, filter_map, list_any}
use Rattle.std.specs.Option.{option_or}
use Rattle.converters.specs.declared.description_loop.sdp_config.attribute.Attribute.{Attribute}
use Rattle.converters.specs.declared.description_loop.sdp_config.section.Role.{Role}
use Rattle.converters.specs.declared.description_loop.sdp_config.section.Role.TheVariants.{Media, Repair}
use Rattle.converters.specs.declared.description_loop.sdp_config.attribute.Attribute.TheVariants.{Bursts, RtxMap, RtxOf}
use Rattle.converters.specs.description_loop.sdp_config.Lines.{is_media, pieces_of}
use Rattle.converters.specs.description_loop.sdp_config.Attributes.{type_in, ssrc_in, is_wanted_line}

-- what its media line says behind `m=`, between single spaces, and the lines behind that
pub record Section : Type 0 where
  pub fields : List (List ℕ)
  pub lines : List (List ℕ)

-- the lines up to the next section
abbrev pub own_lines : List (List ℕ) → List (List ℕ)
own_lines [] = []
own_lines (line ∷ lines) = if is_media line then [] else line ∷ own_lines lines

abbrev pub section_of : List ℕ → List (List ℕ) → Section
section_of media lines = record { fields = pieces_of 32 (drop 2 media); lines = own_lines lines }

-- the sections of lines, each from its media line on
abbrev pub sections_of : List (List ℕ) → List Section
sections_of [] = []
sections_of (line ∷ lines) = if is_media line then section_of line lines ∷ sections_of lines else sections_of lines

-- The payload types behind media, port and protocol. A section without them, or of another protocol than RTP/AVPF (RFC 4585, 4.1), counts for none.
abbrev pub formats_of : List (List ℕ) → List ℕ
formats_of (media ∷ port ∷ protocol ∷ formats) = if bytes_eq protocol (codes "RTP/AVPF") then filter_map type_in formats else []
formats_of _ = []

-- one of the lines is this attribute
abbrev pub has_line : Attribute → List (List ℕ) → Bool
has_line attribute lines = list_any (is_wanted_line attribute) lines

-- the media source that the first line that names one names
abbrev pub first_ssrc : List (List ℕ) → Option ℕ
first_ssrc [] = None
first_ssrc (line ∷ lines) = option_or (ssrc_in line) (first_ssrc lines)

-- The section's lines give this format the role that is looked for: the channel's, whose bursts are offered, or that of the channel's repairs.
abbrev pub is_wanted : Role → Section → ℕ → Bool
is_wanted Media s p = has_line (Bursts p) s.lines
is_wanted (Repair p) s q = has_line (RtxMap q) s.lines && has_line (RtxOf q p) s.lines

-- no format that is marked has this role
abbrev pub HaveFailed : Role → Section → List Bool → Type 0
HaveFailed role s failed = (n : ℕ) → slice_index_or failed n false ≡ true → is_wanted role s n ≡ false

-- the first format of the section that has this role
abbrev pub first_format : Role → Section → Option ℕ
first_format role s = find (is_wanted role s) (formats_of s.fields)

-- a format, and its section
pub record Found : Type 0 where
  pub format : ℕ
  pub section : Section

abbrev pub found_in : Section → ℕ → Found
found_in s p = record { format = p; section = s }

-- the first format that has this role, by sections and then by place
abbrev pub first_found : Role → List Section → Option Found
first_found role [] = None
first_found role (s ∷ sections) = option_or (option_map (found_in s) (first_format role s)) (first_found role sections)
