-- Lines, pieces and sections as code has them.
use Rattle.std.specs.Prelude.{ℕ, List}
use Rattle.converters.specs.declared.{description_loop.sdp_config.lines.Lines.Lines, description_loop.sdp_config.pieces.Pieces.Pieces}
use Rattle.converters.specs.declared.description_loop.sdp_config.section.Section.{Section}
use Rattle.converters.specs.declared.description_loop.sdp_config.section.Sections.{Sections}
use Rattle.converters.specs.description_loop.sdp_config.Lines.{lines_in, pieces_behind}
use Rattle.converters.specs.description_loop.sdp_config.Sections as sections

-- the lines that are left
abbrev pub lines_left : Lines → List (List ℕ)
lines_left lines = lines_in lines.rest.now

-- the pieces that are left
abbrev pub pieces_left : Pieces → List (List ℕ)
pieces_left pieces = pieces_behind pieces.mark pieces.rest

-- the section that it is: its lines end where the next one begins
abbrev pub shown_section : Section → sections.Section
shown_section s = sections.section_of s.media.now (lines_left s.lines)

-- the sections that are left
abbrev pub sections_left : Sections → List sections.Section
sections_left s = sections.sections_of (lines_left s.lines)

-- a format and its section
abbrev pub shown_found : ℕ × Section → sections.Found
shown_found found = sections.found_in (shown_section found.1) found.0
