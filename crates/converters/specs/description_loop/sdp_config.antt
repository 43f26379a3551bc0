pub mod Lines
pub mod Attributes
pub mod Sections
pub mod Shown
pub mod Description
pub mod Written
pub mod Laws
unfoldable pub use Rattle.converters.specs.description_loop.sdp_config.Lines.{lines_in, bare, is_line, is_media, pieces_of, pieces_behind, first_piece, behind}
unfoldable pub use Rattle.converters.specs.description_loop.sdp_config.Attributes.{type_in, offers_bursts, ssrc_in, ssrc_number, is_rtx_map, is_rtx_name, past_spaces, are_spaces, is_padded, has_apt, repairs_line, is_wanted_line}
unfoldable pub use Rattle.converters.specs.description_loop.sdp_config.Sections.{own_lines, sections_of, formats_of, has_line, first_ssrc, is_wanted, HaveFailed, first_format, first_found}
unfoldable pub use Rattle.converters.specs.description_loop.sdp_config.Shown.{lines_left, pieces_left, shown_section, sections_left, shown_found}
pub use Rattle.converters.specs.description_loop.sdp_config.Sections.{Section, Found}
unfoldable pub use Rattle.converters.specs.description_loop.sdp_config.Description.{line_fault, first_fault, text_fault, settings_in, settings_of, sdp_at}
unfoldable pub use Rattle.converters.specs.description_loop.sdp_config.Written.{joined_lines, session_lines, media_lines, offer_lines, repair_lines, description, shown_channel}
unfoldable pub use Rattle.converters.specs.description_loop.sdp_config.Laws.{DescriptionsAreReadBack, LongTextsAreRefused, SettingsAreInRange}
pub use Rattle.converters.specs.description_loop.sdp_config.Laws.{IsDescribable, IsInRange}
