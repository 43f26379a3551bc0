pub mod Shown
pub mod Cursor
pub mod Numbers
unfoldable pub use Rattle.trace_lines.specs.Shown.{shown, Gives, is_ranged, Unread, Narrows, HasDigits}
unfoldable pub use Rattle.trace_lines.specs.Cursor.{words_left, is_end, is_named, Reads, IsWord, pair_in, last_hex_in}
unfoldable pub use Rattle.trace_lines.specs.Numbers.{names_in, places_in, amounts_in, bounds_in, said_in, keeping_in, numbers_in, channel_of, line_of_numbers}
pub use Rattle.trace_lines.specs.Numbers.{LineNumbers, LineNames, LinePlaces, LineAmounts, LineBounds, LineKeeping}
