pub mod HexText
pub mod Laws
pub mod Pairs
pub mod Extremes
unfoldable pub use Rattle.hex_text.specs.HexText.{is_lower_digit, is_lower_hex}
unfoldable pub use Rattle.hex_text.specs.Laws.{WrittenDecodes, WrittenIsLower, LowerIsWritten}
unfoldable pub use Rattle.hex_text.specs.Pairs.{value_of, pair_byte, pair_bytes, joined_values}
