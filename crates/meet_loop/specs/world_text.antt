pub mod WorldLines
pub mod Worked
unfoldable pub use Rattle.meet_loop.specs.world_text.WorldLines.{info_words, media_word, bytes_line, named_line, item_line, world_line, notes_lines, event_lines, world_lines, first_line}
