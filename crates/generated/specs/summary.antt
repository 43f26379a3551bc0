pub mod Counts
pub mod Steps
pub mod Text
pub mod Worked
unfoldable pub use Rattle.generated.specs.summary.Counts.{took, accept, again, refuse, burst, repair, end, counts_of, size_of, bytes_of, tally_of}
pub use Rattle.generated.specs.summary.Counts.{Tallied}
unfoldable pub use Rattle.generated.specs.summary.Steps.{flag, with_note, sum_of, with_sums, with_tick, IsShort}
pub use Rattle.generated.specs.summary.Steps.{AreAtMost, IsTally}
unfoldable pub use Rattle.generated.specs.summary.Text.{count_line, head_line, count_lines, summary, answers_in, made_summary}
