pub mod Text
pub mod Stages
pub mod Lines
pub mod Served
unfoldable pub use Rattle.trace_loop.specs.trace_book.trace_serving.Text.{ended, done, refused, too_long, opening, brought, counted, with_opened, eventless, after_line, after_judging, turn, after_text, after_turn, text_from, served_text, stage_after, stage_from, last_stage, text_after, lines_text}
pub use Rattle.trace_loop.specs.trace_book.trace_serving.Text.{Serving, Stage, Outcome, Turn, goes_on, ends}
unfoldable pub use Rattle.trace_loop.specs.trace_book.trace_serving.Stages.{claim_of, AreLawful, Stand, opened_all, new_state, opened_by, after_brought, StagesAreKept}
pub use Rattle.trace_loop.specs.trace_book.trace_serving.Stages.{IsHead, StandUnder, IsIdle, IsStage, KeepsStage}
unfoldable pub use Rattle.trace_loop.specs.trace_book.trace_serving.Lines.{channel_of_line, channel_at, head_of_line, head_at, event_at, taken_with, taken_from, taken, came, after_all, events_text}
unfoldable pub use Rattle.trace_loop.specs.trace_book.trace_serving.Served.{IsTooMuch}
pub use Rattle.trace_loop.specs.trace_book.trace_serving.Served.{EndsWith, is_missing, is_refused, is_too_long, is_done, IsServedSo}
