pub mod Heads
pub mod Ports
unfoldable pub use Rattle.trace_loop.specs.head_loop.Heads.{head_end, head_stage, with_feed, head_text, behind_head, numbers, StandsSomewhere, claim_of, HubServes, HasOpenedBy, HasOpenedSome, OpensIn, Took, Grows, StandsAfter, IsFirstLine, HasRead, IsIdle, LeavesBehind, IsCutBefore}
pub use Rattle.trace_loop.specs.head_loop.Heads.{Serves, HasOpened, CanOpen, OpensChannel, Comes, GoesOnAfter, EndsAt, IsHeadOf}
unfoldable pub use Rattle.trace_loop.specs.head_loop.Ports.{AnswersFrom}
