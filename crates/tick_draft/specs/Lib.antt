pub mod Drafts
pub mod Committed
pub mod Sendings
pub mod Sizes
pub mod Sums
pub mod Steps
pub mod InStep
pub mod Counting
unfoldable pub use Rattle.tick_draft.specs.Drafts.{new_draft, with_note, with_packet, told_end, with_end}
pub use Rattle.tick_draft.specs.Drafts.{Drafted}
unfoldable pub use Rattle.tick_draft.specs.Committed.{opened_for_tick, counted_on, entry_begun, IsSmallIfOpen, IsSmallIfKnown, AreSmall, burst_ended, entry_ended, burst_sent, entry_sent, IsNextSmall, IsNextSmallIfKnown, entry_closed, amount_of, amount_for, committing, with_sending, with_closed, with_committed, with_all_committed, MayCommit, MayCommitAll}
pub use Rattle.tick_draft.specs.Committed.{IsSmallBurst, AreAllChanged, MayEnd}
unfoldable pub use Rattle.tick_draft.specs.Sendings.{one_sending, both_sendings, entry_after, with_sendings, MaySend, sending_of}
unfoldable pub use Rattle.tick_draft.specs.Sizes.{sizes_named, first_size, later_sizes, sizes_behind, with_sized, with_all_sized, MayCommitSized}
unfoldable pub use Rattle.tick_draft.specs.Steps.{with_step, with_all_steps, MayDo, MayDoAll, other_step, with_step_if, with_last}
unfoldable pub use Rattle.tick_draft.specs.InStep.{packets_sent}
unfoldable pub use Rattle.tick_draft.specs.Sums.{sends, sends_of_burst, ends_burst, sums_in, no_sums, both_sums, step_sums, sums_of}
pub use Rattle.tick_draft.specs.Sums.{AreSmallSums}
pub use Rattle.tick_draft.specs.Steps.{AreBoth}
pub use Rattle.tick_draft.specs.InStep.{AreStepsOf, AreInStep}
pub use Rattle.tick_draft.specs.Counting.{Counted, IsCountOf}
