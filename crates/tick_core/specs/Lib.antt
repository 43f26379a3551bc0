pub mod Runs
pub mod Repairs
pub mod Allowances
pub mod Forgetting
pub mod Plans
unfoldable pub use Rattle.tick_core.specs.Runs.{unsent, after_packet, sent_after, run_from, with_run, IsInTime, AreInTime, run_of, after_run, end_of, kept_back, allowance, left_by_run, allowance_of, idle_allowance, with_served, with_all_served, allowances_of}
pub use Rattle.tick_core.specs.Runs.{AreInOrder, IsSmall, IsNext, AreOfBursts}
unfoldable pub use Rattle.tick_core.specs.Repairs.{after_repair, allowance_for, with_taken, fits, waiting, with_waiting, with_repair, with_wanted, IsSpent, FitsNowhere, AreHeld, IsGone, with_all_wanted, clients_of, Rise, or_changed, all_allowances}
pub use Rattle.tick_core.specs.Repairs.{Repaired}
unfoldable pub use Rattle.tick_core.specs.Allowances.{in_place, told_by, AreOfKnown}
unfoldable pub use Rattle.tick_core.specs.Forgetting.{idle_after, with_forgotten, with_forgotten_if, with_due_forgotten, with_all_forgotten}
unfoldable pub use Rattle.tick_core.specs.Plans.{begun_left, drafted_runs, repairs_behind, tick_behind, drafted_tick, planned_answer, planned_flags, IsPlanOf, ends_wait, is_over}
pub use Rattle.tick_core.specs.Plans.{IsPlanBehind, IsWorkOf, IsWorkFor, IsPlanFor}
