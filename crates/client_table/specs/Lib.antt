pub mod Clients
pub mod Joined
pub mod Bursts
pub mod Left
pub mod Changes
pub mod Hashed
pub mod Timed
unfoldable pub use Rattle.client_table.specs.Clients.{nobody, clients_of, AreRising, entry_of, new_entry, with_client, with_entry, without, opened_of}
unfoldable pub use Rattle.client_table.specs.Joined.{shown, slot_at, entry_at, before, joined, seen, IsFree, AreJoined, AreReady, IsSlotChanged, AreSlotsChanged, has_burst, is_open_at}
unfoldable pub use Rattle.client_table.specs.Bursts.{Rise, opened_at, closed_at, marked, client_at}
pub use Rattle.client_table.specs.Bursts.{IsPlace, IsGap}
unfoldable pub use Rattle.client_table.specs.Left.{clients_left, bursts_left, left_of, due_left}
unfoldable pub use Rattle.client_table.specs.Changes.{AreAll, IsChanged, aged, awake, changed_by, changed, IsBurstChangedBy, IsBurstChanged}
pub use Rattle.client_table.specs.Changes.{AreChanged}
unfoldable pub use Rattle.client_table.specs.Hashed.{Tells}
unfoldable pub use Rattle.client_table.specs.Timed.{has_pair, clients_in, waiting_in, waiting, AreLater, times_of, times_at, AreInTime}
pub use Rattle.client_table.specs.Timed.{MovesOnly, GoesOn, IsInTime}
