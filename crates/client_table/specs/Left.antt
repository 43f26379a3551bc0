-- Clients that are still to come.
use Rattle.std.specs.Prelude.{ℕ, List}
use Rattle.std.specs.Map.{keys_of}
use Rattle.std.specs.Slice.Iter.{iter_rest}
use Rattle.client_table.specs.declared.{entry.Entry.Entry, walk.KnownClients.KnownClients, walk.OpenBursts.OpenBursts}
use Rattle.client_table.specs.declared.{walk.DueClients.DueClients, walk.DueLeft.DueLeft}
use Rattle.client_table.specs.declared.walk.DueLeft.TheVariants.{All, At}
use Rattle.client_table.specs.Joined.{entry_at, joined}
use Rattle.client_table.specs.Timed.{clients_in}

-- the known clients that are left, each with what is kept of it
abbrev pub clients_left : KnownClients → List (ℕ × Entry)
clients_left w = joined (entry_at w.tick w.entries.now.slots) w.index

-- those with an open burst
abbrev pub bursts_left : OpenBursts → List (ℕ × Entry)
bursts_left w = joined (entry_at w.tick w.entries.now.slots) (iter_rest w.left)

-- those that may be due
abbrev pub left_of : DueLeft → List ℕ
left_of (All clients) = keys_of clients
left_of (At pairs) = clients_in pairs

abbrev pub due_left : DueClients → List ℕ
due_left w = left_of w.left
