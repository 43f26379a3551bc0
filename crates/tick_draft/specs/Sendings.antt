-- Packets that were sent to one client, and are written down together.
use Rattle.std.specs.Prelude.{ℕ, ◌+◌, ◌-◌, ◌%◌, Option, Some, None, option_map}
use Rattle.rams_model.specs.declared.Note.{Note}
use Rattle.rams_model.specs.declared.Note.TheVariants.{Burst as BurstNote, Repair}
use Rattle.client_table.specs.declared.Entry.{Entry}
use Rattle.client_table.specs.{entry_of, changed}
use Rattle.tick_draft.specs.declared.sendings.Sendings.{Sendings}
use Rattle.tick_draft.specs.Committed.{Committed, burst_sent, IsNextSmallIfKnown}

-- one packet
abbrev pub one_sending : ℕ → ℕ → ℕ → Sendings
one_sending client of_burst bytes = record { client = client; packets = 1; of_burst = of_burst; bytes = bytes }

-- some, and others to the same client
abbrev pub both_sendings : Sendings → Sendings → Sendings
both_sendings x y = record { client = x.client; packets = x.packets + y.packets; of_burst = x.of_burst + y.of_burst; bytes = x.bytes + y.bytes }

-- an entry after them. The client isn't idle
abbrev pub entry_after : Sendings → Entry → Entry
entry_after x e = record e { seq = (e.seq + x.packets) % 65536; idle = 0; burst = option_map (burst_sent x.of_burst x.bytes) e.burst }

abbrev pub with_sendings : Sendings → Committed → Committed
with_sendings x c = record { table = changed (entry_after x) c.table x.client; budget = record c.budget { left = c.budget.left - x.bytes } }

-- the number of the next packet stays small
abbrev pub MaySend : Sendings → Committed → Type 0
MaySend x c = IsNextSmallIfKnown x.of_burst (entry_of c.table x.client)

-- the packet of this size that a note sends
abbrev pub sending_of : ℕ → Note → Option Sendings
sending_of size (BurstNote client n seq) = Some (one_sending client 1 size)
sending_of size (Repair client n seq) = Some (one_sending client 0 size)
sending_of size _ = None
