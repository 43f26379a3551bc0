-- What the known clients and the budget of a channel are as a tick goes on, note by note.
use Rattle.std.specs.Prelude.{◌≡◌, ℕ, ◌+◌, ◌-◌, ◌%◌, ◌^◌, ◌<◌, ◌≤◌, min, List, [], ◌∷◌, Option, Some, None, option_map}
use Rattle.rams_model.specs.declared.{Held.Held, Note.Note}
use Rattle.rams_model.specs.declared.Note.TheVariants.{Burst as BurstNote, Repair, Gone, End, Forgot}
use Rattle.rams_model.specs.Service.{Settings, size_of}
use Rattle.rams_model.specs.Packets.{following}
use Rattle.client_table.specs.declared.{Burst.Burst, Entry.Entry}
use Rattle.client_table.specs.{clients_of, entry_of, awake, changed, without}
use Rattle.client_table.specs.Clients.{Clients}
use Rattle.reckoning.specs.link_budget.Amounts.{Amounts}
use Rattle.channel_cache.specs.packet_ring.{packet_of}

-- a burst as a tick begins: until the tick ends, `kept` is all that it may still be sent
abbrev pub opened_for_tick : Burst → Burst
opened_for_tick b = record b { ticks = b.ticks + 1; kept = b.rate + b.kept }

-- the idle count of an entry as a tick begins: one more, modulo 2^32
abbrev pub counted_on : ℕ → ℕ
counted_on idle = (idle + 1) % 4294967296

abbrev pub entry_begun : Entry → Entry
entry_begun e = record e { idle = counted_on e.idle; burst = option_map opened_for_tick e.burst }

-- no number of the entry is large
pub record IsSmallBurst (b : Burst) : Type 0 where
  pub ticks : b.ticks + 1 < 2 ^ 32
  pub budget : b.rate + b.kept < 2 ^ 64

abbrev pub IsSmallIfOpen : Option Burst → Type 0
IsSmallIfOpen None = Unit {0}
IsSmallIfOpen (Some b) = IsSmallBurst b

abbrev pub IsSmallIfKnown : Option Entry → Type 0
IsSmallIfKnown None = Unit {0}
IsSmallIfKnown (Some e) = IsSmallIfOpen e.burst

-- nor of any other
abbrev pub AreSmall : Clients → Type 0
AreSmall table = (client : ℕ) → IsSmallIfKnown (entry_of table client)

-- a burst as a tick ends: at most the depth is kept
abbrev pub burst_ended : ℕ → Burst → Burst
burst_ended depth b = record b { kept = min depth b.kept }

abbrev pub entry_ended : ℕ → Entry → Entry
entry_ended depth e = record e { burst = option_map (burst_ended depth) e.burst }

-- a packet of this size was sent, and so many of the burst. The client isn't idle
abbrev pub burst_sent : ℕ → ℕ → Burst → Burst
burst_sent count size b = record b { next = b.next + count; kept = b.kept - size }

abbrev pub entry_sent : ℕ → ℕ → Entry → Entry
entry_sent count size e = record e { seq = following e.seq; idle = 0; burst = option_map (burst_sent count size) e.burst }

-- the number of the next packet stays small
abbrev pub IsNextSmall : ℕ → Option Burst → Type 0
IsNextSmall count None = Unit {0}
IsNextSmall count (Some b) = b.next + count < 2 ^ 64

abbrev pub IsNextSmallIfKnown : ℕ → Option Entry → Type 0
IsNextSmallIfKnown count None = Unit {0}
IsNextSmallIfKnown count (Some e) = IsNextSmall count e.burst

-- the burst has ended, and the client isn't idle
abbrev pub entry_closed : Entry → Entry
entry_closed e = record e { idle = 0; burst = None }

-- the entries of all clients were changed
pub record AreAllChanged (change : ℕ → Entry → Entry) (old new : Clients) : Type 0 where
  pub most : new.most ≡ old.most
  pub clients : clients_of new ≡ clients_of old
  pub entries : (client : ℕ) → entry_of new client ≡ option_map (change client) (entry_of old client)

-- what the burst of an entry has reserved
abbrev pub amount_of : ℕ → Option Burst → ℕ
amount_of depth None = 0
amount_of depth (Some b) = b.rate + depth

abbrev pub amount_for : ℕ → Option Entry → ℕ
amount_for depth None = 0
amount_for depth (Some e) = amount_of depth e.burst

-- the known clients and the budget
pub record Committed : Type 0 where
  pub table : Clients
  pub budget : Amounts

abbrev pub committing : Clients → Amounts → Committed
committing table budget = record { table = table; budget = budget }

-- a packet of this size was sent to a client
abbrev pub with_sending : ℕ → ℕ → ℕ → Committed → Committed
with_sending client count size c = record { table = changed (entry_sent count size) c.table client; budget = record c.budget { left = c.budget.left - size } }

-- a client's burst ended
abbrev pub with_closed : ℕ → ℕ → Committed → Committed
with_closed depth client c = record {
  table = changed entry_closed c.table client;
  budget = record c.budget { reserved = c.budget.reserved - amount_for depth (entry_of c.table client) };
}

-- after a note of a tick
abbrev pub with_committed : Settings → List Held → Note → Committed → Committed
with_committed s held (BurstNote client n seq) c = with_sending client 1 (size_of (packet_of n held)) c
with_committed s held (Repair client n seq) c = with_sending client 0 (size_of (packet_of n held)) c
with_committed s held (End client cause) c = with_closed s.channel.depth client c
with_committed s held (Gone client n) c = record c { table = changed awake c.table client }
with_committed s held (Forgot client) c = record c { table = without c.table client }
with_committed s held _ c = c

-- after these notes
unfoldable pub with_all_committed : Settings → List Held → List Note → Committed → Committed
with_all_committed s held [] c = c
with_all_committed s held (note ∷ notes) c = with_all_committed s held notes (with_committed s held note c)

-- what the burst of an entry has reserved is small, and is reserved
pub record MayEnd (depth : ℕ) (o : Option Entry) (budget : Amounts) : Type 0 where
  pub small : amount_for depth o < 2 ^ 64
  pub within : amount_for depth o ≤ budget.reserved

-- what the calls of a note ask
abbrev pub MayCommit : Settings → Note → Committed → Type 0
MayCommit s (BurstNote client n seq) c = IsNextSmallIfKnown 1 (entry_of c.table client)
MayCommit s (Repair client n seq) c = IsNextSmallIfKnown 0 (entry_of c.table client)
MayCommit s (End client cause) c = MayEnd s.channel.depth (entry_of c.table client) c.budget
MayCommit s _ c = Unit {0}

unfoldable pub MayCommitAll : Settings → List Held → List Note → Committed → Type 0
MayCommitAll s held [] c = Unit {0}
MayCommitAll s held (note ∷ notes) c = MayCommit s note c × MayCommitAll s held notes (with_committed s held note c)
