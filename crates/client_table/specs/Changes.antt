-- What a change of every entry makes of the known clients.
use Rattle.std.specs.Prelude.{◌≡◌, ℕ, ◌+◌, ◌%◌, Option, Some, None}
use Rattle.client_table.specs.declared.{entry.Burst.Burst, entry.Entry.Entry}
use Rattle.client_table.specs.Clients.{Clients, clients_of, entry_of, with_entry}

-- each known client, with its entry, is as asked
abbrev pub AreAll : (ℕ → Entry → Type 0) → Clients → Type 0
AreAll P t = (client : ℕ) (e : Entry) → entry_of t client ≡ Some e → P client e

-- an entry was changed, where there was one
abbrev pub IsChanged : (Entry → Entry → Type 0) → Option Entry → Option Entry → Type 0
IsChanged change None new = new ≡ None
IsChanged change (Some e) new = (d : Entry) × (new ≡ Some d) × change e d

-- the same clients are known, and the entry of each was changed
pub record AreChanged (change : ℕ → Entry → Entry → Type 0) (old new : Clients) : Type 0 where
  pub most : new.most ≡ old.most
  pub clients : clients_of new ≡ clients_of old
  pub entries : (client : ℕ) → IsChanged (change client) (entry_of old client) (entry_of new client)

-- one that is idle for a tick more, modulo 2^32
abbrev pub aged : Entry → Entry
aged e = record e { idle = (e.idle + 1) % 4294967296 }

-- the client isn't idle
abbrev pub awake : Entry → Entry
awake e = record e { idle = 0 }

-- the table with a client's entry changed, where it is known
abbrev pub changed_by : (Entry → Entry) → Clients → ℕ → Option Entry → Clients
changed_by change table client None = table
changed_by change table client (Some e) = with_entry table client (change e)

abbrev pub changed : (Entry → Entry) → Clients → ℕ → Clients
changed change table client = changed_by change table client (entry_of table client)

-- its burst was changed, where it has one, and nothing else
abbrev pub IsBurstChangedBy : (Burst → Burst → Type 0) → Option Burst → Entry → Entry → Type 0
IsBurstChangedBy change None e d = d ≡ e
IsBurstChangedBy change (Some b) e d = (c : Burst) × (d ≡ record e { burst = Some c }) × change b c

abbrev pub IsBurstChanged : (Burst → Burst → Type 0) → Entry → Entry → Type 0
IsBurstChanged change e d = IsBurstChangedBy change e.burst e d
