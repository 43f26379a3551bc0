-- The known clients of a channel, and what each call makes of them.
use Rattle.std.specs.Prelude.{ℕ, List, [], Option, None, is_some, filter}
use Rattle.std.specs.Ordering.{nat_cmp}
use Rattle.std.specs.Map.{keys_of, lookup, set_value, remove_entry}
use Rattle.std.specs.BTreeMap.{insert_entry, is_at}
use Rattle.std.specs.List.Sorted.{IsStrictlySortedBy}
use Rattle.client_table.specs.declared.entry.Entry.{Entry}

-- how many clients may be known, and those that are, each with its entry, by rising client
pub record Clients : Type 0 where
  pub most : ℕ
  pub known : List (ℕ × Entry)

-- nobody is known
abbrev pub nobody : ℕ → Clients
nobody most = record { most = most; known = [] }

-- the known clients
abbrev pub clients_of : Clients → List ℕ
clients_of t = keys_of t.known

-- each client is below those after it
abbrev pub AreRising : Clients → Type 0
AreRising t = IsStrictlySortedBy nat_cmp (clients_of t)

-- a client's entry, where it is known
abbrev pub entry_of : Clients → ℕ → Option Entry
entry_of t client = lookup (is_at (nat_cmp client)) t.known

-- of a client that just became known: its SSRC, and the first number of its retransmission stream
abbrev pub new_entry : ℕ → ℕ → Entry
new_entry ssrc seq0 = record { ssrc = ssrc; seq = seq0; idle = 0; burst = None }

-- a client more, in its place
abbrev pub with_client : Clients → ℕ → Entry → Clients
with_client t client entry = record t { known = insert_entry nat_cmp t.known client entry }

-- another entry for a known client; the others keep theirs
abbrev pub with_entry : Clients → ℕ → Entry → Clients
with_entry t client entry = record t { known = set_value (is_at (nat_cmp client)) t.known entry }

-- without a client
abbrev pub without : Clients → ℕ → Clients
without t client = record t { known = remove_entry (is_at (nat_cmp client)) t.known }

-- the known clients with an open burst, each with its entry, by rising client
abbrev pub opened_of : Clients → List (ℕ × Entry)
opened_of t = filter (λ e. is_some e.1.burst) t.known
