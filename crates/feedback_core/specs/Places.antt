-- A client's place in the table while its datagram is answered.
use Rattle.std.specs.Prelude.{ℕ, Bool, ◌||◌, ◌==◌, not, if◌then◌else◌, length, Option, Some, None, is_some}
use Rattle.client_table.specs.declared.Entry.{Entry}
use Rattle.client_table.specs.{entry_of, new_entry, with_client, with_entry, without}
use Rattle.client_table.specs.Clients.{Clients}

-- as many clients are known as may be
abbrev pub is_full_table : Clients → Bool
is_full_table t = length t.known == t.most

-- a client has a place where it is known or can be
abbrev pub has_place : Clients → ℕ → Bool
has_place t k = is_some (entry_of t k) || not (is_full_table t)

-- the table with a place for a client, where it has one
abbrev pub with_place : Clients → ℕ → ℕ → Clients
with_place t k seq0 = if is_some (entry_of t k) then t else if is_full_table t then t else with_client t k (new_entry 0 seq0)

-- what is kept of a client is put into its place; a client of which nothing is kept has none
abbrev pub with_kept : Clients → ℕ → Option Entry → Clients
with_kept t k None = without t k
with_kept t k (Some e) = with_entry t k e
