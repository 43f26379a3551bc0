-- What is told of the repairs of clients, where the last one stands apart.
use Rattle.std.specs.Prelude.{ℕ, ◌==◌, if◌then◌else◌, nat_eq, Option, Some, None, IsSome}
use Rattle.std.specs.HashMap.{get}
use Rattle.client_table.specs.{entry_of}
use Rattle.client_table.specs.Clients.{Clients}
use Rattle.tick_core.specs.declared.{allowance.Allowance.Allowance, allowances.Allowances.Allowances}

-- an allowance in place of what is told of its client
abbrev pub in_place : Option Allowance → (ℕ → Option Allowance) → ℕ → Option Allowance
in_place None told client = told client
in_place (Some a) told client = if a.client == client then Some a else told client

-- what is told of each client
abbrev pub told_by : Allowances → ℕ → Option Allowance
told_by x = in_place x.last (get nat_eq x.others)

-- something is told of known clients alone
abbrev pub AreOfKnown : Clients → (ℕ → Option Allowance) → Type 0
AreOfKnown table told = (client : ℕ) → IsSome (told client) → IsSome (entry_of table client)
