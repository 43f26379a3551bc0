-- An index from clients to keys, and the entries under these keys, as one list.
use Rattle.std.specs.Prelude.{◌≢◌, ℕ, ◌+◌, ◌-◌, ◌%◌, Bool, false, List, [], ◌∷◌, Option, Some, None, option_map, is_some, IsSome, IsSomeAnd, slice_index_or}
use Rattle.client_table.specs.declared.{entry.Entry.Entry, stored.Stored.Stored}
use Rattle.client_table.specs.Clients.{Clients}

-- an entry as it is in this tick: it is idle for the ticks since the one that is stored, modulo 2^32
abbrev pub shown : ℕ → Stored → Entry
shown tick s = record { ssrc = s.ssrc; seq = s.seq; idle = (tick + 4294967296 - s.since % 4294967296) % 4294967296; burst = s.burst }

-- what a slot has
abbrev pub slot_at : List (Option Stored) → ℕ → Option Stored
slot_at slots key = slice_index_or slots key None

-- the entry in a slot
abbrev pub entry_at : ℕ → List (Option Stored) → ℕ → Option Entry
entry_at tick slots key = option_map (shown tick) (slot_at slots key)

-- a client with its entry, before the others
abbrev pub before : ℕ → Option Entry → List (ℕ × Entry) → List (ℕ × Entry)
before client None known = known
before client (Some entry) known = (client, entry) ∷ known

-- each client with the entry under its key
abbrev pub joined : (ℕ → Option Entry) → List (ℕ × ℕ) → List (ℕ × Entry)
joined at [] = []
joined at (e ∷ es) = before e.0 (at e.1) (joined at es)

-- what a table shows: how many may be known, and those that are
abbrev pub seen : ℕ → (ℕ → Option Entry) → List (ℕ × ℕ) → Clients
seen most at es = record { most = most; known = joined at es }

-- no client has this key
abbrev pub IsFree : ℕ → List (ℕ × ℕ) → Type 0
IsFree key [] = Unit {0}
IsFree key (e ∷ es) = (e.1 ≢ key) × IsFree key es

-- each client has an entry, and no two have one key
abbrev pub AreJoined : (ℕ → Option Entry) → List (ℕ × ℕ) → Type 0
AreJoined at [] = Unit {0}
AreJoined at (e ∷ es) = IsSome (at e.1) × (IsFree e.1 es × AreJoined at es)

-- no two clients have one key, and each has an entry that is as asked
abbrev pub AreReady : (ℕ → Entry → Type 0) → (ℕ → Option Entry) → List (ℕ × ℕ) → Type 0
AreReady P at [] = Unit {0}
AreReady P at (e ∷ es) = IsSomeAnd (at e.1) (P e.0) × (IsFree e.1 es × AreReady P at es)

-- a slot has a changed entry
abbrev pub IsSlotChanged : (Entry → Entry → Type 0) → Option Entry → Option Entry → Type 0
IsSlotChanged change old new = IsSomeAnd old (λ e. IsSomeAnd new (change e))

-- the slots of all clients have
abbrev pub AreSlotsChanged : (ℕ → Entry → Entry → Type 0) → (ℕ → Option Entry) → (ℕ → Option Entry) → List (ℕ × ℕ) → Type 0
AreSlotsChanged change at now [] = Unit {0}
AreSlotsChanged change at now (e ∷ es) = IsSlotChanged (change e.0) (at e.1) (now e.1) × AreSlotsChanged change at now es

-- there is an entry with an open burst
abbrev pub has_burst : Option Entry → Bool
has_burst None = false
has_burst (Some e) = is_some e.burst

-- a client's key has one
abbrev pub is_open_at : (ℕ → Option Entry) → ℕ × ℕ → Bool
is_open_at at e = has_burst (at e.1)
