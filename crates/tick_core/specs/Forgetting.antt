-- Who is forgotten in a tick.
use Rattle.std.specs.Prelude.{ℕ, ◌+◌, ◌||◌, ◌==◌, nat_lt, if◌then◌else◌, List, [], ◌∷◌, Option, Some, None, is_some}
use Rattle.rams_model.specs.declared.Note.TheVariants.{Forgot}
use Rattle.rams_model.specs.Service.{Settings, Wanted}
use Rattle.client_table.specs.declared.Entry.{Entry}
use Rattle.client_table.specs.{entry_of}
use Rattle.client_table.specs.Clients.{Clients}
use Rattle.repair_queue.specs.{count_of}
use Rattle.tick_draft.specs.Drafts.{Drafted, with_note}

-- a client's idle count after a tick, by what its entry counts: one more, unless it had an open burst or a pending repair as the tick began
abbrev pub idle_after : List Wanted → ℕ → Entry → ℕ
idle_after ws client e = if is_some e.burst || nat_lt 0 (count_of client ws) then 0 else e.idle + 1

-- the note of a client that has been idle for `idle` ticks
abbrev pub with_forgotten : Settings → List Wanted → ℕ → Entry → Drafted → Drafted
with_forgotten s ws client e d = if idle_after ws client e == s.channel.idle then with_note d (Forgot client) else d

-- the same of a client that may have no entry
abbrev pub with_forgotten_if : Settings → List Wanted → ℕ → Option Entry → Drafted → Drafted
with_forgotten_if s ws client None d = d
with_forgotten_if s ws client (Some e) d = with_forgotten s ws client e d

-- of these clients, each by its entry in the table
unfoldable pub with_due_forgotten : Settings → List Wanted → Clients → List ℕ → Drafted → Drafted
with_due_forgotten s ws t [] d = d
with_due_forgotten s ws t (k ∷ ks) d = with_due_forgotten s ws t ks (with_forgotten_if s ws k (entry_of t k) d)

-- the notes of those of these clients
unfoldable pub with_all_forgotten : Settings → List Wanted → List (ℕ × Entry) → Drafted → Drafted
with_all_forgotten s ws [] d = d
with_all_forgotten s ws (e ∷ es) d = with_all_forgotten s ws es (with_forgotten s ws e.0 e.1 d)
