-- The pending repairs of a channel, the oldest first, and what each call makes of them.
use Rattle.std.specs.Prelude.{ℕ, ◌≤◌, nat_le, Bool, true, false, ◌==◌, not, if◌then◌else◌, List, [], ◌∷◌, ◌++◌, length, filter}
use Rattle.std.specs.List.{list_any}
use Rattle.rams_model.specs.Service.{Wanted, wanted, is_wanted}
use Rattle.repair_queue.specs.declared.{wanted.TheConstants.MOST_PENDING, wanted.Asked.Asked}
use Rattle.repair_queue.specs.declared.wanted.Asked.TheVariants.{Queued, Already, ClientFull, QueueFull}

-- the repair is this client's
abbrev pub is_of : ℕ → Wanted → Bool
is_of client w = w.client == client

-- how many repairs a client waits for
abbrev pub count_of : ℕ → List Wanted → ℕ
count_of client ws = length (filter (is_of client) ws)

-- The answer to an ask: the first that is true.
abbrev pub asked_of : List Wanted → ℕ → ℕ → Asked
asked_of ws client n =
    if list_any (is_wanted client n) ws then Already
    else if nat_le 256 (count_of client ws) then ClientFull
    else if nat_le MOST_PENDING (length ws) then QueueFull
    else Queued

-- what is pending after an answer: one more behind the others where it is Queued
abbrev pub answered : Asked → List Wanted → ℕ → ℕ → List Wanted
answered Queued ws client n = ws ++ wanted client n ∷ []
answered _ ws client n = ws

-- Those that aren't marked, in their order.
abbrev pub unmarked : List Wanted → List Bool → List Wanted
unmarked [] done = []
unmarked (w ∷ ws) [] = w ∷ ws
unmarked (w ∷ ws) (true ∷ done) = unmarked ws done
unmarked (w ∷ ws) (false ∷ done) = w ∷ unmarked ws done

-- those of the other clients, in their order
abbrev pub without : ℕ → List Wanted → List Wanted
without client ws = filter (λ w. not (is_of client w)) ws

-- The limits: no repair is pending twice, at most 256 of a client and 4,096 in all.
pub record IsWithinLimits (ws : List Wanted) : Type 0 where
  pub once : (client n : ℕ) → length (filter (is_wanted client n) ws) ≤ 1
  pub of_client : (client : ℕ) → count_of client ws ≤ 256
  pub in_all : length ws ≤ MOST_PENDING
