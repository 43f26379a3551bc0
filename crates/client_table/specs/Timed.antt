-- The ticks in which clients are looked at.
use Rattle.std.specs.Prelude.{◌≡◌, ◌≢◌, ℕ, ◌+◌, ◌<◌, ◌≤◌, Bool, true, nat_le, List, length, filter, map, Option, Some, option_map, IsSomeAnd}
use Rattle.std.specs.Map.{lookup}
use Rattle.std.specs.BTreeMap.{is_at}
use Rattle.std.specs.BTreeSet.{BTreeSet, contains}
use Rattle.std.specs.Ordering.{nat_cmp}
use Rattle.rams_model.specs.Pairs.{pair_cmp}
use Rattle.client_table.specs.declared.{due.Due.Due, stored.Stored.Stored}
use Rattle.client_table.specs.Joined.{shown, slot_at}

-- a client stands at a tick
abbrev pub has_pair : Due → ℕ → ℕ → Bool
has_pair due tick client = contains pair_cmp due.pairs (tick, client)

-- the clients of some pairs
abbrev pub clients_in : List (ℕ × ℕ) → List ℕ
clients_in pairs = map (λ p. p.1) pairs

-- how many have a tick that has come
abbrev pub waiting_in : ℕ → BTreeSet (ℕ × ℕ) → ℕ
waiting_in now pairs = length (filter (λ p. nat_le p.0 now) pairs.keys)

abbrev pub waiting : Due → ℕ
waiting due = waiting_in due.ticks due.pairs

-- each stands in a tick that is still to come
abbrev pub AreLater : Due → Type 0
AreLater due = due.whole ≡ true → (p : ℕ × ℕ) → contains pair_cmp due.pairs p ≡ true → due.ticks < p.0

-- only this client was moved
pub record MovesOnly (client : ℕ) (old new : Due) : Type 0 where
  pub limit_same : new.limit ≡ old.limit
  pub ticks_same : new.ticks ≡ old.ticks
  pub was_whole : new.whole ≡ true → old.whole ≡ true
  pub others : (tick other : ℕ) → other ≢ client → has_pair old tick other ≡ true → has_pair new tick other ≡ true

-- a tick went by
pub record GoesOn (old new : Due) : Type 0 where
  pub limit_same : new.limit ≡ old.limit
  pub pairs_same : new.pairs ≡ old.pairs
  pub ticks_next : new.whole ≡ true → (old.whole ≡ true) × (new.ticks ≡ old.ticks + 1)

-- a client stands at a tick, and none later than where it can first have been idle for the limit
pub record IsInTime (due : Due) (client tick idle : ℕ) : Type 0 where
  pub there : has_pair due tick client ≡ true
  pub most : tick ≤ due.ticks + due.limit
  pub soon : idle < due.limit → tick + idle ≤ due.ticks + due.limit

-- of a slot: the tick at which its client stands, and the idle count
abbrev pub times_of : ℕ → Option Stored → Option (ℕ × ℕ)
times_of tick slot = option_map (λ s. (s.due, (shown tick s).idle)) slot

abbrev pub times_at : ℕ → List (Option Stored) → ℕ → Option (ℕ × ℕ)
times_at tick slots key = times_of tick (slot_at slots key)

-- all known clients stand in time
abbrev pub AreInTime : Due → (ℕ → Option (ℕ × ℕ)) → List (ℕ × ℕ) → Type 0
AreInTime due times es =
    due.whole ≡ true → (client key : ℕ) → lookup (is_at (nat_cmp client)) es ≡ Some key → IsSomeAnd (times key) (λ t. IsInTime due client t.0 t.1)
