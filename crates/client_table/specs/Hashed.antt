-- The keys of clients by a hash.
use Rattle.std.specs.Prelude.{◌≡◌, ℕ, true, nat_eq}
use Rattle.std.specs.Ordering.{nat_cmp}
use Rattle.std.specs.Map.{lookup}
use Rattle.std.specs.BTreeMap.{BTreeMap, is_at}
use Rattle.std.specs.HashMap.{get}
use Rattle.client_table.specs.declared.keys.Keys.{Keys}

-- while they are whole they are those of the index
abbrev pub Tells : Keys → BTreeMap ℕ ℕ → Type 0
Tells keys index = keys.whole ≡ true → (client : ℕ) → get nat_eq keys.keys client ≡ lookup (is_at (nat_cmp client)) index.entries
