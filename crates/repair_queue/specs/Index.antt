-- What the index beside the list says of it.
use Rattle.std.specs.Prelude.{◌≡◌, ℕ, ◌+◌, ◌≤◌, Bool, true, false, cond, ◌&&◌, nat_eq, ◌/◌, ◌%◌, List, length, filter, unwrap_or, slice_index_or}
use Rattle.std.specs.declared.{option.Option.Option, option.Option.TheVariants.None, option.Option.TheVariants.Some}
use Rattle.std.specs.List.{list_any}
use Rattle.std.specs.HashMap.{HashMap, get}
use Rattle.rams_model.specs.Service.{Wanted, is_wanted}
use Rattle.repair_queue.specs.declared.{block.Block.Block, counts.Counts.Counts, index.Index.Index, index.Run.Run, marks.Marks.Marks}
use Rattle.repair_queue.specs.Queue.{count_of}

-- a client and a number are the same
abbrev pub same_pair : ℕ × ℕ → ℕ × ℕ → Bool
same_pair a b = nat_eq a.0 b.0 && nat_eq a.1 b.1

-- whether a place of a block has a mark
abbrev pub mark_of : Block → ℕ → Bool
mark_of block place = slice_index_or block.marks place false

-- where there is no block, none has
abbrev pub mark_in : Option Block → ℕ → Bool
mark_in None place = false
mark_in (Some block) place = mark_of block place

-- whether the map has the mark of a client's number
abbrev pub marked_in : {R : Type 0} → HashMap (ℕ × ℕ) Block R → ℕ → ℕ → Bool
marked_in blocks client n = mark_in (get same_pair blocks (client, n / 64)) (n % 64)

-- whether a place of a block has a mark: the block at hand, or else the map's
abbrev pub mark_at : Marks → ℕ × ℕ → ℕ → Bool
mark_at marks key place = cond (same_pair marks.key key) (mark_of marks.block place) (mark_in (get same_pair marks.others key) place)

-- whether the number of the client has a mark
abbrev pub marked : Marks → ℕ → ℕ → Bool
marked marks client n = mark_at marks (client, n / 64) (n % 64)

-- how often the map counts a client
abbrev pub counted_in : {R : Type 0} → HashMap ℕ ℕ R → ℕ → ℕ
counted_in counts client = unwrap_or (get nat_eq counts client) 0

-- how often a client is counted: the count at hand, or else the map's
abbrev pub counted : Counts → ℕ → ℕ
counted counts client = cond (nat_eq counts.client client) counts.count (counted_in counts.others client)

-- The pairs of a whole index are those that are pending, and its counts are each client's. One that isn't whole says nothing.
pub record Indexes (index : Index) (ws : List Wanted) : Type 0 where
  pub pairs : index.whole ≡ true → (client n : ℕ) → marked index.pairs client n ≡ list_any (is_wanted client n) ws
  pub counts : index.whole ≡ true → (client : ℕ) → counted index.counts client ≡ count_of client ws

-- The same, where the run's pairs went and its client's count still has them.
pub record Owes (index : Index) (ws : List Wanted) (run : Run) : Type 0 where
  pub pairs : index.whole ≡ true → (client n : ℕ) → marked index.pairs client n ≡ list_any (is_wanted client n) ws
  pub counts : index.whole ≡ true → (client : ℕ) → counted index.counts client ≡ count_of client ws + cond (nat_eq run.client client) run.len 0

-- no pair is pending twice
abbrev pub AreOnce : List Wanted → Type 0
AreOnce ws = (client n : ℕ) → length (filter (is_wanted client n) ws) ≤ 1
