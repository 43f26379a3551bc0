use Rattle.std.proofs.Common.{◌≡◌, ℕ, List, [], ◌++◌, All}
use Rattle.std.specs.Vec.Iter.{into_iter_items}
use Rattle.channel_book.specs.declared.entry.Entry.{Entry}
use Rattle.channel_book.specs.channel_lock.Turns.{gathering}
use Rattle.channel_book.specs.channel_lock.Passes.{pasts_of}
use Rattle.channel_book.proofs.channel_lock.passes.gather.Given as goal

abbrev pub invariant-loop-pass : goal.invariant-loop-pass
invariant-loop-pass l = record {
  can_next : (goal.iterator-loop-pass).can_next l.pass-iterator;
  is_finite : (goal.iterator-loop-pass).is_finite l.pass-iterator;
  table : l.seat.table_id ≡ l.fn.shared.table_id;
  made : All (λ p. p.lock ≡ l.fn.shared.table_id) (into_iter_items l.pass-iterator);
  gathered : (past : List (ℕ × List Entry)) × (left : ℕ) × (past ++ pasts_of (into_iter_items l.pass-iterator) ≡ pasts_of l.fn.passes.items) × (l.seat.me ≡ (gathering past left, []));
}
