use Rattle.std.proofs.Common.{◌≡◌, ◌++◌, map}
use Rattle.std.specs.Vec.Iter.{into_iter_items}
use Rattle.channel_book.specs.declared.Entry.{Entry}
use Rattle.channel_book.specs.{IsLegal}
use Rattle.pool.specs.link_pool.{bytes_of}
use Rattle.pool.specs.pool_run.{sizes_of, AreSmall}
use Rattle.pool.proofs.pool_run.lane.run_events.Given as goal

abbrev pub invariant-loop-event : goal.invariant-loop-event
invariant-loop-event g l = record {
  can_next : (goal.iterator-loop-event g).can_next l.event-iterator;
  is_finite : (goal.iterator-loop-event g).is_finite l.event-iterator;
  pool : l.taker.pool ≡ l.fn.taker.pool;
  number : l.taker.number ≡ l.fn.taker.number;
  settings : l.book.settings ≡ l.fn.book.settings;
  events : map (λ (e : Entry). e.event) l.book.entries ++ into_iter_items l.event-iterator ≡ l.fn.events.items;
  legal : IsLegal l.book.settings l.book.entries;
  claims : map bytes_of l.taker.claims ≡ sizes_of l.book.entries;
  small : AreSmall l.taker.claims;
}
