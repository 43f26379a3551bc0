use Rattle.std.proofs.Common.{◌≡◌, ◌-◌, ◌*◌, ◌^◌, [], vec_len, vec_capacity}
use Rattle.channel_book.specs.channel_lock.{fresh, numbers}
use Rattle.channel_book.specs.channel_lock.Turns.{dealing}
use Rattle.channel_book.proofs.channel_lock.passes.deal.Given as goal

abbrev pub invariant-loop-list : goal.invariant-loop-list
invariant-loop-list l = record {
  table : l.seat.table_id ≡ l.fn.seat.table_id;
  view : l.seat.me ≡ (dealing l.config (numbers l.list (l.seats - l.list)) (2 ^ 40 - l.list * 2 ^ 34), []);
  dealt : l.passes.items ≡ fresh l.fn.seat.table_id l.config l.list;
  count : vec_len l.passes ≡ l.list;
  room : vec_capacity l.passes ≡ vec_capacity l.fn.passes;
}
