use Rattle.std.proofs.Common.{◌≡◌, ◌-◌, ◌*◌, ◌^◌, [], vec_len, vec_capacity}
use Rattle.pool.specs.link_pool.{fresh_takers}
use Rattle.pool.specs.link_pool.Sharing.{granting}
use Rattle.pool.proofs.link_pool.seats.deal.Given as goal
use Rattle.channel_book.specs.channel_lock.{numbers}

abbrev pub invariant-loop-number : goal.invariant-loop-number
invariant-loop-number l = record {
  table : l.seat.table_id ≡ l.fn.seat.table_id;
  view : l.seat.me ≡ (granting 0 (numbers l.number (l.count - l.number)) [] (2 ^ 54 - l.number * 2 ^ 48), []);
  dealt : l.takers.items ≡ fresh_takers l.fn.seat.table_id l.number;
  count : vec_len l.takers ≡ l.number;
  room : vec_capacity l.takers ≡ vec_capacity l.fn.takers;
}
