use Rattle.std.proofs.Common.{◌≡◌, vec_len, vec_capacity, take}
use Rattle.channel_book.proofs.copies.push_infos.Given as goal

abbrev pub invariant-loop-order : goal.invariant-loop-order
invariant-loop-order l = record {
  copied : l.copy.items ≡ take l.order-index l.orders;
  count : vec_len l.copy ≡ l.order-index;
  room : vec_capacity l.copy ≡ vec_capacity l.initial.copy;
}
