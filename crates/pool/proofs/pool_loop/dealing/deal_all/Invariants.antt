use Rattle.std.proofs.Common.{◌≡◌, length}
use Rattle.rams_model.specs.declared.Event.TheVariants.{Tick}
use Rattle.server_hub.specs.{with_event}
use Rattle.pool.specs.pool_loop.{all_served}
use Rattle.pool.proofs.pool_loop.Halves.{Half}
use Rattle.pool.proofs.pool_loop.dealing.deal_all.Given as goal

abbrev pub invariant-loop-place : goal.invariant-loop-place
invariant-loop-place l = record {
  half : Half (with_event Tick) (all_served l.fn.channels.items) (all_served l.channels.items) l.place;
  many : length l.channels.items ≡ length l.fn.channels.items;
}
