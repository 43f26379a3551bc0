use Rattle.std.proofs.Common.{◌≡◌, map, take}
use Rattle.rams_model.specs.Service.{datagram}
use Rattle.threads_loop.proofs.session_worker.live_writer.rendering.render_alone.Given as goal

abbrev pub invariant-loop-order : goal.invariant-loop-order
invariant-loop-order l = l.datagrams.items ≡ map (datagram l.config) (take l.order-index l.orders)
