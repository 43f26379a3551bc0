use Rattle.std.proofs.Common.{List, map, sym, subst}
use Rattle.channel_book.specs.declared.Entry.{Entry}
use Rattle.threads_loop.specs.session_worker.{AreQueues, queue_of}
use Rattle.threads_loop.proofs.session_worker.run.with_drawn.Goals as goal

pub draw-requires : goal.draw-requires
draw-requires c = subst (λ (es : List Entry). AreQueues c.args.config.now es (map queue_of c.args.queues.items)) (sym c.entries.ensures.entries) c.requires
