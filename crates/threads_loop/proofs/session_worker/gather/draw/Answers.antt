-- The next datagrams of an entry's list are those of its answer.
use Rattle.std.proofs.Common.{ℕ, ◌+◌, [], ◌∷◌, ◌++◌, map, get_or, length, take, drop, set, sym, ap, ◌∙◌, subst, arith}
use Rattle.std.proofs.lemmas.List.{length-map, get_or-map, map-set, map-append}
use Rattle.threads_loop.specs.session_worker.{AreQueues, answered_with, queue_of}
use Rattle.threads_loop.proofs.session_worker.Queues.{next_entry, entries_more, queue_inside, queue_filled, next_drawn, queues_later}
use Rattle.threads_loop.proofs.session_worker.gather.draw.Goals as goal

pub index_mut-queue-requires : goal.index_mut-queue-requires
index_mut-queue-requires c =
    let l = c.loop-entry in
    let e = c.entry-item.result in
    let entries = c.args.entries.now in
    let queues = map queue_of l.queues.items in
    let later = drop (l.entry-index + 1) entries in
    let q = subst (λ es. AreQueues c.args._config.now es queues) (next_entry entries l.entry-index e c.loop-entry-test.true c.entry-item.is) l.invariant.queues in
    omega (arith, queue_inside c.args._config.now e later queues q, length-map l.queues.items queue_of, c.from.ensures, l.queues.ok.0)

pub take_last-requires : goal.take_last-requires
take_last-requires c =
    let l = c.loop-entry in
    let e = c.entry-item.result in
    let entries = c.args.entries.now in
    let queues = map queue_of l.queues.items in
    let later = drop (l.entry-index + 1) entries in
    let queue = c.index_mut-queue.result.now in
    let q = subst (λ es. AreQueues c.args._config.now es queues) (next_entry entries l.entry-index e c.loop-entry-test.true c.entry-item.is) l.invariant.queues in
    let inside = queue_inside c.args._config.now e later queues q in
    let at = get_or-map queue_of l.queues.items e.list queue [] (omega (arith, inside, length-map l.queues.items queue_of)) in
    let own = ap (λ (n : ℕ). get_or l.queues.items n queue) c.from.ensures in
    let filled = queue_filled c.args._config.now e later queues q in
    omega (arith, filled, ap length at, ap (λ v. length (queue_of v)) (c.index_mut-queue.ensures.value ∙ own), length-map queue.items (λ p. p.datagrams.items))

pub loop-entry-preserved : goal.loop-entry-preserved
loop-entry-preserved c =
    let l = c.loop-entry in
    let s = c.args._config.now in
    let e = c.entry-item.result in
    let entries = c.args.entries.now in
    let queues = map queue_of l.queues.items in
    let later = drop (l.entry-index + 1) entries in
    let queue = c.index_mut-queue.result.now in
    let left = c.take_last.new.queue in
    let given = c.take_last.result.items in
    let q = subst (λ es. AreQueues s es queues) (next_entry entries l.entry-index e c.loop-entry-test.true c.entry-item.is) l.invariant.queues in
    let inside = queue_inside s e later queues q in
    let own = ap (λ (n : ℕ). get_or l.queues.items n queue) c.from.ensures in
    let at = get_or-map queue_of l.queues.items e.list queue [] (omega (arith, inside, length-map l.queues.items queue_of)) ∙ ap queue_of (sym (c.index_mut-queue.ensures.value ∙ own)) ∙ c.take_last.ensures in
    let kept = queues_later s e later queues q (queue_of left) given at in
    let set_is = map-set queue_of l.queues.items c.from.result left ∙ ap (λ (n : ℕ). set queues n (queue_of left)) c.from.ensures in
    record {
      queues = subst (AreQueues s later) (sym set_is) kept;
      drawn = ap (map (λ d. d.items)) c.in_ok-push.ensures.items ∙ map-append (λ d. d.items) l.drawn.items (c.take_last.result ∷ []) ∙ ap (λ ds. ds ++ given ∷ []) l.invariant.drawn
          ∙ ap (λ d. answered_with s (take l.entry-index entries) ++ d ∷ []) (next_drawn s e later queues q (queue_of left) given at) ∙ sym (entries_more s entries l.entry-index e c.loop-entry-test.true c.entry-item.is);
    }
