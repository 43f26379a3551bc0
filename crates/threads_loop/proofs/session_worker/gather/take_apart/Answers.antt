-- One worker more is taken apart.
use Rattle.std.proofs.Common.{◌≡◌, ℕ, List, [], ◌∷◌, ◌++◌, map, reverse, refl, sym, ap, ◌∙◌, append_assoc}
use Rattle.std.specs.Prelude.{IsOk, Result, Ok}
use Rattle.std.specs.Global.{Vec}
use Rattle.std.specs.Vec.Iter.{into_iter_items}
use Rattle.std.proofs.lemmas.List.{map-append}
use Rattle.std.proofs.lemmas.List.Elements.{All-same, All-cons}
use Rattle.ram_io.specs.declared.NoMemory.{NoMemory}
use Rattle.channel_book.specs.channel_lock.{Known}
use Rattle.threads_loop.specs.declared.{session_worker.live_writer.writer.Placed.Placed, session_worker.worker.Worker.Worker}
use Rattle.threads_loop.specs.session_worker.{queue_of, drawn_in, drawn_by}
use Rattle.threads_loop.proofs.session_worker.Queues.{map_reversed}
use Rattle.threads_loop.proofs.session_worker.gather.take_apart.Goals as goal

is_ok : (r : Result (Vec Placed) NoMemory) (v : Vec Placed) → r ≡ Ok v → IsOk r
is_ok r v e = rw e refl

pub loop-worker-preserved : goal.loop-worker-preserved
loop-worker-preserved c =
    let l = c.loop-worker in
    let i = l.invariant in
    let w = c.in-Some.worker in
    let later = into_iter_items c.next.new.self in
    let steps = c.in-Some.ensures.steps in
    let all : w ∷ later ≡ into_iter_items l.worker-iterator = sym steps.0 in
    let pass : Worker → Known = λ x. x.pass in
    let drawn : Worker → List (List (List ℕ)) = λ x. reverse (drawn_by x) in
    let ok : Worker → Type 0 = λ x. IsOk x.wrote in
    let queue = c.reverse.new.self in
    let own : queue_of queue ≡ reverse (drawn_by w) =
    ap (map (λ (p : Placed). p.datagrams.items)) c.reverse.ensures.items ∙ map_reversed (λ (p : Placed). p.datagrams.items) c.in_ok-placed.placed.items ∙ ap (λ r. reverse (drawn_in r)) (sym c.in_ok-placed.was) in
    record {
      can_next = tt;
      is_finite = tt;
      passes = ap (λ ps. ps ++ map pass later) c.in_ok-push.ensures.items ∙ append_assoc l.passes.items (w.pass ∷ []) (map pass later) ∙ ap (λ ws. l.passes.items ++ map pass ws) all ∙ i.passes;
      queues = ap (λ qs. map queue_of qs ++ map drawn later) c.in_ok-push-2.ensures.items ∙ ap (λ qs. qs ++ map drawn later) (map-append queue_of l.queues.items (queue ∷ []))
          ∙ append_assoc (map queue_of l.queues.items) (queue_of queue ∷ []) (map drawn later)
          ∙ ap (λ q. map queue_of l.queues.items ++ q ∷ map drawn later) own ∙ ap (λ ws. map queue_of l.queues.items ++ map drawn ws) all ∙ i.queues;
      wrote = λ rest. i.wrote (All-same ok (into_iter_items l.worker-iterator) (w ∷ later) steps.0 (All-cons ok w later (is_ok w.wrote c.in_ok-placed.placed c.in_ok-placed.was) rest));
    }
