-- The datagrams of one answer more.
use Rattle.std.proofs.Common.{[], ◌∷◌, ◌+◌, ◌++◌, ℕ, List, map, sym, ap, ◌∙◌, subst, arith, append_assoc}
use Rattle.std.specs.Vec.Iter.{into_iter_items}
use Rattle.std.proofs.lemmas.List.{length-append, length-map, map-append}
use Rattle.std.specs.Global.{Vec}
use Rattle.rams_model.specs.declared.Octets.{Octets}
use Rattle.threads_loop.specs.declared.session_worker.live_writer.writer.Placed.{Placed}
use Rattle.threads_loop.specs.session_worker.live_writer.{HasDrawn}
use Rattle.threads_loop.proofs.session_worker.live_writer.Placing.{draws_on}
use Rattle.threads_loop.proofs.session_worker.live_writer.writer.place_all.Goals as goal

pub loop-datagrams-preserved : goal.loop-datagrams-preserved
loop-datagrams-preserved c =
    let l = c.loop-datagrams in
    let so_far = l.invariant.drawn in
    let done = so_far.0 in
    let next = c.in-Some.datagrams in
    let later = into_iter_items c.next.new.self in
    let place = c.args.place in
    let before = c.args.all.now.items in
    let items : Vec Octets → List (List ℕ) = λ (d : Vec Octets). d.items in
    let placed : Placed = record { place = l.next; datagrams = next } in
    record {
      can_next = tt;
      is_finite = tt;
      drawn = (
        done ++ next ∷ [],
        append_assoc done (next ∷ []) later ∙ (ap (λ (ds : List (Vec Octets)). done ++ ds) (sym c.in-Some.ensures.steps.0) ∙ so_far.1),
        omega (arith, so_far.2, length-append done (next ∷ [])),
        subst (λ (ps : List Placed). HasDrawn place (map items (done ++ next ∷ [])) before ps) (sym c.in_ok-push.ensures.items)
            (subst (λ (ds : List (List (List ℕ))). HasDrawn place ds before (l.all.items ++ placed ∷ [])) (sym (map-append items done (next ∷ [])))
            (draws_on place (map items done) before l.all.items placed so_far.3 (so_far.2 ∙ ap (λ (n : ℕ). place + n) (sym (length-map done items))))),
      );
    }
