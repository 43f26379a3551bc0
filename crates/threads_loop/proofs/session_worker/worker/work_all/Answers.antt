-- Each worker has the pass of its list, and takes the list's events.
use Rattle.std.proofs.Common.{◌≡◌, ◌∙◌, ℕ, ◌^◌, ◌<◌, ◌≤◌, List, [], ap, sym, subst, map, get_or, length, arith}
use Rattle.std.proofs.Crossing.{crosses}
use denote.Param.Send.{sendable}
use Rattle.std.proofs.lemmas.List.{length-map, get_or-map}
use Rattle.rams_model.specs.declared.Event.{Event}
use Rattle.threads_loop.specs.declared.session_worker.worker.Worker.{Worker}
use Rattle.threads_loop.specs.session_worker.{HasWorked, events_of}
use Rattle.threads_loop.proofs.session_worker.Passes.{ready_at}
use Rattle.threads_loop.proofs.session_worker.worker.work_all.Goals as goal

pub for_each_mut-requires-clause-accepts : goal.for_each_mut-requires-clause-accepts
for_each_mut-requires-clause-accepts g c κs within = λ i p inside is.
    let staff = c.args.staff.now in
    let pass = ap (λ (w : Worker). w.pass) is ∙ ready_at c.args.lock.now.lock c.args.config.now i staff p.now c.requires.ready inside in
    let events = get_or-map events_of staff i p.now [] inside ∙ ap events_of (sym is) in
    let short = subst (λ (es : List Event). length es ≤ 2 ^ 34) events (c.requires.short i [] (omega (arith, inside, length-map staff events_of))) in
    ((pass, omega (arith, inside, c.requires.lists.1), short, c.requires.workers), (search (sendable, crosses) depth 40, search (sendable, crosses) depth 40))

pub returns : goal.returns
returns g c =
    let lock = c.args.lock.now.lock in
    let s = c.args.config.now in
    let old = c.args.staff.now in
    let count = length-map old events_of in (
      omega (arith, count, c.for_each_mut.auto.s),
      λ list w inside.
          let lt : list < length old = omega (arith, inside, count) in
          let at = (c.for_each_mut.ensures list w lt).1 in
          let events : events_of at.argument.now ≡ get_or (map events_of old) list [] = ap events_of at.argument_is ∙ sym (get_or-map events_of old list w [] lt) in
          subst (λ (x : Worker). HasWorked lock s list (get_or (map events_of old) list []) x) at.left (subst (λ (es : List Event). HasWorked lock s list es at.after_call.now) events at.call),
    )
