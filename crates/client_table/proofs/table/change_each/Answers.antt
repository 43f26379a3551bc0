use Rattle.std.proofs.Common.{◌≡◌, ◌+◌, ℕ, ◌∷◌, drop, get_or, IsSomeAnd, Some, ap, sym, ◌∙◌}
use Rattle.std.specs.Option.{option_map}
use Rattle.std.proofs.lemmas.List.{drop_more, drop_all}
use Rattle.client_table.specs.declared.entry.Entry.{Entry}
use Rattle.client_table.specs.{shown, slot_at, entry_at, IsBurstChanged}
use Rattle.client_table.proofs.Changed.{put_elsewhere, put_others, put_here}
use Rattle.client_table.proofs.Changing.{ready_some, ready_left, changed_turn, changed_end, free_left, free_first}
use Rattle.client_table.proofs.InTime.{times_written}
use Rattle.client_table.proofs.Opened.{burst_made}
use Rattle.client_table.proofs.table.change_each.Given.{F-pre, F-post}
use Rattle.client_table.proofs.table.change_each.Goals as goal

pub loop-key-preserved : goal.loop-key-preserved
loop-key-preserved g c =
    let tick = c.args.tick in
    let bs = c.args.bursts.now in
    let i = c.loop-key.key-index in
    let e : ℕ × ℕ = get_or bs i (0, 0) in
    let slots = c.loop-key.entries.slots in
    let news = c.put.new.entries.slots in
    let at = entry_at tick slots in
    let split : drop i bs ≡ e ∷ drop (i + 1) bs = drop_more bs i (0, 0) c.loop-key-test.true in
    let was : slot_at slots e.1 ≡ Some c.in-Some.stored = sym c.in-Some.ensures in
    let x : Entry = c.entry-entry.result in
    let is : at e.1 ≡ Some x = ap (option_map (shown tick)) was ∙ ap Some (sym c.entry-entry.ensures) in
    let y : Entry = record x { burst = Some c.change.result } in
    let elsewhere = put_elsewhere tick slots news e.1 c.new.result c.put.ensures in
    let here = put_here tick slots news e.1 c.new.result c.put.ensures y (ready_some at e.1 x is) c.new.ensures.entry in
    let called = burst_made (F-post g c.args.change) x.burst x c.in-Some-burst.burst c.change.result c.in-Some-burst.is c.change.ensures in
    record {
      ready = ready_left (λ _ d. IsSomeAnd d.burst (F-pre g c.args.change)) at (entry_at tick news) e.0 e.1 (drop i bs) (drop (i + 1) bs) elsewhere c.loop-key.invariant.ready split;
      changed = changed_turn (λ _. IsBurstChanged (F-post g c.args.change)) (λ _ d. IsSomeAnd d.burst (F-pre g c.args.change)) (entry_at tick c.args.entries.now.slots) at (entry_at tick news) e.0 e.1 x y
          bs (drop i bs) (drop (i + 1) bs) c.loop-key.invariant.ready split elsewhere is here called c.loop-key.invariant.changed;
      others = λ key free. put_others tick slots news e.1 c.new.result c.put.ensures key (free_first key e (drop i bs) (drop (i + 1) bs) split (free_left key i bs free)) ∙ c.loop-key.invariant.others key free;
      times = λ key. times_written tick slots news e.1 c.in-Some.stored c.new.result was c.put.ensures c.new.ensures.due (ap (λ (d : Entry). d.idle) c.new.ensures.entry ∙ ap (λ (d : Entry). d.idle) c.entry-entry.ensures) key ∙ c.loop-key.invariant.times key;
    }

pub returns-clause-changed : goal.returns-clause-changed
returns-clause-changed g c =
    changed_end (λ _. IsBurstChanged (F-post g c.args.change)) (entry_at c.args.tick c.args.entries.now.slots) (entry_at c.args.tick c.loop-key.entries.slots) c.args.bursts.now (drop c.loop-key.key-index c.args.bursts.now)
    (drop_all c.loop-key.key-index c.args.bursts.now c.loop-key-test.false) c.loop-key.invariant.changed
