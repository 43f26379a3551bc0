use Rattle.std.proofs.Common.{◌≡◌, [], List, refl, sym, ◌∙◌, ap, subst, arith}
use Rattle.rams_model.specs.declared.Held.{Held}
use Rattle.channel_cache.specs.reorder_window.{Start, came, start_after, begun, came_of}
use Rattle.channel_cache.specs.declared.intake.Intake.{Intake}
use Rattle.channel_cache.specs.{arrival_of, Grows, Holds}
use Rattle.channel_cache.proofs.Settling.{grows_then, window_grows}
use Rattle.channel_cache.proofs.Starting.{begun_keeps, begun_brings}
use Rattle.channel_cache.proofs.intake.Intake.begin_with.Goals as goal

pub returns-clause-stands : goal.returns-clause-stands
returns-clause-stands c = λ before kept stood.
    let v = c.args.self.now in
    let b = c.begin.new.self in
    let w = c.place.new.self in
    let placed = subst (λ (x : Held). (before : List Held) (t : Start Held) → Holds b before t → (c.place.result ≡ came b.window.width t x.n) × Holds w before (start_after t x.n x c.place.result))
    c.under.ensures.value c.place.ensures.stands in
    let keeps = c.place.ensures.came ∙ (ap (λ (x : Held). came_of b.window x.n) c.under.ensures.value
    ∙ (ap (λ (x : Intake). came_of x.window c.args.n) c.begin.ensures.step ∙ begun_keeps v.window c.args.n c.requires.empty)) in
    begun_brings w before kept (arrival_of c.args.incoming) c.args.n c.place.result keeps c.place.ensures.settled.going
    (placed before (record { first = c.args.n; items = [] }) (c.begin.ensures.stands before stood)).1

pub returns-clause-grows : goal.returns-clause-grows
returns-clause-grows c =
    let v = c.args.self.now in
    let opened = subst (λ (x : Intake). Grows v x 0) (sym c.begin.ensures.step) (window_grows v (begun v.window c.args.n) 0 refl (omega arith)) in
    grows_then v c.begin.new.self c.place.new.self 0 1 opened c.place.ensures.grows
