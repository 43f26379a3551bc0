use Rattle.std.proofs.Common.{◌≡◌, rules, sym, ◌∙◌, ap, arith}
use denote.Enum.Bare.{same_true}
use Rattle.channel_cache.specs.contracts.reorder_window.window.Came.{the_type}
use Rattle.channel_cache.specs.declared.reorder_window.window.Came.TheVariants.{Kept}
use Rattle.rams_model.specs.declared.Held.{Held}
use Rattle.channel_cache.specs.reorder_window.{released, arrived}
use Rattle.channel_cache.specs.reorder_window.Seen as windows
use Rattle.channel_cache.proofs.Settling.{grows_then, window_grows}
use Rattle.channel_cache.proofs.Placing.{kept_intake, kept_more}
use Rattle.channel_cache.proofs.intake.Intake.place.Goals as goal

pub drain-requires-clause-intake : goal.drain-requires-clause-intake
drain-requires-clause-intake c =
    let v = c.args.self.now in
    let h = c.args.held in
    let kept : c.arrive-came.result ≡ Kept = same_true the_type (search rules) _ _ (sym c.if-eq.ensures) in
    kept_intake v c.arrive-came.new.self h c.requires.settled.lawful c.requires.settled.going c.requires.small c.requires.whole (sym c.arrive-came.ensures.came ∙ kept)
    (c.arrive-came.ensures.step ∙ ap (arrived v.window h.n h) kept)

pub drain-requires-clause-few : goal.drain-requires-clause-few
drain-requires-clause-few c =
    let v = c.args.self.now in
    let h = c.args.held in
    let kept : c.arrive-came.result ≡ Kept = same_true the_type (search rules) _ _ (sym c.if-eq.ensures) in
    omega (arith, c.requires.few, kept_more v.window c.arrive-came.new.self h (c.arrive-came.ensures.step ∙ ap (arrived v.window h.n h) kept))

pub returns-then-eq-clause-grows : goal.returns-then-eq-clause-grows
returns-then-eq-clause-grows c =
    let v = c.args.self.now in
    let w = c.arrive-came.new.self in
    let h = c.args.held in
    let kept : c.arrive-came.result ≡ Kept = same_true the_type (search rules) _ _ (sym c.if-eq.ensures) in
    let step = c.arrive-came.ensures.step ∙ ap (arrived v.window h.n h) kept in
    let arrived_one = window_grows v w 1 (ap (λ (x : windows.Seen Held). x.width) step) (omega (arith, kept_more v.window w h step)) in
    grows_then v (record v { window = w }) c.drain.new.self 1 0 arrived_one c.drain.ensures.grows

pub returns-then-eq-clause-settled : goal.returns-then-eq-clause-settled
returns-then-eq-clause-settled c =
    let h = c.args.held in
    let kept : c.arrive-came.result ≡ Kept = same_true the_type (search rules) _ _ (sym c.if-eq.ensures) in
    let ended = ap (λ (x : windows.Seen Held). x.ended) (c.arrive-came.ensures.step ∙ ap (arrived c.args.self.now.window h.n h) kept) in
    record { lawful = c.drain.ensures.intake; settled = c.drain.ensures.settled; going = ap (λ (x : windows.Seen Held). x.ended) c.drain.ensures.window ∙ (ended ∙ c.requires.settled.going) }

pub returns-then-eq-clause-stands : goal.returns-then-eq-clause-stands
returns-then-eq-clause-stands c = λ before s held.
    let v = c.args.self.now.window in
    let out = released v.width v.ended s in
    let stood = c.arrive-came.ensures.stands s out held.waits in
    (stood.0, c.drain.ensures.stands before _ out stood.1 held.holds)
