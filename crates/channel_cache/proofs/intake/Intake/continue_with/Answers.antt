use Rattle.std.proofs.Common.{◌≡◌, max, List, ◌∙◌, ap, subst}
use Rattle.rams_model.specs.declared.Held.{Held}
use Rattle.channel_cache.specs.reorder_window.{start_of, Start, came, start_after}
use Rattle.channel_cache.specs.reorder_window.Seen as windows
use Rattle.channel_cache.specs.{arrival_of, Holds}
use Rattle.channel_cache.proofs.Starting.{placed_brings, greatest_after}
use Rattle.channel_cache.proofs.intake.Intake.continue_with.Goals as goal

pub returns-clause-stands : goal.returns-clause-stands
returns-clause-stands c = λ s some brings.
    let v = c.args.self.now in
    let w = c.place.new.self in
    let placed = subst (λ (x : Held). (before : List Held) (t : Start Held) → Holds v before t → (c.place.result ≡ came v.window.width t x.n) × Holds w before (start_after t x.n x c.place.result))
    c.under.ensures.value c.place.ensures.stands in
    placed_brings v w s.ended s.present s.kept (arrival_of c.args.incoming) c.args.n c.place.result c.note_of.result some c.place.ensures.settled.going c.note_of.ensures
    (placed s.ended (start_of s.present)) brings

pub returns-clause-greatest : goal.returns-clause-greatest
returns-clause-greatest c =
    let v = c.args.self.now in
    let h = c.under.result in
    let number = ap (λ (x : Held). x.n) c.under.ensures.value in
    ap (λ (x : windows.Seen Held). x.greatest) c.place.ensures.window ∙ (greatest_after v h.n h c.place.result c.requires.settled.lawful c.place.ensures.came ∙ ap (λ n. max v.window.greatest n) number)
