-- The last that waits has the last number.
use Rattle.std.proofs.Common.{◌≡◌, ◌-◌, ◌<◌, true, false, length, refl, sym, ◌∙◌, subst, arith, slice_index_or}
use Rattle.rams_model.specs.Receiver.{Playing, last_number}
use Rattle.receiver_core.specs.{number_at}
use Rattle.receiver_core.proofs.Waiting.{read_at, last_of, no_last}
use Rattle.receiver_core.proofs.window.Window.last.Goals as goal

pub returns-in-Some : goal.returns-in-Some
returns-in-Some c =
    let next = c.self.inside.next in
    let waits = c.self.inside.waits in
    let last = c.in-Some.last.now in
    let some : 0 < length waits.items = omega (arith, c.in-Some.ensures.variant.0 refl, waits.ok.0) in
    let here : last.n ≡ number_at waits.items (length waits.items - 1) =
    read_at last waits.items (length waits.items - 1) (subst (λ k. last ≡ slice_index_or waits.items (k - 1) last) waits.ok.0 c.in-Some.ensures.lookup) (omega (arith, some)) in
    subst (λ (p : Playing). last.n ≡ last_number p.next p.waits) c.self.view_is (here ∙ sym (last_of next waits.items some))

pub returns-in-None : goal.returns-in-None
returns-in-None c =
    let next = c.self.inside.next in
    let waits = c.self.inside.waits in
    subst (λ (p : Playing). next ≡ last_number p.next p.waits) c.self.view_is
    (sym (no_last next waits.items (λ some. let no : false ≡ true = c.in-None.ensures.variant.1 (omega (arith, some, waits.ok.0)) in cc)))
