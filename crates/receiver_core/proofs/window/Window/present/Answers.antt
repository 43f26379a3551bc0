-- The piece with the next number is the first that waits, if any is.
use Rattle.std.proofs.Common.{◌≡◌, ◌+◌, ◌<◌, List, ◌∷◌, length, Some, None, Option, option_map, refl, sym, ap, ◌∙◌, subst, arith}
use Rattle.rams_model.specs.Receiver.{Piece, piece, Playing, presented, past, after_presenting}
use Rattle.receiver_core.specs.declared.shown.Shown.{Shown}
use Rattle.receiver_core.specs.{pieces_of, as_shown, number_at}
use Rattle.receiver_core.proofs.Waiting.{read_at, front_other, front_at, without_front}
use Rattle.receiver_core.proofs.window.Window.present.Goals as goal

pub returns-then-branch-self-clause-shown : goal.returns-then-branch-self-clause-shown
returns-then-branch-self-clause-shown c =
    let i = c.self.inside in
    let w : Playing = record { first = i.first; next = i.next; waits = pieces_of i.waits.items; joined = i.joined } in
    let some : 0 < length i.waits.items = omega (arith, c.in_ok-front.ensures.variant.0 refl, i.waits.ok.0) in
    let here : c.in_ok-front.field-0.now.n ≡ number_at i.waits.items 0 = read_at _ i.waits.items 0 c.in_ok-front.ensures.lookup some in
    let none : presented w ≡ None = front_other i.next i.waits.items c.self.invariant some (λ same. c.if-branch-self.true (here ∙ same)) in
    subst (λ (p : Playing). None ≡ option_map as_shown (presented p)) c.self.view_is (sym (ap (option_map as_shown) none))

pub returns-then-branch-self-clause-after : goal.returns-then-branch-self-clause-after
returns-then-branch-self-clause-after c =
    let i = c.self.inside in
    let w : Playing = record { first = i.first; next = i.next; waits = pieces_of i.waits.items; joined = i.joined } in
    let some : 0 < length i.waits.items = omega (arith, c.in_ok-front.ensures.variant.0 refl, i.waits.ok.0) in
    let here : c.in_ok-front.field-0.now.n ≡ number_at i.waits.items 0 = read_at _ i.waits.items 0 c.in_ok-front.ensures.lookup some in
    let none : presented w ≡ None = front_other i.next i.waits.items c.self.invariant some (λ same. c.if-branch-self.true (here ∙ same)) in
    subst (λ (p : Playing). p ≡ after_presenting p) c.self.view_is (sym (ap (λ (o : Option Piece). past o w) none))

pub returns-clause-after : goal.returns-clause-after
returns-clause-after c =
    let i = c.self.inside in
    let w : Playing = record { first = i.first; next = i.next; waits = pieces_of i.waits.items; joined = i.joined } in
    let shown = c.in_ok-shown.shown in
    let rest = c.pop_front.new.self.items in
    let items : i.waits.items ≡ shown ∷ rest = c.in_ok-shown.ensures.items in
    let some : 0 < length i.waits.items = omega (arith, ap length items) in
    let here : c.in_ok-front.field-0.now.n ≡ number_at i.waits.items 0 = read_at _ i.waits.items 0 c.in_ok-front.ensures.lookup some in
    let next : shown.n ≡ i.next = sym (ap (λ (l : List Shown). number_at l 0) items) ∙ sym here ∙ c.if-branch-self.false in
    let there : presented w ≡ Some (piece shown.n shown.packet) = ap (λ (l : List Shown). presented (record w { waits = pieces_of l })) items ∙ front_at i.next shown rest next in
    let less : past (Some (piece shown.n shown.packet)) w ≡ record w { next = i.next + 1; waits = pieces_of rest } =
    ap (λ (l : List Shown). past (Some (piece shown.n shown.packet)) (record w { waits = pieces_of l })) items
    ∙ ap (λ (qs : List Piece). record w { next = i.next + 1; waits = qs }) (without_front i.next shown rest next) in
    subst (λ (p : Playing). record w { next = i.next + 1; waits = pieces_of rest } ≡ after_presenting p) c.self.view_is
    (sym less ∙ sym (ap (λ (o : Option Piece). past o w) there))
