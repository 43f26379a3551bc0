-- What becomes of a packet with room.
use Rattle.std.proofs.Common.{◌≡◌, true, false, List, sym, ap, ◌∙◌, subst, arith}
use Rattle.rams_model.specs.declared.MediaCame.TheVariants.{Took, Twice}
use Rattle.rams_model.specs.Receiver.{Piece, Playing, has_piece, came, with_arrival}
use Rattle.receiver_core.specs.{pieces_of, Rise}
use Rattle.receiver_core.proofs.Coming.{came_twice, came_took, kept_twice, kept_took}
use Rattle.receiver_core.proofs.Waiting.{rise_from, rise_with, has_place, has_gap, with_gap}
use Rattle.receiver_core.proofs.window.Window.arrive.Goals as goal

pub place_in-requires : goal.place_in-requires
place_in-requires c = rise_from 0 c.self.inside.next c.self.inside.waits.items (omega arith) c.self.invariant

pub invariant_of-self-in-Err : goal.invariant_of-self-in-Err
invariant_of-self-in-Err c =
    let i = c.self.inside in
    subst (Rise i.next) (sym c.in_ok-put-in-Err.ensures.items)
    (rise_with i.next c.args.n c.args.packet i.waits.items c.in-Err.place c.self.invariant (omega (arith, c.if-n-self.false)) c.in-Err.ensures)

pub returns-in-Ok-clause-came : goal.returns-in-Ok-clause-came
returns-in-Ok-clause-came c =
    let n = c.args.n in
    let i = c.self.inside in
    let w : Playing = record { first = i.first; next = i.next; waits = pieces_of i.waits.items; joined = i.joined } in
    let has : has_piece n (pieces_of i.waits.items) ≡ true = has_place n i.waits.items c.in-Ok.field-0 c.in-Ok.ensures in
    subst (λ (p : Playing). Twice ≡ came p n) c.self.view_is (sym (came_twice w n (omega arith) (omega arith) has))

pub returns-in-Ok-clause-after : goal.returns-in-Ok-clause-after
returns-in-Ok-clause-after c = sym (kept_twice c.args.self.now c.args.n c.args.packet (sym (returns-in-Ok-clause-came c)))

pub returns-in_ok-put-in-Err-clause-came : goal.returns-in_ok-put-in-Err-clause-came
returns-in_ok-put-in-Err-clause-came c =
    let n = c.args.n in
    let i = c.self.inside in
    let w : Playing = record { first = i.first; next = i.next; waits = pieces_of i.waits.items; joined = i.joined } in
    let has : has_piece n (pieces_of i.waits.items) ≡ false = has_gap n i.waits.items c.in-Err.place c.in-Err.ensures in
    subst (λ (p : Playing). Took ≡ came p n) c.self.view_is (sym (came_took w n (omega arith) (omega arith) has))

pub returns-in_ok-put-in-Err-clause-after : goal.returns-in_ok-put-in-Err-clause-after
returns-in_ok-put-in-Err-clause-after c =
    let n = c.args.n in
    let packet = c.args.packet in
    let i = c.self.inside in
    let w : Playing = record { first = i.first; next = i.next; waits = pieces_of i.waits.items; joined = i.joined } in
    let has : has_piece n (pieces_of i.waits.items) ≡ false = has_gap n i.waits.items c.in-Err.place c.in-Err.ensures in
    let took = came_took w n (omega arith) (omega arith) has in
    let put = with_gap n packet i.waits.items c.in-Err.place c.in-Err.ensures ∙ ap pieces_of (sym c.in_ok-put-in-Err.ensures.items) in
    subst (λ (p : Playing). record w { waits = pieces_of c.put.new.waits.items } ≡ with_arrival n packet p) c.self.view_is
    (sym (kept_took w n packet took ∙ ap (λ (qs : List Piece). record w { waits = qs }) put))
