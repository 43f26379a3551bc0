use Rattle.std.proofs.Common.{◌≡◌, ℕ, ◌+◌, ◌-◌, List, take, drop, slice_range, sym, ap, ◌∙◌, arith, rules, length-take, length-drop}
use Rattle.std.proofs.lemmas.List.{with_items_is, places}
use Rattle.line_io.proofs.Windows.{slice_range-front, slice_range-grown}
use Rattle.line_io.proofs.NextLines.{Keeps-taken, Keeps-kept, on_failure}
use Rattle.converters.proofs.capture_loop.intake.Intake.refill.Goals as goal

pub returns-in_err-taken-clause-whole : goal.returns-in_err-taken-clause-whole
returns-in_err-taken-clause-whole g c =
    let r = c.self.inside in
    let moved = c.make_room-self-inside.new.bytes in
    let filled = c.take_into.new.bytes in
    let from = c.make_room-self-inside.result in
    let at = from + (r.to - r.from) in
    let written = with_items_is r.bytes filled (search (rules, places)) in
    let is : c.args.self.now ≡ slice_range moved from at = sym c.self.view_is ∙ ap (λ (t : List ℕ). slice_range t r.from r.to) (sym c.as_mut_slice-bytes.ensures.value) ∙ sym c.make_room-self-inside.ensures.same in
    Keeps-kept _ _ _ _ (ap (λ (t : List ℕ). slice_range t from at) written ∙ slice_range-front moved filled from at c.take_into.ensures.front ∙ sym is) c.in_err-taken.ensures.same

pub returns-in_err-taken-clause-unread : goal.returns-in_err-taken-clause-unread
returns-in_err-taken-clause-unread g c =
    let r = c.self.inside in
    let moved = c.make_room-self-inside.new.bytes in
    let filled = c.take_into.new.bytes in
    let from = c.make_room-self-inside.result in
    let at = from + (r.to - r.from) in
    let written = with_items_is r.bytes filled (search (rules, places)) in
    let is : c.args.self.now ≡ slice_range moved from at = sym c.self.view_is ∙ ap (λ (t : List ℕ). slice_range t r.from r.to) (sym c.as_mut_slice-bytes.ensures.value) ∙ sym c.make_room-self-inside.ensures.same in
    on_failure c.from_residual.result _ (ap (λ (t : List ℕ). slice_range t from at) written ∙ slice_range-front moved filled from at c.take_into.ensures.front ∙ sym is)

pub returns-clause-grown : goal.returns-clause-grown
returns-clause-grown g c =
    let r = c.self.inside in
    let moved = c.make_room-self-inside.new.bytes in
    let filled = c.take_into.new.bytes in
    let from = c.make_room-self-inside.result in
    let at = from + (r.to - r.from) in
    let n = c.in_ok-taken.taken in
    let written = with_items_is r.bytes filled (search (rules, places)) in
    let is : c.args.self.now ≡ slice_range moved from at = sym c.self.view_is ∙ ap (λ (t : List ℕ). slice_range t r.from r.to) (sym c.as_mut_slice-bytes.ensures.value) ∙ sym c.make_room-self-inside.ensures.same in
    record {
      more = take n (drop at filled);
      whole = ap (λ (t : List ℕ). slice_range t from (at + n)) written ∙ slice_range-grown c.args.self.now moved filled from at n (omega arith) is c.take_into.ensures.front;
      count = omega (arith, length-take n (drop at filled), length-drop at filled, c.in_ok-taken.ensures.bound);
    }

pub returns-clause-whole : goal.returns-clause-whole
returns-clause-whole g c =
    let r = c.self.inside in
    let moved = c.make_room-self-inside.new.bytes in
    let filled = c.take_into.new.bytes in
    let from = c.make_room-self-inside.result in
    let at = from + (r.to - r.from) in
    let n = c.in_ok-taken.taken in
    let written = with_items_is r.bytes filled (search (rules, places)) in
    let is : c.args.self.now ≡ slice_range moved from at = sym c.self.view_is ∙ ap (λ (t : List ℕ). slice_range t r.from r.to) (sym c.as_mut_slice-bytes.ensures.value) ∙ sym c.make_room-self-inside.ensures.same in
    Keeps-taken _ _ (take n (drop at filled)) _ _
    (ap (λ (t : List ℕ). slice_range t from (at + n)) written ∙ slice_range-grown c.args.self.now moved filled from at n (omega arith) is c.take_into.ensures.front)
    c.in_ok-taken.ensures.bytes
