use Rattle.std.proofs.Common.{◌≡◌, ℕ, ◌-◌, List, length, take, slice_range, ap, ◌∙◌, arith, rules}
use Rattle.std.proofs.lemmas.List.{with_items_is, places}
use Rattle.converters.proofs.capture_loop.intake.Intake.new.Goals as goal

pub returns : goal.returns
returns c =
    let filled = c.copy_front.new.to in
    let n = length c.args.bytes.now in
    let written = with_items_is c.in_ok-room.room filled (search (rules, places)) in
    let all : n - 0 ≡ n = omega arith in
    ap (λ (t : List ℕ). slice_range t 0 n) written ∙ (ap (λ k. take k filled) all ∙ c.copy_front.ensures)
