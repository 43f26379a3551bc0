use Rattle.std.proofs.Common.{List, ◌++◌, length, take, ap, sym, ◌∙◌, arith}
use Rattle.std.proofs.lemmas.List.{take-append-drop, length-take-le}
use Rattle.rams_model.specs.Service.{Wanted}
use Rattle.repair_queue.proofs.tail.Tail.take_piece.Goals as goal

pub slice_bounds-copy_of-end : goal.slice_bounds-copy_of-end
slice_bounds-copy_of-end c = sym (length-take-le 64 c.as_slice.result.now (omega (arith, ap length c.as_slice.ensures, c.requires)))

pub returns-clause-taken : goal.returns-clause-taken
returns-clause-taken c =
    let self = c.args.self.now in
    ap (λ (l : List Wanted). l ++ c.drop_front.new.self) (c.of.ensures ∙ (c.in_ok-wanted.ensures ∙ ap (take 64) c.as_slice.ensures)) ∙ (ap (λ (l : List Wanted). take 64 self ++ l) c.drop_front.ensures ∙ take-append-drop 64 self)

pub returns-clause-long : goal.returns-clause-long
returns-clause-long c =
    ap length (c.of.ensures ∙ c.in_ok-wanted.ensures) ∙ length-take-le 64 c.as_slice.result.now (omega (arith, ap length c.as_slice.ensures, c.requires))
