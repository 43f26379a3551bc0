use Rattle.std.proofs.Common.{◌≡◌, List, Bool, [], ◌++◌, ◌≤◌, length, take, filter, length-append, append-nil, ap, sym, ◌∙◌, subst, arith}
use Rattle.std.proofs.lemmas.List.{take-append-drop, length-take-le}
use Rattle.rams_model.specs.Service.{Wanted}
use Rattle.repair_queue.specs.{all_of, unmarked, AreOnce, Indexes, Owes}
use Rattle.repair_queue.proofs.Pending.{filter-unmarked-le, length-unmarked-le}
use Rattle.repair_queue.proofs.Pieces.{once_less, unmarked_split}
use Rattle.repair_queue.proofs.backlog.Backlog.drop_marked.Goals as goal

pub drop_of_pieces-run-requires-clause-few : goal.drop_of_pieces-run-requires-clause-few
drop_of_pieces-run-requires-clause-few c =
    omega (arith, length-append (all_of c.self.inside.pieces.items) c.self.inside.last, ap length c.self.view_is, c.requires.few)

pub drop_of_pieces-run-requires-clause-one_each : goal.drop_of_pieces-run-requires-clause-one_each
drop_of_pieces-run-requires-clause-one_each c =
    let all = all_of c.self.inside.pieces.items in
    let n = c.self.inside.in_pieces in
    let done = c.args.done.now in
    let some : n ≤ length done = omega (arith, c.self.invariant, c.requires.one_each, length-append all c.self.inside.last, ap length c.self.view_is) in
    ap length c.split_at.ensures.front ∙ (length-take-le n done some ∙ c.self.invariant)

pub count_of_pieces-self-inside-requires : goal.count_of_pieces-self-inside-requires
count_of_pieces-self-inside-requires c =
    let all = all_of c.self.inside.pieces.items in
    omega (
      arith,
      ap (λ (ps : List (List Wanted)). length (all_of ps)) c.deref.ensures.value,
      ap length c.drop_of_pieces-run.ensures.pieces,
      length-unmarked-le all c.split_at.result.0.now,
      length-append all c.self.inside.last,
      ap length c.self.view_is,
      c.requires.few,
    )

pub drop_of-run-requires-clause-few : goal.drop_of-run-requires-clause-few
drop_of-run-requires-clause-few c =
    let all = all_of c.self.inside.pieces.items in
    omega (arith, c.drop_of_pieces-run.ensures.len, ap length c.as_slice.ensures, length-append all c.self.inside.last, ap length c.self.view_is, c.requires.few)

pub returns-clause-pending : goal.returns-clause-pending
returns-clause-pending c =
    let all = all_of c.self.inside.pieces.items in
    let last = c.self.inside.last in
    let done = c.args.done.now in
    let n = c.self.inside.in_pieces in
    let f = c.split_at.result.0.now in
    let g = c.split_at.result.1.now in
    let split : f ++ g ≡ done = ap (λ (l : List Bool). l ++ g) c.split_at.ensures.front ∙ (ap (λ (l : List Bool). take n done ++ l) c.split_at.ensures.back ∙ take-append-drop n done) in
    let some : n ≤ length done = omega (arith, c.self.invariant, c.requires.one_each, length-append all last, ap length c.self.view_is) in
    let same : length f ≡ length all = ap length c.split_at.ensures.front ∙ (length-take-le n done some ∙ c.self.invariant) in
    ap (λ (l : List Wanted). l ++ c.drop_marked.new.self) c.drop_of_pieces-run.ensures.pieces
    ∙ (ap (λ (l : List Wanted). unmarked all f ++ l) c.drop_marked.ensures
    ∙ (sym (unmarked_split all last f g same) ∙ (ap (unmarked (all ++ last)) split ∙ ap (λ (l : List Wanted). unmarked l done) c.self.view_is)))

pub returns-clause-indexed : goal.returns-clause-indexed
returns-clause-indexed c =
    let all = all_of c.self.inside.pieces.items in
    let left = all_of c.drop_of_pieces-run.new.pieces.items in
    let last = c.self.inside.last in
    let f = c.split_at.result.0.now in
    let g = c.split_at.result.1.now in
    let made = c.drop_of_pieces-run.ensures in
    let before = sym c.self.view_is in
    let once : AreOnce (all ++ last) = subst AreOnce before c.requires.once in
    let owes : Owes c.drop_of_pieces-run.new.index (left ++ last) c.drop_of_pieces-run.result = made.removed last once (subst (Indexes c.args.index.now) before c.requires.indexed) in
    let less = λ (p : Wanted → Bool). subst (λ (l : List Wanted). length (filter p l) ≤ length (filter p all)) (sym made.pieces) (filter-unmarked-le p all f) in
    let is : left ++ last ≡ left ++ c.as_slice.result.now ++ [] = ap (λ (l : List Wanted). left ++ l) (sym c.as_slice.ensures) ∙ sym (append-nil (left ++ c.as_slice.result.now)) in
    let gone = c.drop_of-run.ensures.removed left [] (subst AreOnce is (once_less [] left all last less once)) (subst (λ (l : List Wanted). Owes c.drop_of_pieces-run.new.index l c.drop_of_pieces-run.result) is owes) in
    let end : left ++ unmarked c.as_slice.result.now g ++ [] ≡ left ++ c.drop_marked.new.self =
    append-nil (left ++ unmarked c.as_slice.result.now g) ∙ ap (λ (l : List Wanted). left ++ l) (ap (λ (l : List Wanted). unmarked l g) c.as_slice.ensures ∙ sym c.drop_marked.ensures) in
    c.end_run.ensures _ (subst (λ (l : List Wanted). Owes c.drop_of-run.new.self l c.drop_of-run.result) end gone)
