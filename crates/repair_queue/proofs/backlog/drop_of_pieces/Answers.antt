use Rattle.std.proofs.Common.{◌≡◌, ◌<◌, ◌≤◌, ◌+◌, ◌++◌, get_or, List, Bool, length, take, take_all, drop, filter, set, length-set, length-append, append_assoc, append-nil, refl, ap, sym, ◌∙◌, subst, arith}
use Rattle.std.proofs.lemmas.List.{take-append-drop, length-take-le}
use Rattle.rams_model.specs.Service.{Wanted}
use Rattle.repair_queue.specs.{all_of, AreOnce, Owes}
use Rattle.repair_queue.proofs.Pending.{filter-unmarked-le}
use Rattle.repair_queue.proofs.Pieces.{all_from, all_none, same_in, others_stay, placed, marked_placed, middle, once_less, owes_none}
use Rattle.repair_queue.proofs.backlog.drop_of_pieces.Goals as goal

pub loop-i-init : goal.loop-i-init
loop-i-init c = record {
  long = refl;
  others = refl;
  gone = refl;
  flags = c.requires.one_each;
  removed = λ back once indexed. (once, owes_none _ _ _ c.new-run.ensures indexed);
  few = omega (arith, c.new-run.ensures);
}

pub drop_of_piece-run-requires-clause-few : goal.drop_of_piece-run-requires-clause-few
drop_of_piece-run-requires-clause-few c =
    let old = c.args.pieces.now.items in
    let i = c.loop-i.i in
    let inv = c.loop-i.invariant in
    let lt : i < length old = omega (arith, inv.long, c.loop-i-test.true, c.loop-i.auto) in
    let p = c.index_mut-piece.result.now in
    let from : all_of (drop i old) ≡ p ++ all_of (drop (i + 1) old) = all_from old i p lt (same_in old c.loop-i.pieces.items i p lt inv.others c.index_mut-piece.ensures.value) in
    omega (arith, inv.few, ap length from, length-append p (all_of (drop (i + 1) old)), c.requires.few)

pub loop-i-preserved : goal.loop-i-preserved
loop-i-preserved c =
    let old = c.args.pieces.now.items in
    let now = c.loop-i.pieces.items in
    let i = c.loop-i.i in
    let x = c.drop_of_piece-run.new.piece in
    let inv = c.loop-i.invariant in
    let made = c.drop_of_piece-run.ensures in
    let lt : i < length old = omega (arith, inv.long, c.loop-i-test.true, c.loop-i.auto) in
    let p = c.index_mut-piece.result.now in
    let left = c.loop-i.left.now in
    let flags = c.split_at.result.0.now in
    let later = c.split_at.result.1.now in
    let n = length c.pending.result.now in
    let is : p ≡ get_or now i p = c.index_mut-piece.ensures.value in
    let rest = all_of (drop (i + 1) old) in
    let from : all_of (drop i old) ≡ p ++ rest = all_from old i p lt (same_in old now i p lt inv.others is) in
    let some : n ≤ length left = omega (arith, inv.flags, ap length c.pending.ensures, ap length from, length-append p rest) in
    let split : left ≡ flags ++ later =
    sym (take-append-drop n left) ∙ (ap (λ (l : List Bool). l ++ drop n left) (sym c.split_at.ensures.front) ∙ ap (λ (l : List Bool). flags ++ l) (sym c.split_at.ensures.back)) in
    let same : length flags ≡ length p = ap length c.split_at.ensures.front ∙ (length-take-le n left some ∙ ap length c.pending.ensures) in
    let front = all_of (take i now) in
    record {
      long = length-set now i x ∙ inv.long;
      others = others_stay old now i x inv.others;
      gone = marked_placed old now i p x left flags later _ lt inv.long inv.others is made.piece split same inv.gone;
      flags = omega (arith, inv.flags, ap length split, length-append flags later, same, ap length from, length-append p rest);
      removed = λ back once indexed.
          let was = inv.removed back once indexed in
          let here : front ++ all_of (drop i old) ++ back ≡ front ++ p ++ (rest ++ back) = ap (λ (l : List Wanted). front ++ l ++ back) from ∙ middle front p rest back in
          let once_here = subst AreOnce here was.0 in
          let owes = made.removed front (rest ++ back) once_here (subst (λ (l : List Wanted). Owes c.loop-i.index l c.loop-i.run) here was.1) in
          let join : front ++ x ++ (rest ++ back) ≡ all_of (take (i + 1) (set now i x)) ++ rest ++ back =
          sym (append_assoc (front ++ x) rest back) ∙ ap (λ (l : List Wanted). l ++ rest ++ back) (sym (placed now i x (omega (arith, inv.long, lt)))) in
          let less = λ (f : Wanted → Bool). subst (λ (l : List Wanted). length (filter f l) ≤ length (filter f p)) (sym made.piece) (filter-unmarked-le f p flags) in
          (subst AreOnce join (once_less front x p (rest ++ back) less once_here), subst (λ (l : List Wanted). Owes c.drop_of_piece-run.new.index l c.drop_of_piece-run.result) join owes);
      few = omega (arith, inv.few, made.len, ap length from, length-append p rest);
    }

pub returns-clause-removed : goal.returns-clause-removed
returns-clause-removed c = λ back once indexed.
    let old = c.args.pieces.now.items in
    let now = c.loop-i.pieces.items in
    let i = c.loop-i.i in
    let inv = c.loop-i.invariant in
    let end : length old ≤ i = omega (arith, inv.long, c.loop-i-test.false, c.loop-i.auto) in
    let all : take i now ≡ now = take_all i now (omega (arith, end, inv.long)) in
    let is : all_of (take i now) ++ all_of (drop i old) ++ back ≡ all_of now ++ back =
    ap (λ (l : List Wanted). all_of (take i now) ++ l ++ back) (all_none old i end) ∙ (ap (λ (l : List Wanted). l ++ back) (append-nil (all_of (take i now))) ∙ ap (λ (ps : List (List Wanted)). all_of ps ++ back) all) in
    subst (λ (l : List Wanted). Owes c.loop-i.index l c.loop-i.run) is (inv.removed back once indexed).1
