use Rattle.std.proofs.Common.{◌≡◌, ◌+◌, not, Bool, List, [], ◌++◌, length, drop, length-append, append_assoc, append-nil, ap, sym, ◌∙◌, subst, arith}
use Rattle.std.proofs.lemmas.List.Elements.{filter-append}
use Rattle.rams_model.specs.Service.{Wanted}
use Rattle.repair_queue.specs.{all_of, is_of, without, AreOnce, Owes}
use Rattle.repair_queue.proofs.Pending.{filter-filter-le}
use Rattle.repair_queue.proofs.Pieces.{all_from, all_none, at_end, middle, once_less}
use Rattle.repair_queue.proofs.index.Index.drop_client.Goals as goal

pub loop-piece-preserved : goal.loop-piece-preserved
loop-piece-preserved c =
    let client = c.args.client in
    let f : Wanted → Bool = λ w. not (is_of client w) in
    let ps = c.parts.result.0.now in
    let last = c.parts.result.1.now in
    let i = c.loop-piece.piece-index in
    let front = c.loop-piece.invariant.0 in
    let inv = c.loop-piece.invariant.1 in
    let p = c.pending.result.now in
    let rest = all_of (drop (i + 1) ps) in
    let from : all_of (drop i ps) ≡ p ++ rest = all_from ps i c.piece-item.result c.loop-piece-test.true c.piece-item.is ∙ ap (λ (l : List Wanted). l ++ rest) (sym c.pending.ensures) in
    let is : front ++ all_of (drop i ps) ++ last ≡ front ++ p ++ (rest ++ last) = ap (λ (l : List Wanted). front ++ l ++ last) from ∙ middle front p rest last in
    let once = subst AreOnce is inv.once in
    let join = sym (append_assoc (front ++ without client p) rest last) in
    let made = c.drop_client_of-run.ensures.removed front (rest ++ last) once (subst (λ (l : List Wanted). Owes c.loop-piece.self l c.loop-piece.run) is inv.owes) in (
      front ++ without client p,
      record {
        owes = subst (λ (l : List Wanted). Owes c.drop_client_of-run.new.self l c.drop_client_of-run.result) join
            (subst (λ k. Owes c.drop_client_of-run.new.self (front ++ without k p ++ (rest ++ last)) c.drop_client_of-run.result) inv.client made);
        gone = inv.gone
            ∙ (ap (λ (l : List Wanted). front ++ without client l) (ap (λ (l : List Wanted). l ++ last) from ∙ append_assoc p rest last)
            ∙ (ap (λ (l : List Wanted). front ++ l) (filter-append f p (rest ++ last)) ∙ sym (append_assoc front (without client p) (without client (rest ++ last)))));
        once = subst AreOnce join (once_less front (without client p) p (rest ++ last) (λ g. filter-filter-le g f p) once);
        client = c.drop_client_of-run.ensures.client ∙ inv.client;
        few = omega (arith, inv.few, c.drop_client_of-run.ensures.len, length-append p rest, ap length from, length-append (all_of (drop i ps)) last, length-append rest last);
      },
    )

pub returns : goal.returns
returns c =
    let client = c.args.client in
    let ps = c.parts.result.0.now in
    let last = c.parts.result.1.now in
    let i = c.loop-piece.piece-index in
    let front = c.loop-piece.invariant.0 in
    let inv = c.loop-piece.invariant.1 in
    let none = all_none ps i (omega arith) in
    let is = at_end front (all_of (drop i ps)) last none in
    let made = c.drop_client_of-run-2.ensures.removed front [] (subst AreOnce is inv.once) (subst (λ (l : List Wanted). Owes c.loop-piece.self l c.loop-piece.run) is inv.owes) in
    let owes = subst (λ k. Owes c.drop_client_of-run-2.new.self (front ++ without k last ++ []) c.drop_client_of-run-2.result) inv.client made in
    let all : front ++ without client last ++ [] ≡ without client c.args.pending.now =
    append-nil (front ++ without client last) ∙ (ap (λ (l : List Wanted). front ++ without client (l ++ last)) (sym none) ∙ sym inv.gone) in
    let owes_all = subst (λ (l : List Wanted). Owes c.drop_client_of-run-2.new.self l c.drop_client_of-run-2.result) all owes in
    record {
      pairs = owes_all.pairs;
      counts = λ whole k. omega (arith, owes_all.counts whole k, c.take.ensures k);
    }
