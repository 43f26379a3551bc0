use Rattle.std.proofs.Common.{◌+◌, ◌++◌, length, drop, length-append, refl, ap, sym, ◌∙◌, arith, subst}
use Rattle.std.proofs.lemmas.Result.{IfOk-weaker}
use Rattle.repair_queue.specs.{all_of}
use Rattle.repair_queue.proofs.Pieces.{all_from}
use Rattle.tick_core.specs.{with_waiting, with_all_wanted, IsSpent}
use Rattle.tick_core.proofs.Piecewise.{none_wait, piece_waits, piece_turn, pieces_end, all_spent}
use Rattle.tick_core.proofs.repairs.Repairs.pass_rest.Goals as goal

pub loop-piece-init : goal.loop-piece-init
loop-piece-init c = record {
  so_far = ap (with_all_wanted c.args.holding.now (all_of c.args.pieces.now ++ c.args.last.now)) (none_wait c.args.self.now);
  spent = c.requires.spent;
  few = omega (arith, c.requires.few);
}

pub overflow_add-waiting : goal.overflow_add-waiting
overflow_add-waiting c =
    let ps = c.args.pieces.now in
    let i = c.loop-piece.piece-index in
    let p = c.piece-item.result in
    let last = c.args.last.now in
    let from = all_from ps i p c.loop-piece-test.true c.piece-item.is in
    omega (arith, c.loop-piece.invariant.few, ap length from, length-append p (all_of (drop (i + 1) ps)), length-append (all_of (drop i ps)) last, ap length c.pending-pending.ensures)

pub loop-piece-preserved-then-has_all : goal.loop-piece-preserved-then-has_all
loop-piece-preserved-then-has_all c =
    let held = c.args.holding.now in
    let ps = c.args.pieces.now in
    let i = c.loop-piece.piece-index in
    let p = c.piece-item.result in
    let last = c.args.last.now in
    let rest = all_of (drop (i + 1) ps) in
    let from = all_from ps i p c.loop-piece-test.true c.piece-item.is in
    record {
      so_far = piece_waits held ps i c.loop-piece.waiting (length c.pending-pending.result.now) _ p last c.loop-piece.self _ c.loop-piece-test.true c.piece-item.is (ap length c.pending-pending.ensures) refl
          (c.has_all.ensures c.if-has_all.true) c.loop-piece.invariant.spent c.loop-piece.invariant.so_far;
      spent = c.loop-piece.invariant.spent;
      few = omega (arith, c.loop-piece.invariant.few, ap length from, length-append p rest, length-append (all_of (drop i ps)) last, length-append rest last, ap length c.pending-pending.ensures);
    }

pub loop-piece-preserved : goal.loop-piece-preserved
loop-piece-preserved c =
    let held = c.args.holding.now in
    let ps = c.args.pieces.now in
    let i = c.loop-piece.piece-index in
    let p = c.piece-item.result in
    let shown = c.pending-pending.result.now in
    let last = c.args.last.now in
    let rest = all_of (drop (i + 1) ps) in
    let from = all_from ps i p c.loop-piece-test.true c.piece-item.is in
    let before = with_waiting c.loop-piece.waiting c.loop-piece.self in
    let after = with_waiting c.in_ok-waiting.waiting c.pass_over.new.self in
    let passed = c.in_ok-waiting.ensures.passed in
    record {
      so_far = piece_turn held ps i p shown last before after _ c.loop-piece-test.true c.piece-item.is c.pending-pending.ensures passed c.loop-piece.invariant.so_far;
      spent = subst (IsSpent held) (sym passed) (all_spent held shown before c.loop-piece.invariant.spent);
      few = omega (
        arith,
        c.loop-piece.invariant.few,
        c.in_ok-waiting.ensures.few,
        ap length from,
        ap length c.pending-pending.ensures,
        length-append p rest,
        length-append (all_of (drop i ps)) last,
        length-append rest last,
      );
    }

pub returns : goal.returns
returns c =
    let held = c.args.holding.now in
    let last = c.args.last.now in
    IfOk-weaker c.wait_all.result _ _
    (λ x made. pieces_end held c.args.pieces.now c.loop-piece.piece-index last (with_waiting c.loop-piece.waiting c.loop-piece.self) c.wait_all.new.self _ (omega arith)
    (made ∙ c.in_ok-waiting-2.ensures.passed) c.loop-piece.invariant.so_far)
    c.wait_all.ensures
