use Rattle.std.proofs.Common.{◌≡◌, true, false, ◌||◌, Bool, refl, append_assoc, ◌+◌, List, ◌++◌, take, drop, sym, ap, ◌∙◌}
use Rattle.std.specs.List.{list_any}
use Rattle.rams_model.specs.Service.{Wanted, is_wanted}
use Rattle.repair_queue.specs.{all_of}
use Rattle.repair_queue.proofs.Pieces.{all_more, all_from, all_split, any_append}
use Rattle.repair_queue.proofs.index.is_pending.Goals as goal

pub loop-piece-preserved : goal.loop-piece-preserved
loop-piece-preserved c =
    let f = is_wanted c.args.client c.args.n in
    let ps = c.parts.result.0.now in
    let i = c.loop-piece.piece-index in
    let p = c.piece-item.result in
    let not_here : list_any f p ≡ false = ap (list_any f) (sym c.pending.ensures) ∙ (sym c.is_among.ensures ∙ c.if-is_among.false) in
    ap (list_any f) (all_more ps i p c.loop-piece-test.true c.piece-item.is) ∙ (any_append f (all_of (take i ps)) p
    ∙ (ap (λ b. b || list_any f p) c.loop-piece.invariant ∙ not_here))

among : (a b d : Bool) → a ≡ false → b ≡ true → true ≡ (a || (b || d))
among true true d none some = cc
among true false d none some = cc
among false true d none some = refl
among false false d none some = cc

pub returns-then-is_among : goal.returns-then-is_among
returns-then-is_among c =
    let f = is_wanted c.args.client c.args.n in
    let ps = c.parts.result.0.now in
    let last = c.parts.result.1.now in
    let i = c.loop-piece.piece-index in
    let p = c.piece-item.result in
    let rest = all_of (drop (i + 1) ps) ++ last in
    let here : list_any f p ≡ true = ap (list_any f) (sym c.pending.ensures) ∙ (sym c.is_among.ensures ∙ c.if-is_among.true) in
    let whole : all_of (take i ps) ++ (p ++ rest) ≡ c.args.pending.now =
    ap (λ (l : List Wanted). all_of (take i ps) ++ l) (sym (append_assoc p (all_of (drop (i + 1) ps)) last) ∙ ap (λ (l : List Wanted). l ++ last) (sym (all_from ps i p c.loop-piece-test.true c.piece-item.is)))
    ∙ (sym (append_assoc (all_of (take i ps)) (all_of (drop i ps)) last) ∙ (ap (λ (l : List Wanted). l ++ last) (all_split ps i) ∙ c.parts.ensures)) in
    among (list_any f (all_of (take i ps))) (list_any f p) (list_any f rest) c.loop-piece.invariant here
    ∙ (ap (λ b. list_any f (all_of (take i ps)) || b) (sym (any_append f p rest)) ∙ (sym (any_append f (all_of (take i ps)) (p ++ rest)) ∙ ap (list_any f) whole))
