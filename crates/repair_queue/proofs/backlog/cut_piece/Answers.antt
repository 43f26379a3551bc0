use Rattle.std.proofs.Common.{◌≡◌, List, [], ◌∷◌, ◌++◌, length, length-append, append_assoc, append-nil, ap, ◌∙◌, arith}
use Rattle.rams_model.specs.Service.{Wanted}
use Rattle.repair_queue.specs.{all_of}
use Rattle.repair_queue.proofs.Pieces.{all_append}
use Rattle.repair_queue.proofs.backlog.cut_piece.Goals as goal

pub returns-clause-same : goal.returns-clause-same
returns-clause-same c =
    let ps = c.args.pieces.now.items in
    let p = c.in-Some.piece in
    let more : all_of c.push_reserved.new.self.items ≡ all_of ps ++ p =
    ap all_of (c.push_reserved.ensures.items ∙ ap (λ (l : List (List Wanted)). l ++ p ∷ []) c.reserve.ensures.items) ∙ (all_append ps (p ∷ []) ∙ ap (λ (l : List Wanted). all_of ps ++ l) (append-nil p)) in
    ap (λ (l : List Wanted). l ++ c.take_piece.new.self) more ∙ (append_assoc (all_of ps) p c.take_piece.new.self ∙ ap (λ (l : List Wanted). all_of ps ++ l) c.in-Some.ensures.taken)

pub returns-clause-count : goal.returns-clause-count
returns-clause-count c =
    let ps = c.args.pieces.now.items in
    let p = c.in-Some.piece in
    let more : all_of c.push_reserved.new.self.items ≡ all_of ps ++ p =
    ap all_of (c.push_reserved.ensures.items ∙ ap (λ (l : List (List Wanted)). l ++ p ∷ []) c.reserve.ensures.items) ∙ (all_append ps (p ∷ []) ∙ ap (λ (l : List Wanted). all_of ps ++ l) (append-nil p)) in
    omega (arith, ap length more, length-append (all_of ps) p, c.in-Some.ensures.long)
