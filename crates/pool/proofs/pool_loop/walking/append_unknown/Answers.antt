use Rattle.std.proofs.Common.{◌∙◌, ◌++◌, List, ℕ, true, false, sym, ap, append-nil}
use Rattle.std.proofs.lemmas.Result.{on_ok_weaker}
use Rattle.pool.proofs.pool_loop.Sides.{unknown_is}
use Rattle.pool.proofs.pool_loop.walking.append_unknown.Goals as goal

pub returns-then-has_number-clause-text : goal.returns-then-has_number-clause-text
returns-then-has_number-clause-text c =
    let text = c.args.text.now.items in
    let none = unknown_is c.args.event c.args.id c.args.left.now true (sym c.if-has_number.true ∙ c.has_number.ensures) in
    sym (append-nil text) ∙ ap (λ (t : List ℕ). text ++ t) (sym none)

pub returns-clause-text : goal.returns-clause-text
returns-clause-text c =
    let text = c.args.text.now.items in
    let line = unknown_is c.args.event c.args.id c.args.left.now false (sym c.if-has_number.false ∙ c.has_number.ensures) in
    on_ok_weaker c.append_no_channel.result (λ e. e ∙ ap (λ (t : List ℕ). text ++ t) (sym line)) c.append_no_channel.ensures.text
