use Rattle.std.proofs.Common.{ℕ, List, ◌≡◌, ◌++◌, OnOk, codes, ap, subst, ◌∙◌}
use Rattle.rams_model.specs.Texts.{spaced}
use Rattle.trace_loop.proofs.journal_book.event_text.Spelling.{live_line_is}
use Rattle.trace_loop.proofs.journal_book.event_text.append_live.Goals as goal

pub returns-clause-text : goal.returns-clause-text
returns-clause-text c =
    let call = c.append_with_hex in
    subst (λ (line : List ℕ). OnOk call.result (call.new.text.items ≡ c.args.text.now.items ++ line))
    (live_line_is c.args.id c.args.bytes.now _ _ _ c.new-front.ensures c.byte.ensures (c.named.ensures.line ∙ ap (λ (n : ℕ). (codes "live" ++ spaced n) ++ c.byte.new.self) c.from.ensures))
    call.ensures.text
