use Rattle.std.proofs.Common.{ℕ, List, ◌≡◌, ◌++◌, OnOk, codes, ap, subst, ◌∙◌}
use Rattle.rams_model.specs.Texts.{of_number}
use Rattle.trace_loop.proofs.journal_book.event_text.Spelling.{feedback_line_is}
use Rattle.trace_loop.proofs.journal_book.event_text.append_feedback.Goals as goal

pub returns-clause-text : goal.returns-clause-text
returns-clause-text c =
    let call = c.append_with_hex in
    subst (λ (line : List ℕ). OnOk call.result (call.new.text.items ≡ c.args.text.now.items ++ line))
    (feedback_line_is c.args.id c.args.client c.args.bytes.now _ _ _ c.new-front.ensures c.byte.ensures (c.numbered.ensures.line ∙ ap (λ (n : ℕ). of_number (codes "fb") n c.args.client ++ c.byte.new.self) c.from.ensures))
    call.ensures.text
