use Rattle.std.proofs.Common.{◌++◌, List, ℕ, ap, ◌∙◌}
use Rattle.rams_model.specs.Texts.{line_text}
use Rattle.trace_text.proofs.Spelling.{text_reads}
use Rattle.trace_lines.specs.{shown}
use Rattle.trace_text.proofs.text.write_line.Goals as goal

pub returns-clause-read : goal.returns-clause-read
returns-clause-read c h =
    text_reads c.append_line.new.text.items (shown c.args.line.now) (c.in_ok-append_line.ensures ∙ ap (λ (front : List ℕ). front ++ line_text (shown c.args.line.now)) c.new-text.ensures.items) h
