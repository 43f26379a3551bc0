use Rattle.std.proofs.Common.{sym, ap, ◌∙◌, arith}
use Rattle.std.proofs.lemmas.Bool.Decides.{nat_tests}
use Rattle.converters.specs.description_loop.sdp_config.{text_fault, first_fault, lines_in}
use Rattle.converters.proofs.description_loop.sdp_config.Cuts.{no_lines, some_lines}
use Rattle.converters.proofs.description_loop.sdp_config.Faults.{some_fault}
use Rattle.converters.proofs.description_loop.sdp_config.read.text_fault.Goals as goal

pub returns-then-is_empty : goal.returns-then-is_empty
returns-then-is_empty c = sym (ap text_fault (no_lines c.args.text.now (grind (arith, nat_tests))))

pub returns : goal.returns
returns c =
    c.first_fault.ensures ∙ ap (first_fault 1) c.of.ensures
    ∙ sym (some_fault (lines_in c.args.text.now) (some_lines c.args.text.now (grind (arith, nat_tests))))
