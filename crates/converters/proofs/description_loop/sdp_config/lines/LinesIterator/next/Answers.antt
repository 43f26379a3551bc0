use Rattle.std.proofs.Common.{arith}
use Rattle.std.proofs.lemmas.Bool.Decides.{nat_tests}
use Rattle.converters.proofs.description_loop.sdp_config.Cuts.{no_lines}
use Rattle.converters.proofs.description_loop.sdp_config.lines.LinesIterator.next.Goals as goal

pub returns-then-is_empty-clause-steps : goal.returns-then-is_empty-clause-steps
returns-then-is_empty-clause-steps c =
    let none = no_lines c.args.self.now.rest.now (grind (arith, nat_tests)) in
    (none, none)
