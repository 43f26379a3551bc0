use Rattle.std.proofs.Common.{subst}
use Rattle.std.specs.Io.KnownBytes.{prepend_known}
use Rattle.trace_loop.specs.{IfBothTold}
use Rattle.converters.specs.declared.description_loop.said.Head.{Head}
use Rattle.converters.specs.description_loop.{HasRead}
use Rattle.converters.proofs.description_loop.Outcomes.{description_told, refused_description_told}
use Rattle.converters.proofs.description_loop.write.answer_description.Goals as goal

pub returns-in-Lawful-clause-answers : goal.returns-in-Lawful-clause-answers
returns-in-Lawful-clause-answers g c =
    let a = g.S.Source.left c.args.source.now in
    let b = prepend_known c.read_head.new.reader.kept (g.S.Source.left c.read_head.new.source) in
    let kept = c.in_ok-reader.reader.kept in
    let head = subst (λ (h : Head). IfBothTold (prepend_known kept a) b (HasRead h)) c.in-Lawful.is c.in_ok-heading.ensures.read in
    description_told c.args.port a b kept c.in-Lawful.heading c.in_ok-description_reply-in-Lawful.field-0 c.in_ok-reader.ensures.kept head c.in_ok-description_reply-in-Lawful.ensures.answers

pub returns-clause-answers : goal.returns-clause-answers
returns-clause-answers g c =
    let a = g.S.Source.left c.args.source.now in
    let b = prepend_known c.read_head.new.reader.kept (g.S.Source.left c.read_head.new.source) in
    let kept = c.in_ok-reader.reader.kept in
    let head = subst (λ (h : Head). IfBothTold (prepend_known kept a) b (HasRead h)) c.in-Unlawful.is c.in_ok-heading.ensures.read in
    refused_description_told c.in-Unlawful.line c.in-Unlawful.fault c.in_ok-refused_reply-in-Unlawful.field-0 c.in_ok-refused_reply-in-Unlawful.ensures.answers c.args.port a b kept c.in_ok-reader.ensures.kept head
