use Rattle.std.proofs.Common.{ℕ, List, ap, subst, ◌∙◌}
use Rattle.std.specs.Io.KnownBytes.{prepend_known}
use Rattle.converters.specs.description_loop.sdp_config.{sdp_at}
use Rattle.trace_loop.specs.{IfBothTold}
use Rattle.converters.specs.declared.description_loop.said.Head.{Head}
use Rattle.converters.specs.description_loop.{HasRead, said_by, settings_by}
use Rattle.converters.proofs.description_loop.Outcomes.{settings_told, refused_settings_told}
use Rattle.converters.proofs.description_loop.write.answer_settings.Goals as goal

pub returns-in-Lawful-clause-answers : goal.returns-in-Lawful-clause-answers
returns-in-Lawful-clause-answers g c =
    let a = g.S.Source.left c.args.source.now in
    let b = prepend_known c.read_head.new.reader.kept (g.S.Source.left c.read_head.new.source) in
    let kept = c.in_ok-reader.reader.kept in
    let head = subst (λ (h : Head). IfBothTold (prepend_known kept a) b (HasRead h)) c.in-Lawful.is c.in_ok-heading.ensures.read in
    let answers = c.in_ok-settings_reply-in-Lawful.ensures.answers ∙ ap (λ (t : List ℕ). settings_by (said_by c.in-Lawful.heading) (sdp_at t)) c.deref.ensures.value in
    settings_told a b kept c.in-Lawful.heading c.in_ok-settings_reply-in-Lawful.field-0 c.in_ok-text-in-Lawful.text.items c.in_ok-reader.ensures.kept head c.in_ok-text-in-Lawful.ensures.front answers

pub returns-clause-answers : goal.returns-clause-answers
returns-clause-answers g c =
    let a = g.S.Source.left c.args.source.now in
    let b = prepend_known c.read_head.new.reader.kept (g.S.Source.left c.read_head.new.source) in
    let kept = c.in_ok-reader.reader.kept in
    let head = subst (λ (h : Head). IfBothTold (prepend_known kept a) b (HasRead h)) c.in-Unlawful.is c.in_ok-heading.ensures.read in
    refused_settings_told c.in-Unlawful.line c.in-Unlawful.fault c.in_ok-refused_reply-in-Unlawful.field-0 c.in_ok-refused_reply-in-Unlawful.ensures.answers a b kept c.in_ok-reader.ensures.kept head
