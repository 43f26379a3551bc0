use Rattle.std.proofs.Common.{sym, subst}
use Rattle.std.specs.Io.KnownBytes.{prepend_known}
use Rattle.rams_model.specs.declared.Mode.TheVariants.{Describe}
use Rattle.rams_model.specs.Texts.{Reached, nothing_reached}
use Rattle.trace_loop.specs.{IfBothTold}
use Rattle.converters.specs.declared.{description_loop.said.Head.Head, description_loop.said.Said.Said}
use Rattle.converters.specs.description_loop.{HasRead, IsNext}
use Rattle.converters.proofs.description_loop.Heads.{reads_no_first, reads_no_second, reads_no_third, reads_head}
use Rattle.converters.proofs.description_loop.head.read_head.Goals as goal

pub returns-in_default-clause-read : goal.returns-in_default-clause-read
returns-in_default-clause-read g c =
    let a = prepend_known c.args.reader.now.kept (g.S.Source.left c.args.source.now) in
    let b = prepend_known c.next_line.new.reader.kept (g.S.Source.left c.next_line.new.source) in
    let first = subst (λ (r : Reached). IfBothTold a b (IsNext r c.next_line.new.state c.in_ok-first.first)) c.new-state.ensures c.in_ok-first.ensures.line in
    subst (λ (h : Head). IfBothTold a b (HasRead h)) (sym c.unlawful.ensures)
    (reads_no_first a b c.next_line.new.state c.in_ok-first.first first (λ version link is. c.in_default.not-Head version link is))

pub returns-in_default-second-clause-read : goal.returns-in_default-second-clause-read
returns-in_default-second-clause-read g c =
    let a = prepend_known c.args.reader.now.kept (g.S.Source.left c.args.source.now) in
    let b = prepend_known c.next_line.new.reader.kept (g.S.Source.left c.next_line.new.source) in
    let d = prepend_known c.next_line-2.new.reader.kept (g.S.Source.left c.next_line-2.new.source) in
    let opened = subst (λ (r : Reached). IfBothTold a b (IsNext r c.next_line.new.state c.in_ok-first.first)) c.new-state.ensures c.in_ok-first.ensures.line in
    let first = subst (λ (s : Said). IfBothTold a b (IsNext (nothing_reached Describe) c.next_line.new.state s)) c.in-Head.is opened in
    subst (λ (h : Head). IfBothTold a d (HasRead h)) (sym c.unlawful-in_default-second.ensures)
    (reads_no_second a b d c.next_line.new.state c.next_line-2.new.state c.in-Head.version c.in-Head.link c.in_ok-second.second first c.in_ok-second.ensures.line (λ config is. c.in_default-second.not-Channel config is))

pub returns-in_default-third-clause-read : goal.returns-in_default-third-clause-read
returns-in_default-third-clause-read g c =
    let a = prepend_known c.args.reader.now.kept (g.S.Source.left c.args.source.now) in
    let b = prepend_known c.next_line.new.reader.kept (g.S.Source.left c.next_line.new.source) in
    let d = prepend_known c.next_line-2.new.reader.kept (g.S.Source.left c.next_line-2.new.source) in
    let e = prepend_known c.next_line-3.new.reader.kept (g.S.Source.left c.next_line-3.new.source) in
    let opened = subst (λ (r : Reached). IfBothTold a b (IsNext r c.next_line.new.state c.in_ok-first.first)) c.new-state.ensures c.in_ok-first.ensures.line in
    let first = subst (λ (s : Said). IfBothTold a b (IsNext (nothing_reached Describe) c.next_line.new.state s)) c.in-Head.is opened in
    let second = subst (λ (s : Said). IfBothTold b d (IsNext c.next_line.new.state c.next_line-2.new.state s)) c.in-Channel.is c.in_ok-second.ensures.line in
    subst (λ (h : Head). IfBothTold a e (HasRead h)) (sym c.unlawful-in_default-third.ensures)
    (reads_no_third a b d e c.next_line.new.state c.next_line-2.new.state c.next_line-3.new.state c.in-Head.version c.in-Head.link c.in-Channel.config c.in_ok-third.third first second c.in_ok-third.ensures.line (λ is. c.in_default-third.not-End is))

pub returns-clause-read : goal.returns-clause-read
returns-clause-read g c =
    let a = prepend_known c.args.reader.now.kept (g.S.Source.left c.args.source.now) in
    let b = prepend_known c.next_line.new.reader.kept (g.S.Source.left c.next_line.new.source) in
    let d = prepend_known c.next_line-2.new.reader.kept (g.S.Source.left c.next_line-2.new.source) in
    let e = prepend_known c.next_line-3.new.reader.kept (g.S.Source.left c.next_line-3.new.source) in
    let opened = subst (λ (r : Reached). IfBothTold a b (IsNext r c.next_line.new.state c.in_ok-first.first)) c.new-state.ensures c.in_ok-first.ensures.line in
    let first = subst (λ (s : Said). IfBothTold a b (IsNext (nothing_reached Describe) c.next_line.new.state s)) c.in-Head.is opened in
    let second = subst (λ (s : Said). IfBothTold b d (IsNext c.next_line.new.state c.next_line-2.new.state s)) c.in-Channel.is c.in_ok-second.ensures.line in
    let third = subst (λ (s : Said). IfBothTold d e (IsNext c.next_line-2.new.state c.next_line-3.new.state s)) c.in-End.is c.in_ok-third.ensures.line in
    reads_head a b d e c.next_line.new.state c.next_line-2.new.state c.next_line-3.new.state (record { version = c.in-Head.version; link = c.in-Head.link; config = c.in-Channel.config }) first second third
