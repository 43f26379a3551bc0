use Rattle.std.proofs.Common.{subst}
use Rattle.trace_loop.specs.trace_book.trace_serving.{refused, too_long}
use Rattle.trace_loop.specs.{IfTold}
use Rattle.trace_loop.specs.declared.whole_trace.ReadTrace.{ReadTrace}
use Rattle.pool.specs.declared.pool_loop.dealing.Dealt.{Dealt}
use Rattle.pool.specs.pool_loop.{pool, HasRead, MayWrite}
use Rattle.pool.proofs.pool_loop.Closing.{lawful_text, lawful_front, lawful_steady}
use Rattle.trace_loop.proofs.WholeTrace.{line_text, line_front, line_steady}
use Rattle.pool.proofs.pool_loop.ending.write_pool.Goals as goal

pub returns-in-Lawful-clause-text : goal.returns-in-Lawful-clause-text
returns-in-Lawful-clause-text g c =
    let left = g.S.Source.left c.args.source.now in
    let held = g.K.Sink.held c.args.sink.now in
    let call = c.run_and_write in
    let read = subst (λ (r : ReadTrace Dealt). IfTold left (λ xs. HasRead xs r)) c.in-Lawful.is c.in_ok-dealt.ensures.read in
    lawful_text c.args.rate held (g.K.Sink.held call.new.sink) (g.K.Sink.is_steady c.args.sink.now) c.in-Lawful.dealt left call.result read call.ensures.status call.ensures.text

pub returns-in-Lawful-clause-front : goal.returns-in-Lawful-clause-front
returns-in-Lawful-clause-front g c =
    let left = g.S.Source.left c.args.source.now in
    let held = g.K.Sink.held c.args.sink.now in
    let call = c.run_and_write in
    let read = subst (λ (r : ReadTrace Dealt). IfTold left (λ xs. HasRead xs r)) c.in-Lawful.is c.in_ok-dealt.ensures.read in
    lawful_front c.args.rate held (g.K.Sink.held call.new.sink) (g.K.Sink.is_steady c.args.sink.now) c.in-Lawful.dealt left call.result read call.ensures.front

pub returns-in-Lawful-clause-steady : goal.returns-in-Lawful-clause-steady
returns-in-Lawful-clause-steady g c = λ calm.
    let left = g.S.Source.left c.args.source.now in
    let held = g.K.Sink.held c.args.sink.now in
    let call = c.run_and_write in
    let read = subst (λ (r : ReadTrace Dealt). IfTold left (λ xs. HasRead xs r)) c.in-Lawful.is c.in_ok-dealt.ensures.read in
    lawful_steady c.args.rate held (g.K.Sink.held call.new.sink) (g.K.Sink.is_steady c.args.sink.now) c.in-Lawful.dealt left call.result read call.ensures.steady

pub returns-in-Unlawful-clause-text : goal.returns-in-Unlawful-clause-text
returns-in-Unlawful-clause-text g c =
    let left = g.S.Source.left c.args.source.now in
    let call = c.refuse in
    let o = refused c.in-Unlawful.line c.in-Unlawful.fault in
    let read = subst (λ (r : ReadTrace Dealt). IfTold left (λ xs. HasRead xs r)) c.in-Unlawful.is c.in_ok-dealt.ensures.read in
    line_text pool (MayWrite c.args.rate) (g.K.Sink.held c.args.sink.now) (g.K.Sink.held call.new.sink) (g.K.Sink.is_steady c.args.sink.now) o (λ xs text e. e) left call.result read call.ensures.status call.ensures.text

pub returns-in-Unlawful-clause-front : goal.returns-in-Unlawful-clause-front
returns-in-Unlawful-clause-front g c =
    let left = g.S.Source.left c.args.source.now in
    let call = c.refuse in
    let o = refused c.in-Unlawful.line c.in-Unlawful.fault in
    let read = subst (λ (r : ReadTrace Dealt). IfTold left (λ xs. HasRead xs r)) c.in-Unlawful.is c.in_ok-dealt.ensures.read in
    line_front pool (MayWrite c.args.rate) (g.K.Sink.held c.args.sink.now) (g.K.Sink.held call.new.sink) (g.K.Sink.is_steady c.args.sink.now) o (λ xs text e. e) left call.result read call.ensures.front

pub returns-in-Unlawful-clause-steady : goal.returns-in-Unlawful-clause-steady
returns-in-Unlawful-clause-steady g c = λ calm.
    let left = g.S.Source.left c.args.source.now in
    let call = c.refuse in
    let o = refused c.in-Unlawful.line c.in-Unlawful.fault in
    let read = subst (λ (r : ReadTrace Dealt). IfTold left (λ xs. HasRead xs r)) c.in-Unlawful.is c.in_ok-dealt.ensures.read in
    line_steady pool (MayWrite c.args.rate) (g.K.Sink.held c.args.sink.now) (g.K.Sink.held call.new.sink) (g.K.Sink.is_steady c.args.sink.now) o (λ xs text e. e) left call.result read call.ensures.steady

pub returns-in-TooLong-clause-text : goal.returns-in-TooLong-clause-text
returns-in-TooLong-clause-text g c =
    let left = g.S.Source.left c.args.source.now in
    let call = c.refuse_more in
    let read = subst (λ (r : ReadTrace Dealt). IfTold left (λ xs. HasRead xs r)) c.in-TooLong.is c.in_ok-dealt.ensures.read in
    line_text pool (MayWrite c.args.rate) (g.K.Sink.held c.args.sink.now) (g.K.Sink.held call.new.sink) (g.K.Sink.is_steady c.args.sink.now) too_long (λ xs text e. e) left call.result read call.ensures.status call.ensures.text

pub returns-in-TooLong-clause-front : goal.returns-in-TooLong-clause-front
returns-in-TooLong-clause-front g c =
    let left = g.S.Source.left c.args.source.now in
    let call = c.refuse_more in
    let read = subst (λ (r : ReadTrace Dealt). IfTold left (λ xs. HasRead xs r)) c.in-TooLong.is c.in_ok-dealt.ensures.read in
    line_front pool (MayWrite c.args.rate) (g.K.Sink.held c.args.sink.now) (g.K.Sink.held call.new.sink) (g.K.Sink.is_steady c.args.sink.now) too_long (λ xs text e. e) left call.result read call.ensures.front

pub returns-in-TooLong-clause-steady : goal.returns-in-TooLong-clause-steady
returns-in-TooLong-clause-steady g c = λ calm.
    let left = g.S.Source.left c.args.source.now in
    let call = c.refuse_more in
    let read = subst (λ (r : ReadTrace Dealt). IfTold left (λ xs. HasRead xs r)) c.in-TooLong.is c.in_ok-dealt.ensures.read in
    line_steady pool (MayWrite c.args.rate) (g.K.Sink.held c.args.sink.now) (g.K.Sink.held call.new.sink) (g.K.Sink.is_steady c.args.sink.now) too_long (λ xs text e. e) left call.result read call.ensures.steady
