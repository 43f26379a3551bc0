use Rattle.std.proofs.Common.{Some, sym, subst, refl}
use Rattle.rams_model.specs.Texts.{tick_of}
use Rattle.trace_loop.specs.trace_book.trace_serving.{after_line, brought}
use Rattle.trace_text.specs.declared.Judged.{Judged}
use Rattle.trace_text.specs.{told, IsSettled}
use Rattle.trace_loop.specs.declared.whole_trace.Does.TheVariants.{GoesOn}
use Rattle.threads_loop.specs.{threads, Comes, Took}
use Rattle.threads_loop.proofs.Taking.{takes_channel}
use Rattle.threads_loop.proofs.dealing.after_line.Goals as goal

pub returns-in_ok-keep-in-Channel-clause-took : goal.returns-in_ok-keep-in-Channel-clause-took
returns-in_ok-keep-in-Channel-clause-took c = λ stage number comes.
    let d = c.args.dealt.now in
    let n = record d { config = Some c.in-Channel.config; head = c.keep.new.head } in
    let come = subst (λ (j : Judged). Comes d c.args.bytes.now (told j) stage) c.in-Channel.is comes in
    subst (λ (j : Judged). Took n stage (after_line threads stage d.state (told j) (brought threads (told j))) number GoesOn) (sym c.in-Channel.is)
    (takes_channel d n stage c.args.bytes.now c.in-Channel.version number c.in-Channel.config come (subst (IsSettled (tick_of d.state.head)) c.in-Channel.is c.requires.settled) refl refl refl refl refl)
