use Rattle.std.proofs.Common.{sym, subst, refl}
use Rattle.rams_model.specs.Texts.{tick_of}
use Rattle.trace_loop.specs.trace_book.{run}
use Rattle.trace_loop.specs.trace_book.trace_serving.{after_line, brought}
use Rattle.trace_text.specs.declared.Judged.{Judged}
use Rattle.trace_text.specs.{told, IsSettled}
use Rattle.trace_loop.specs.declared.whole_trace.Does.TheVariants.{GoesOn}
use Rattle.pool.specs.pool_loop.{pool, Comes, Took}
use Rattle.pool.proofs.pool_loop.Taking.{takes_channel}
use Rattle.pool.proofs.pool_loop.dealing.after_line.Goals as goal

pub returns-in_ok-push-in-Channel : goal.returns-in_ok-push-in-Channel
returns-in_ok-push-in-Channel c = λ came bytes stage number comes.
    let d = c.args.dealt.now in
    let n = record d { channels = c.push.new.self } in
    let come = subst (λ (j : Judged). Comes d came bytes (told j) stage) c.in-Channel.is comes in
    subst (λ (j : Judged). Took n came (brought run (told j)) stage (after_line pool stage d.state (told j) (brought pool (told j))) number GoesOn) (sym c.in-Channel.is)
    (takes_channel d n came stage bytes c.in-Channel.version number c.in-Channel.config _ come (subst (IsSettled (tick_of d.state.head)) c.in-Channel.is c.requires.settled) refl c.new.ensures.items c.in_ok-push-in-Channel.ensures.items refl refl)
