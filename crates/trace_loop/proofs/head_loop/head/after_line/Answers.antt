use Rattle.std.proofs.Common.{◌≡◌, ℕ, List, [], ◌∷◌, ◌++◌, sym, ap, subst, ◌∙◌}
use Rattle.rams_model.specs.declared.Channel.{Channel}
use Rattle.trace_loop.specs.trace_book.trace_serving.{after_line, brought}
use Rattle.trace_loop.specs.trace_book.{run}
use Rattle.trace_text.specs.declared.Judged.{Judged}
use Rattle.trace_text.specs.declared.Judged.TheVariants as judged
use Rattle.trace_text.specs.{told}
use Rattle.trace_text.proofs.Judging.{settled}
use Rattle.trace_loop.specs.declared.head_loop.head.HeadLine.TheVariants.{GoesOn}
use Rattle.trace_loop.specs.head_loop.{Comes, Took}
use Rattle.trace_loop.proofs.head_loop.Opening.{opens_next, opened_turn}
use Rattle.trace_loop.proofs.head_loop.head.after_line.Goals as goal

pub open-requires : goal.open-requires
open-requires c =
    let r = c.args.opening.now in
    opens_next r.hub r.ids.items c.in-Channel.version r.state c.in-Channel.config c.requires.comes.0 (settled r.state _ _ c.in-Channel.is c.requires.settled)
    (subst (λ (j : Judged). Comes r.hub r.ids.items r.state (told j) c.requires.comes.0) c.in-Channel.is c.requires.comes.1)

pub returns-in_ok-push-in-Channel-clause-took : goal.returns-in_ok-push-in-Channel-clause-took
returns-in_ok-push-in-Channel-clause-took c = λ stage number comes.
    let r = c.args.opening.now in
    let come = subst (λ (j : Judged). Comes r.hub r.ids.items r.state (told j) stage) c.in-Channel.is comes in
    let ids : r.ids.items ++ c.in-Channel.config.channel.id ∷ [] ≡ c.push.new.self.items =
    ap (λ n. r.ids.items ++ n ∷ []) (sym (ap (λ (x : Channel). x.id) c.channel.ensures.value)) ∙ sym c.in_ok-push-in-Channel.ensures.items in
    subst (λ (j : Judged). Took stage (after_line run stage r.state (told j) (brought run (told j))) c.open.new.hub c.push.new.self.items r.state number GoesOn) (sym c.in-Channel.is)
    (subst (λ (l : List ℕ). Took stage (after_line run stage r.state (told (judged.Channel c.in-Channel.version c.in-Channel.config)) (brought run (told (judged.Channel c.in-Channel.version c.in-Channel.config)))) c.open.new.hub l r.state number GoesOn) ids
    (opened_turn r.hub c.open.new.hub r.ids.items c.in-Channel.version number r.state c.in-Channel.config stage (settled r.state _ _ c.in-Channel.is c.requires.settled) c.in_ok-open-in-Channel.ensures come))
