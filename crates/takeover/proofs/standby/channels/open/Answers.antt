use Rattle.std.proofs.Common.{◌≡◌, ℕ, List, Ok, [], ◌∷◌, ◌++◌, ap, sym, subst, ◌∙◌, arith}
use Rattle.rams_model.specs.declared.Channel.{Channel}
use Rattle.rams_model.specs.Texts.{accepted, channel_line}
use Rattle.trace_text.specs.{told}
use Rattle.trace_text.specs.declared.Judged.{Judged}
use Rattle.trace_text.proofs.Judging.{settled}
use Rattle.takeover.specs.declared.standby.fault.Step.TheVariants.{GoesOn}
use Rattle.takeover.specs.standby.{Stands, Took, turn_of}
use Rattle.takeover.proofs.standby.Opening.{opens_next, ids_few, opened_turn}
use Rattle.takeover.proofs.standby.Turning.{accepted_as, goes_as, later_of}
use Rattle.takeover.proofs.standby.channels.open.Goals as goal

pub add-requires : goal.add-requires
add-requires c =
    let s = c.requires.stands in
    let old = c.args.channels.now in
    let l = later_of old.state (channel_line c.args.version c.args.config.channel) (accepted_as old.state _ _ c.requires.line c.requires.accepted) in
    opens_next old.hub old.ids.items old.events c.args.version old.state l.0 c.args.config s.0 s.1 (settled old.state _ _ c.requires.line c.requires.settled) l.1

pub push-requires : goal.push-requires
push-requires c =
    let s = c.requires.stands in
    let old = c.args.channels.now in (
      omega arith,
      ids_few old.hub old.ids.items old.events c.args.version old.state c.go_on.new.self c.args.config s.0 s.1 (settled old.state _ _ c.requires.line c.requires.settled)
          (goes_as old.state c.go_on.new.self _ _ c.requires.line c.go_on.ensures.goes_on),
    )

pub returns-clause-turn : goal.returns-clause-turn
returns-clause-turn c = λ stage number stands is.
    let old = c.args.channels.now in
    let ids : old.ids.items ++ c.args.config.channel.id ∷ [] ≡ c.push.new.self.items =
    ap (λ n. old.ids.items ++ n ∷ []) (sym (ap (λ (x : Channel). x.id) c.channel.ensures.value)) ∙ sym c.push.ensures.items in
    subst (λ (j : Judged). Took (Ok GoesOn) (turn_of stage number (told j)) (Stands c.add.new.hub c.push.new.self.items old.events c.go_on.new.self) number) (sym c.requires.line)
    (subst (λ (l : List ℕ). Took (Ok GoesOn) (turn_of stage number (channel_line c.args.version c.args.config.channel)) (Stands c.add.new.hub l old.events c.go_on.new.self) number) ids
    (opened_turn old.hub old.ids.items old.events c.args.version old.state c.go_on.new.self c.args.config stage stands (settled old.state _ _ c.requires.line c.requires.settled)
    (goes_as old.state c.go_on.new.self _ _ c.requires.line c.go_on.ensures.goes_on) number c.add.new.hub c.in_ok-add.ensures.opens))
