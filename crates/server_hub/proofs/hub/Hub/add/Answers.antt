use Rattle.std.proofs.Common.{◌≡◌, Option, Err, refl, sym, subst, arith}
use Rattle.std.specs.Prelude.{IfNone}
use Rattle.server_hub.specs.declared.event.AddFault.{AddFault}
use Rattle.server_hub.specs.{StandsFor}
use Rattle.server_hub.specs.declared.event.AddFault.TheVariants.{Twice, Link, NoMemory}
use Rattle.server_hub.specs.Seen.{Seen}
use Rattle.server_hub.proofs.Adding.{is_twice, exceeds_link, is_added, is_fault, no_fault, added, number_fits, one_more_serves}
use Rattle.server_hub.proofs.hub.Hub.add.Goals as goal

pub returns-then-contains-clause-refused : goal.returns-then-contains-clause-refused
returns-then-contains-clause-refused c =
    is_fault (Err Twice) _ Twice
    (is_twice _ _ _ _ c.self.invariant _ c.self.view_is _ c.deref.ensures.value c.args.config _ c.channel-channel.ensures.value
    (omega (arith, c.len.ensures, c.self.inside.cores.ok.0)) c.if-contains.ensures.value) refl

pub returns-then-contains-clause-added : goal.returns-then-contains-clause-added
returns-then-contains-clause-added c =
    subst (λ (o : Option AddFault). IfNone o (Twice ≡ NoMemory))
    (sym (is_twice _ _ _ _ c.self.invariant _ c.self.view_is _ c.deref.ensures.value c.args.config _ c.channel-channel.ensures.value
    (omega (arith, c.len.ensures, c.self.inside.cores.ok.0)) c.if-contains.ensures.value)) tt

pub returns-then-channel-self-clause-refused : goal.returns-then-channel-self-clause-refused
returns-then-channel-self-clause-refused c =
    is_fault (Err Link) _ Link
    (exceeds_link _ _ _ _ c.self.invariant _ c.self.view_is _ c.deref.ensures.value c.args.config _ c.channel-channel.ensures.value
    (omega (arith, c.len.ensures, c.self.inside.cores.ok.0)) c.if-contains.ensures.value c.if-channel-self.true) refl

pub returns-in_err-reserve-clause-refused : goal.returns-in_err-reserve-clause-refused
returns-in_err-reserve-clause-refused c =
    no_fault _ _
    (is_added _ _ _ _ c.self.invariant _ c.self.view_is _ c.deref.ensures.value c.args.config _ c.channel-channel.ensures.value
    (omega (arith, c.len.ensures, c.self.inside.cores.ok.0)) c.if-contains.ensures.value c.if-channel-self.false)

pub returns-in_err-core-clause-refused : goal.returns-in_err-core-clause-refused
returns-in_err-core-clause-refused c =
    no_fault _ _
    (is_added _ _ _ _ c.self.invariant _ c.self.view_is _ c.deref.ensures.value c.args.config _ c.channel-channel.ensures.value
    (omega (arith, c.len.ensures, c.self.inside.cores.ok.0)) c.if-contains.ensures.value c.if-channel-self.false)

pub invariant_of-self-in_err-push-2 : goal.invariant_of-self-in_err-push-2
invariant_of-self-in_err-push-2 c =
    absurd (omega (arith, number_fits _ _ _ _ c.self.invariant (omega (arith, c.len.ensures, c.self.inside.cores.ok.0)), c.in_err-push-2.ensures.full))

pub invariant_of-self-2 : goal.invariant_of-self-2
invariant_of-self-2 c =
    rw (c.in_ok-push.ensures.items, c.in_ok-push-2.ensures.items, c.in_ok-reserve.ensures.items)
    (added _ _ _ _ c.self.invariant _ c.self.view_is _ c.deref.ensures.value c.args.config _ c.channel-channel.ensures.value
    c.in_ok-core.core c.in_ok-core.ensures.settings c.in_ok-core.ensures.stands (omega (arith, c.len.ensures, c.self.inside.cores.ok.0)) c.if-contains.ensures.value
    c.if-channel-self.false c.requires _ c.push-2.ensures.capacity)

pub returns-clause-stands : goal.returns-clause-stands
returns-clause-stands c = λ channels s.
    rw (c.in_ok-push.ensures.items, c.in_ok-reserve.ensures.items)
    (one_more_serves _ channels _ c.args.config (subst (λ (v : Seen). StandsFor v channels) (sym c.self.view_is) s) c.in_ok-core.ensures.settings c.in_ok-core.ensures.stands)

pub returns-clause-refused : goal.returns-clause-refused
returns-clause-refused c =
    no_fault _ _
    (is_added _ _ _ _ c.self.invariant _ c.self.view_is _ c.deref.ensures.value c.args.config _ c.channel-channel.ensures.value
    (omega (arith, c.len.ensures, c.self.inside.cores.ok.0)) c.if-contains.ensures.value c.if-channel-self.false)
