use Rattle.std.proofs.Common.{sym, ap, subst, arith}
use Rattle.rams_model.specs.declared.Event.TheVariants.{Feedback}
use Rattle.server_hub.specs.{StandsFor, told_of}
use Rattle.server_hub.specs.Seen.{Seen}
use Rattle.server_hub.proofs.Keeping.{written, kept, settings_kept, place_within, one_steps, none_steps}
use Rattle.server_hub.proofs.hub.Hub.feedback.Goals as goal

pub invariant_of-self : goal.invariant_of-self
invariant_of-self c = kept _ _ _ _ _ c.self.invariant (none_steps _ _ _ _ c.self.invariant _ c.deref.ensures.value c.args.id (Feedback c.args.client c.args.bytes.now) c.in_default.ensures.none).keep

pub returns-in_default-clause-stands : goal.returns-in_default-clause-stands
returns-in_default-clause-stands c = λ channels s.
    let same = (none_steps _ _ _ _ c.self.invariant _ c.deref.ensures.value c.args.id (Feedback c.args.client c.args.bytes.now) c.in_default.ensures.none).stands channels (subst (λ (v : Seen). StandsFor v channels) (sym c.self.view_is) s) in
    (ap (told_of c.args.id) same.0, same.1)

pub feedback_at-requires : goal.feedback_at-requires
feedback_at-requires c = record { place = omega (arith, place_within _ _ _ _ c.self.invariant _ c.deref.ensures.value c.args.id c.in-Some.place c.in-Some.ensures.there, c.deref_mut.ensures.len) }

pub invariant_of-self-2 : goal.invariant_of-self-2
invariant_of-self-2 c =
    let new = c.feedback_at.new.cores in
    let steps = one_steps _ _ _ _ c.self.invariant _ c.deref.ensures.value c.args.id (Feedback c.args.client c.args.bytes.now) c.in-Some.place _ new _ c.in-Some.ensures.there c.deref_mut.ensures.value c.in_ok-answer.ensures.steps in
    rw (written c.self.inside.cores.len new c.self.inside.cores.items (omega (arith, c.feedback_at.auto.cores))) (kept _ _ _ _ new c.self.invariant steps.keep)

pub returns-clause-stands : goal.returns-clause-stands
returns-clause-stands c = λ channels s.
    let new = c.feedback_at.new.cores in
    let steps = one_steps _ _ _ _ c.self.invariant _ c.deref.ensures.value c.args.id (Feedback c.args.client c.args.bytes.now) c.in-Some.place _ new _ c.in-Some.ensures.there c.deref_mut.ensures.value c.in_ok-answer.ensures.steps in
    let same = steps.stands channels (subst (λ (v : Seen). StandsFor v channels) (sym c.self.view_is) s) in
    rw (written c.self.inside.cores.len new c.self.inside.cores.items (omega (arith, c.feedback_at.auto.cores))) (ap (told_of c.args.id) same.0, same.1)

pub returns-clause-settings : goal.returns-clause-settings
returns-clause-settings c =
    let new = c.feedback_at.new.cores in
    let steps = one_steps _ _ _ _ c.self.invariant _ c.deref.ensures.value c.args.id (Feedback c.args.client c.args.bytes.now) c.in-Some.place _ new _ c.in-Some.ensures.there c.deref_mut.ensures.value c.in_ok-answer.ensures.steps in
    rw (← c.self.view_is, written c.self.inside.cores.len new c.self.inside.cores.items (omega (arith, c.feedback_at.auto.cores))) (settings_kept _ new steps.keep)
