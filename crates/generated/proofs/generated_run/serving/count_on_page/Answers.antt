use Rattle.std.proofs.Common.{◌≡◌, ◌∷◌, ap, sym, subst, ◌∙◌}
use Rattle.rams_model.specs.declared.{Event.Event, Event.TheVariants.Tick}
use Rattle.rams_model.specs.Service.{answer}
use Rattle.server_hub.specs.session_core.{StandsFor}
use Rattle.server_hub.proofs.session_core.TickNotes.{tick_notes}
use Rattle.generated.specs.declared.trace_gen.page.Kind.{Kind}
use Rattle.generated.specs.summary.{Tallied, tally_of, with_tick}
use Rattle.generated.specs.trace_gen.{event_on}
use Rattle.generated.proofs.summary.TickTallying.{tally_tick}
use Rattle.generated.proofs.generated_run.serving.count_on_page.Goals as goal

pub returns-in_ok-count_tick-in-Tick-clause-counted : goal.returns-in_ok-count_tick-in-Tick-clause-counted
returns-in_ok-count_tick-in-Tick-clause-counted c = λ events answers stands told.
    let s = c.args.core.now.settings in
    let sums = c.in_ok-count_tick-in-Tick.field-0 in
    let got = c.in_ok-count_tick-in-Tick.ensures.stands events stands in
    let event_is : event_on c.args.kind c.args.page.now ≡ Tick = ap (λ (k : Kind). event_on k c.args.page.now) c.in-Tick.is in
    let tally = c.add_tick.ensures ∙ (ap (λ (t : Tallied). with_tick t sums) told ∙ (ap (with_tick (tally_of answers)) got.0 ∙ sym (tally_tick (answer s events Tick) answers (tick_notes s events)))) in
    subst (λ (e : Event). StandsFor c.count_tick.new.self (e ∷ events) × (c.add_tick.new.self ≡ tally_of (answer s events e ∷ answers))) (sym event_is) (got.1, tally)
