use Rattle.std.proofs.Common.{◌≡◌, ℕ, List, [], ◌∷◌, Option, IfNone, option_map, sym, ap, subst, ◌∙◌, length, arith}
use Rattle.generated.specs.declared.trace_gen.page.Next.{Next}
use Rattle.generated.specs.trace_gen.{next_on, left, with_first}
use Rattle.generated.specs.generated_run.{IsBrief}
use Rattle.generated.proofs.generated_run.Brief.{next_is_brief}
use Rattle.generated.specs.summary.{answers_in}
use Rattle.generated.specs.trace_gen.{config}
use Rattle.generated.proofs.generated_run.Steps.{begins, goes_on, as_many, ends, is_few}
use Rattle.generated.proofs.generated_run.run.summary_by.Goals as goal

pub loop-events-init : goal.loop-events-init
loop-events-init c = (
  begins c.args.seed c.args.blocks c.new-at.result c.args.core.now c.new-tally.result (c.new-at.ensures.all c.args.blocks) c.requires.settings c.requires.stands c.new-tally.ensures,
  ap (λ p. p.seed) c.new-at.ensures.value,
  λ some. absurd (omega (arith, ap (λ (l : List ℕ). length l) c.new-ready.ensures, some)),
)

pub returns-in_default : goal.returns-in_default
returns-in_default c =
    let none = subst (λ (o : Option Next). IfNone o ((left c.loop-events.at c.args.blocks ≡ []) × (c.next_event.new.at ≡ c.loop-events.at))) c.in_default.is c.in_ok-next.ensures.last in
    let told = ends c.args.seed c.args.blocks c.loop-events.events c.loop-events.at c.loop-events.core c.loop-events.tally c.loop-events.invariant.0 none.0 in
    c.write.ensures.made told.0 told.1

pub count_answer-requires-clause-brief : goal.count_answer-requires-clause-brief
count_answer-requires-clause-brief c =
    let page = c.next_event.new.page.items in
    let rest = left c.next_event.new.at c.args.blocks in
    let next = c.in_ok-next.ensures.next ∙ ap (λ (o : Option Next). with_first (option_map (λ n. next_on n page) o) rest) c.in-Some.is in
    subst (λ (bytes : List ℕ). IsBrief (next_on c.in-Some.next bytes)) (sym c.deref.ensures.value)
    (next_is_brief c.loop-events.at c.args.blocks (next_on c.in-Some.next page) rest next)

pub count_answer-requires-clause-few : goal.count_answer-requires-clause-few
count_answer-requires-clause-few c =
    let running = c.loop-events.invariant.0 in
    let few = is_few c.args.seed c.args.blocks c.loop-events.events c.loop-events.at c.loop-events.core c.loop-events.tally running c.requires.few in
    (running.came, running.stands, omega (arith, running.counted, few))

pub count_answer-requires-clause-settings : goal.count_answer-requires-clause-settings
count_answer-requires-clause-settings c = c.loop-events.invariant.0.settings

pub count_answer-requires-clause-answers : goal.count_answer-requires-clause-answers
count_answer-requires-clause-answers c =
    let many = as_many c.args.seed c.args.blocks c.loop-events.events c.loop-events.at c.loop-events.core c.loop-events.tally c.loop-events.invariant.0 in
    let few = is_few c.args.seed c.args.blocks c.loop-events.events c.loop-events.at c.loop-events.core c.loop-events.tally c.loop-events.invariant.0 c.requires.few in
    omega (arith, many, few)

pub loop-events-preserved : goal.loop-events-preserved
loop-events-preserved c =
    let event = next_on c.in-Some.next c.deref.result.now in
    let rest = left c.next_event.new.at c.args.blocks in
    let next =
    c.in_ok-next.ensures.next
    ∙ ap (λ (o : Option Next). with_first (option_map (λ n. next_on n c.next_event.new.page.items) o) rest) c.in-Some.is
    ∙ ap (λ (bytes : List ℕ). next_on c.in-Some.next bytes ∷ rest) (sym c.deref.ensures.value) in
    let running = c.loop-events.invariant.0 in (
      goes_on c.args.seed c.args.blocks c.loop-events.events c.loop-events.at c.next_event.new.at c.loop-events.core c.count_answer.new.core c.loop-events.tally c.count_answer.new.tally event running next
          c.count_answer.ensures.settings (c.in_ok-count_answer.ensures.counted running.came (answers_in config running.came) running.stands running.told),
      c.next_event.ensures.seed ∙ c.loop-events.invariant.1,
      c.in_ok-next.ensures.ready,
    )

pub unreachable-requires : goal.unreachable-requires
unreachable-requires c =
    let few = is_few c.args.seed c.args.blocks c.loop-events.events c.loop-events.at c.loop-events.core c.loop-events.tally c.loop-events.invariant.0 c.requires.few in
    omega (arith, few, c.loop-events-test.false)
