-- The plan of parts that stand for some events.
use Rattle.std.proofs.Common.{◌≡◌, ℕ, List, [], ◌∷◌, ◌++◌, Bool, true, false, Option, Some, None, is_some, IsSome, filter, map, refl, ap, sym, ◌∙◌, subst}
use Rattle.std.specs.List.{AllByRecursion as Each}
use Rattle.std.specs.Map.{keys_of}
use Rattle.std.proofs.lemmas.Bool.{cond_both, both_ways, false≢true}
use Rattle.rams_model.specs.declared.{Held.Held, Event.Event, Event.TheVariants.Tick}
use Rattle.rams_model.specs.Service.{Settings}
use Rattle.client_table.specs.declared.{Burst.Burst, Entry.Entry}
use Rattle.client_table.specs.{AreRising, entry_of}
use Rattle.client_table.specs.Clients.{Clients}
use Rattle.rams_model.specs.Service.{pending, Answered, answered, history_of, answer}
use Rattle.channel_parts.specs.declared.Parts.{Parts}
use Rattle.channel_parts.specs.{StandsFor}
use Rattle.channel_parts.proofs.Facts.{opened_are_the_known_with_bursts, repairs_are_within_limits}
use Rattle.channel_parts.proofs.Ordered.{known_rise}
use Rattle.channel_parts.proofs.Given.{moment}
use Rattle.tick_core.specs.declared.allowance.Allowance.{Allowance}
use Rattle.tick_draft.specs.{Drafted, new_draft, AreStepsOf, Counted, IsCountOf}
use Rattle.tick_draft.specs.declared.Step.{Step}
use Rattle.tick_draft.proofs.Stepping.{steps_behind}
use Rattle.tick_core.specs.declared.plan.{TickPlan.TickPlan, TickWork.TickWork}
use Rattle.tick_core.specs.{allowance_of, idle_allowance, or_changed, all_allowances, AreOfBursts, AreOfKnown, allowances_of, Repaired, with_all_wanted, with_all_forgotten, drafted_runs, repairs_behind, tick_behind, drafted_tick, planned_answer, planned_flags, IsPlanBehind, IsWorkOf, IsPlanOf, IsWorkFor, IsPlanFor, is_over}
use Rattle.tick_core.proofs.Behind.{behind, rest_of}
use Rattle.tick_core.proofs.Planning.{each_found, planned}
use Rattle.tick_core.proofs.Walking.{whose, rise_sorted}

-- the plan is lawful
record IsLawfulPlan (p : Parts) (events : List Event) : Type 0 where
  answer_is : planned_answer p ≡ answer p.config events Tick
  done_is : planned_flags p ≡ map (is_over (answer p.config events Tick).notes) (pending (history_of p.config events))

made_lawful : (p : Parts) (events : List Event) → StandsFor p events → IsLawfulPlan p events
made_lawful p events stands =
    let before = history_of p.config events in
    let plan = planned p events stands (known_rise before) (opened_are_the_known_with_bursts p.config events stands.lawful) (repairs_are_within_limits p.config before (moment p.config events)) in
    record { answer_is = plan.answer_is; done_is = plan.done_is ∙ ap (λ (a : Answered). map (is_over a.notes) (pending before)) plan.answer_is }

pub work_for : (p : Parts) (events : List Event) (work : TickWork) → StandsFor p events → IsWorkOf p work → IsWorkFor p events work
work_for p events work stands is =
    let lawful = made_lawful p events stands in
    record { done_is = is.done_is ∙ lawful.done_is; steps_do = subst (AreStepsOf work.steps.items) lawful.answer_is is.steps_do }

pub plan_for : (p : Parts) (events : List Event) (plan : TickPlan) → StandsFor p events → IsPlanOf p plan → IsPlanFor p events plan
plan_for p events plan stands is = record { answer_is = is.0 ∙ (made_lawful p events stands).answer_is; work_is = work_for p events plan.work stands is.1 }

-- ---- what was served is what the repairs begin with
some_same : {X : Type 0} (x y : X) → Some x ≡ Some y → x ≡ y
some_same x y is = cc

idle_by : (s : Settings) (held : List Held) (k : ℕ) (e : Entry) (o : Option Burst) → is_some o ≡ false → idle_allowance s.channel.burst k e ≡ allowance_of s held k e o
idle_by s held k e None closed = refl
idle_by s held k e (Some b) closed = cc

closed_by : (b : Bool) → (b ≡ true → IsSome {T = Allowance} None) → b ≡ false
closed_by true some = absurd (false≢true (some refl))
closed_by false some = refl

module _ (s : Settings) (held : List Held) (t : Clients) (allowed : ℕ → Option Allowance)
    (each : (k : ℕ) (a : Allowance) → allowed k ≡ Some a → (e : Entry) × (entry_of t k ≡ Some e) × (a ≡ allowance_of s held k e e.burst)) where
  first_is : (k : ℕ) (e : Entry) (o : Option Allowance) → entry_of t k ≡ Some e → allowed k ≡ o → (is_some e.burst ≡ true → IsSome o)
      → or_changed o (idle_allowance s.channel.burst k e) ≡ allowance_of s held k e e.burst
  first_is k e None found is open' = idle_by s held k e e.burst (closed_by (is_some e.burst) open')
  first_is k e (Some a) found is open' =
      let of = each k a is in
      let same : of.0 ≡ e = some_same of.0 e (sym of.1 ∙ found) in
      let a_is : a ≡ allowance_of s held k e e.burst = of.2 ∙ ap (λ (x : Entry). allowance_of s held k x x.burst) same in
      let own : a.client ≡ k = ap (λ (x : Allowance). x.client) a_is ∙ whose s held k e e.burst in
      ap (λ (n : ℕ). record a { client = n }) (sym own) ∙ a_is

  all_are : (es : List (ℕ × Entry)) → Each (λ e. entry_of t e.0 ≡ Some e.1) es → Each (λ e. IsSome (allowed e.0)) (filter (λ e. is_some e.1.burst) es)
      → all_allowances s.channel.burst es allowed ≡ allowances_of s held es
  unfolding allowances_of
  all_are [] found some = refl
  all_are (e ∷ es) found some =
      let parts : (is_some e.1.burst ≡ true → IsSome (allowed e.0)) × Each (λ d. IsSome (allowed d.0)) (filter (λ d. is_some d.1.burst) es) =
      cond_both (is_some e.1.burst) (e ∷ filter (λ d. is_some d.1.burst) es) (filter (λ d. is_some d.1.burst) es)
      (λ l. Each (λ d. IsSome (allowed d.0)) l → (is_some e.1.burst ≡ true → IsSome (allowed e.0)) × Each (λ d. IsSome (allowed d.0)) (filter (λ d. is_some d.1.burst) es))
      (λ t all. ((λ u. all.0), all.1)) (λ f all. ((λ u. absurd (both_ways (is_some e.1.burst) f u)), all)) some in
      ap (λ (a : Allowance). a ∷ all_allowances s.channel.burst es allowed) (first_is e.0 e.1 (allowed e.0) found.0 refl parts.0)
      ∙ ap (λ (l : List Allowance). allowance_of s held e.0 e.1 e.1.burst ∷ l) (all_are es found.1 parts.1)

-- each is that of a known client
pub bursts_are_of_known : (s : Settings) (held : List Held) (t : Clients) (allowed : ℕ → Option Allowance) → AreOfBursts s held t allowed → AreOfKnown t allowed
bursts_are_of_known s held t allowed bursts k some = known_by (allowed k) refl some
  where
    known_by : (o : Option Allowance) → allowed k ≡ o → IsSome o → IsSome (entry_of t k)
    known_by None is told = absurd cc
    known_by (Some a) is told = ap is_some (bursts.each k a is).1

pub begun_allowances : (s : Settings) (held : List Held) (t : Clients) (allowed : ℕ → Option Allowance) → AreRising t → AreOfBursts s held t allowed
    → all_allowances s.channel.burst t.known allowed ≡ allowances_of s held t.known
begun_allowances s held t allowed rising are = all_are s held t allowed are.each t.known (each_found t.known (rise_sorted (keys_of t.known) rising)) are.all

-- ---- the plan of any parts, as its calls make it
pub record IsMade (p : Parts) (d0 d1 d2 : Drafted) (allowed : List Allowance) (r0 r1 : Repaired) (done : List Bool) : Type 0 where
  pub allowed_is : allowed ≡ allowances_of p.config p.cache.held p.table.known
  pub unrepaired : r0 ≡ record { draft = d0; allowances = allowed; done = [] }
  pub repairs_are : r1 ≡ with_all_wanted p.cache.held p.queue r0
  pub draft_is : d1 ≡ r1.draft
  pub done_is : done ≡ r1.done
  pub end_is : d2 ≡ with_all_forgotten p.config p.queue p.table.known d1

pub by_calls : (p : Parts) (d0 d1 d2 : Drafted) (allowed : List Allowance) (r0 r1 : Repaired) (done : List Bool) → IsMade p d0 d1 d2 allowed r0 r1 done → IsPlanBehind p d0 d2 done
by_calls p d0 d1 d2 allowed r0 r1 done made =
    let r1_is : r1 ≡ repairs_behind p d0 =
    made.repairs_are ∙ ap (with_all_wanted p.cache.held p.queue) (made.unrepaired ∙ ap (λ (l : List Allowance). record { draft = d0; allowances = l; done = [] }) made.allowed_is) in
    record {
      draft_is = made.end_is ∙ ap (with_all_forgotten p.config p.queue p.table.known) (made.draft_is ∙ ap (λ (r : Repaired). r.draft) r1_is);
      done_is = made.done_is ∙ ap (λ (r : Repaired). r.done) r1_is;
    }

-- behind the runs themselves
pub plan_is : (p : Parts) (d0 d2 : Drafted) (done : List Bool) (a : Answered) (steps : List Step) → d0 ≡ drafted_runs p → IsPlanBehind p d0 d2 done → a ≡ answered d2.notes d2.orders → AreStepsOf steps a
    → (a ≡ planned_answer p) × (done ≡ planned_flags p) × AreStepsOf steps (planned_answer p)
plan_is p d0 d2 done a steps runs behind_them answer_is steps_do =
    let d2_is : d2 ≡ drafted_tick p = behind_them.draft_is ∙ ap (tick_behind p) runs in
    let whole : a ≡ planned_answer p = answer_is ∙ ap (λ (d : Drafted). answered d.notes d.orders) d2_is in
    (whole, behind_them.done_is ∙ ap (λ (d : Drafted). (repairs_behind p d).done) runs, subst (AreStepsOf steps) whole steps_do)

-- behind a draft with no notes, where those of the runs were only counted
pub work_is : (p : Parts) (count : Counted) (d2 : Drafted) (done : List Bool) (a : Answered) (rest steps : List Step) → IsCountOf count (drafted_runs p) → IsPlanBehind p (new_draft count.left) d2 done → a ≡ answered d2.notes d2.orders
    → AreStepsOf rest a → steps ≡ count.steps ++ rest → (done ≡ planned_flags p) × AreStepsOf steps (planned_answer p)
work_is p count d2 done a rest steps counts behind_them answer_is rest_do steps_are =
    let runs = drafted_runs p in
    let split = rest_of p runs in
    let d2_is : d2 ≡ tick_behind p (new_draft runs.left) = behind_them.draft_is ∙ ap (λ (n : ℕ). tick_behind p (new_draft n)) counts.left_is in
    let whole : planned_answer p ≡ answered (runs.notes ++ d2.notes) (runs.orders ++ d2.orders) =
    ap (λ (d : Drafted). answered d.notes d.orders) (split.draft_is ∙ ap (behind runs) (sym d2_is)) in
    let do_all = steps_behind count.steps rest runs.notes d2.notes runs.orders d2.orders counts.in_step (subst (AreStepsOf rest) answer_is rest_do) in (
      behind_them.done_is ∙ (ap (λ (n : ℕ). (repairs_behind p (new_draft n)).done) counts.left_is ∙ sym split.done_is),
      subst (λ (l : List Step). AreStepsOf l (planned_answer p)) (sym steps_are) (subst (AreStepsOf (count.steps ++ rest)) (sym whole) do_all),
    )
