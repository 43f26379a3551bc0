-- The plan of a tick is the lawful answer to it.
use Rattle.std.proofs.Common.{◌≡◌, ℕ, ◌+◌, ◌<◌, min, Bool, true, false, List, [], ◌∷◌, map, Option, Some, None, is_some, refl, ap, sym, ◌∙◌, subst, arith, eqb, filter, All}
use Rattle.std.specs.Option.{option_map}
use Rattle.std.specs.List.{list_any, AllByRecursion as Each}
use Rattle.std.specs.Map.{keys_of, lookup}
use Rattle.std.specs.BTreeMap.{is_at}
use Rattle.std.specs.Ordering.{nat_cmp}
use Rattle.std.proofs.lemmas.Bool.{cond_both, cond-true, cond-false, both_ways, or_from, or_parts, ne_eqb, false≢true}
use Rattle.std.proofs.lemmas.Bool.Decides.{nat_tests}
use Rattle.std.proofs.lemmas.List.Elements.{All-head, All-tail}
use Rattle.rams_model.specs.declared.{Event.Event, Held.Held, Note.Note, Event.TheVariants.Tick}
use Rattle.rams_model.specs.declared.Note.TheVariants.{Burst as BurstNote, End}
use Rattle.rams_model.specs.Service.{Settings, tick, heard_of, began, noted, History, arrivals, hold, as_tick_began, known, opened, is_among, sendings, in_tick, open_burst, has_open, Wanted, pending, idle, sent_now, budget_of, channel_left, all_served, all_repaired, all_forgotten, after_tick, bursts_served, repairs_sent, idle_forgotten, newest_notes, newest_orders, answered, after_hearing, history_of, answer}
use Rattle.rams_model.specs.Packets.{Arrival, stream_of}
use Rattle.rams_model.specs.Packets.Source as sources
use Rattle.rams_model.specs.Service.Bursts as model
use Rattle.rams_model.proofs.ListFacts.{each_weaker}
use Rattle.client_table.specs.declared.{Burst.Burst, Entry.Entry}
use Rattle.client_table.specs.{entry_of}
use Rattle.client_table.proofs.ChangedAll.{same_key}
use Rattle.reckoning.specs.link_budget.Amounts.{Amounts}
use Rattle.repair_queue.specs.{IsWithinLimits}
use Rattle.channel_parts.specs.declared.Parts.{Parts}
use Rattle.channel_parts.specs.{burst_kept, IsEntry, StandsFor}
use Rattle.channel_parts.proofs.Given.{held_is as held_are}
use Rattle.tick_draft.specs.{new_draft}
use Rattle.tick_core.specs.{allowances_of, Repaired, Rise, clients_of, idle_after, begun_left, drafted_runs, repairs_behind, drafted_tick, planned_answer, planned_flags, is_over}
use Rattle.tick_core.proofs.Sparing.{GoesOn, then, kept as kept_by, spares, serves, known_kept, arrivals_kept}
use Rattle.tick_core.proofs.Walking.{whose_all}
use Rattle.tick_core.proofs.Shown.{Shows}
use Rattle.tick_core.proofs.Serving.{IsReady, AreAlike, AreBothAlike, cap_by, tick_open}
use Rattle.tick_core.proofs.Rounds.{RunPasses, RepairPasses, all_served_on, all_repaired_on, run_serves, repair_serves, serve_all, only_open}
use Rattle.tick_core.proofs.Mending.{IsMended, mend_all}
use Rattle.tick_core.proofs.Idling.{IsServedIn, none_runs, none_repairs, idle_is, forget_all}
use Rattle.tick_core.proofs.Flags.{all_served_end_none, forgotten_end_none, flags_say, limits_differ}

-- ---- what is kept of a client as a tick begins
alike : (s : Settings) (burst : Option Burst) (o : Option model.Burst) → burst ≡ option_map (burst_kept s) o → AreBothAlike burst (option_map (in_tick s) o)
alike s None None is = tt
alike s None (Some b) is = absurd cc
alike s (Some eb) None is = absurd cc
alike s (Some eb) (Some b) is =
    let same : eb ≡ burst_kept s b = cc in
    subst (λ (x : Burst). AreAlike x (in_tick s b)) (sym same) (record { next_is = refl; stop_is = refl; ticks_is = refl; left_is = refl; last_is = refl })

cap_alike : (s : Settings) (burst : Option Burst) (o : Option model.Burst) → burst ≡ option_map (burst_kept s) o → budget_of s (option_map (in_tick s) o) ≡ cap_by s burst
cap_alike s burst None is = ap (cap_by s) (sym is)
cap_alike s burst (Some b) is = ap (cap_by s) (sym is)

ready : (s : Settings) (k : ℕ) (history : History) (e : Entry) → IsEntry s k history e → IsReady s k (began tick ∷ history) e
unfolding sendings as_tick_began sent_now
ready s k history e is = record {
  seq_is = sym is.seq_is;
  burst_is = subst (AreBothAlike e.burst) (sym (tick_open s k history)) (alike s e.burst (open_burst s k history) is.burst_is);
  cap_is = ap (budget_of s) (tick_open s k history) ∙ cap_alike s e.burst (open_burst s k history) is.burst_is;
  no_run = refl;
  no_repair = refl;
}

pub some_kept : (s : Settings) (burst : Option Burst) (o : Option model.Burst) → burst ≡ option_map (burst_kept s) o → is_some burst ≡ is_some o
some_kept s burst None is = ap is_some is
some_kept s burst (Some b) is = ap is_some is

-- each known client is found in the table
other_key : (k j : ℕ) → j < k → is_at (nat_cmp k) j ≡ false
other_key k j h = grind (arith, nat_tests)

module _ {X : Type 0} where
  found_behind : (x : ℕ × X) (es whole : List (ℕ × X)) → Each (λ j. x.0 < j) (keys_of es) → Each (λ e. lookup (is_at (nat_cmp e.0)) whole ≡ Some e.1) es → Each (λ e. lookup (is_at (nat_cmp e.0)) (x ∷ whole) ≡ Some e.1) es
  found_behind x [] whole above found = tt
  found_behind x (e ∷ es) whole above found =
      (cond-false (is_at (nat_cmp e.0) x.0) (Some x.1) (lookup (is_at (nat_cmp e.0)) whole) (other_key e.0 x.0 above.0) ∙ found.0, found_behind x es whole above.1 found.1)

  pub each_found : (es : List (ℕ × X)) → Rise (keys_of es) → Each (λ e. lookup (is_at (nat_cmp e.0)) es ≡ Some e.1) es
  each_found [] rise = tt
  each_found (e ∷ es) rise =
      (cond-true (is_at (nat_cmp e.0) e.0) (Some e.1) (lookup (is_at (nat_cmp e.0)) es) (same_key e.0), found_behind e es es rise.0 (each_found es rise.1))

-- ---- lists
each_from_all : {X : Type 0} (P : X → Type 0) (xs : List X) → All P xs → Each P xs
each_from_all P [] all = tt
each_from_all P (x ∷ xs) all = (All-head P x xs all, each_from_all P xs (All-tail P x xs all))

each_any : {X : Type 0} (P : X → Type 0) → ((x : X) → P x) → (xs : List X) → Each P xs
each_any P f [] = tt
each_any P f (x ∷ xs) = (f x, each_any P f xs)

same_map : {X Y : Type 0} (f g : X → Y) → ((x : X) → f x ≡ g x) → (xs : List X) → map f xs ≡ map g xs
same_map f g same [] = refl
same_map f g same (x ∷ xs) = ap (λ y. y ∷ map f xs) (same x) ∙ ap (λ l. g x ∷ l) (same_map f g same xs)

-- ---- the history of a tick
-- the notes of runs
abbrev of_runs : Note → Bool
of_runs (BurstNote client n seq) = true
of_runs (End client cause) = true
of_runs _ = false

pending_step : (note : Note) (packet : Option Held) (later : History) → of_runs note ≡ true → pending (noted note packet ∷ later) ≡ pending later
unfolding pending
pending_step (BurstNote client n seq) packet later h = refl
pending_step (End client cause) packet later h = refl
pending_step note packet later h = absurd (false≢true h)

hold_same : (s : Settings) (a b : History) → arrivals b ≡ arrivals a → hold s b ≡ hold s a
hold_same s a b same = ap (λ (l : List Arrival). sources.hold s.channel.window s.channel.ring (stream_of s.channel.window l)) same

-- the parts of a tick, where all known clients are served in place of those with an open burst
pub record IsTickOf (s : Settings) (before : History) (held : List Held) (ks : List ℕ) (ws : List Wanted) (after_runs after_repairs : History) : Type 0 where
  pub runs_are : after_runs ≡ all_served s held ks (began tick ∷ before)
  pub repairs_are : after_repairs ≡ all_repaired s held ws after_runs
  pub end_is : after_tick s (began tick ∷ before) ≡ all_forgotten s ks after_repairs
  pub served : IsServedIn s before after_repairs

still_some : (s : Settings) (k : ℕ) (history : History) → has_open s k history ≡ has_open s k (began tick ∷ history)
still_some s k history = sym (ap is_some (tick_open s k history) ∙ mapped (open_burst s k history))
  where
    mapped : (o : Option model.Burst) → is_some (option_map (in_tick s) o) ≡ is_some o
    mapped None = refl
    mapped (Some b) = refl

-- one that fails the test isn't among those that pass
not_passed : (p : ℕ → Bool) (k : ℕ) (ks : List ℕ) → p k ≡ false → is_among k (filter p ks) ≡ false
not_passed p k [] fails = refl
not_passed p k (j ∷ js) fails =
    cond_both (p j) (j ∷ filter p js) (filter p js) (λ l. is_among k l ≡ false)
    (λ t. or_from (eqb j k) (is_among k (filter p js)) (ne_eqb j k (λ e. both_ways (p k) fails (sym (ap p e) ∙ t))) (not_passed p k js fails))
    (λ f. not_passed p k js fails)

pub tick_is : (s : Settings) (before : History) (held : List Held) (ks : List ℕ) → Rise ks → ks ≡ known before → held ≡ hold s before → opened before ≡ filter (λ k. has_open s k before) (known before)
    → let runs = all_served s held ks (began tick ∷ before) in
    IsTickOf s before held ks (pending before) runs (all_repaired s held (pending before) runs)
unfolding arrivals opened pending known after_tick
tick_is s before held ks rise known_is held_is opened_is =
    let p : ℕ → Bool = λ k. has_open s k before in
    let start = began tick ∷ before in
    let runs = all_served s held ks start in
    let few = all_served s held (filter p ks) start in
    let reps = all_repaired s held (pending before) runs in
    let same_runs : few ≡ runs = only_open s held p ks start rise (each_any (λ k. p k ≡ has_open s k start) (λ k. still_some s k before) ks) in
    let served : bursts_served s start ≡ runs =
    ap (λ (l : List Held). all_served s l (opened before) start) (sym held_is)
    ∙ (ap (λ (l : List ℕ). all_served s held l start) (opened_is ∙ ap (filter p) (sym known_is)) ∙ same_runs) in
    let on_runs : GoesOn serves start runs = all_served_on serves s held ks start (each_any (RunPasses serves) run_serves ks) in
    let on_reps : GoesOn serves runs reps = all_repaired_on serves s held (pending before) runs (each_any (λ w. RepairPasses serves w.client) (λ w. repair_serves w.client) (pending before)) in
    let held_runs : hold s runs ≡ held = hold_same s start runs (arrivals_kept serves start runs on_runs) ∙ sym held_is in
    let pending_runs : pending runs ≡ pending before = kept_by (List Wanted) pending of_runs pending_step start runs (all_served_on of_runs s held ks start (each_any (RunPasses of_runs) (λ k. record { sends = λ n seq. refl; ends = λ cause. refl }) ks)) in
    let repaired : repairs_sent s runs ≡ reps = ap (λ (l : List Held). all_repaired s l (pending runs) runs) held_runs ∙ ap (λ (l : List Wanted). all_repaired s held l runs) pending_runs in
    let all_known : known reps ≡ ks = known_kept start reps (then serves start runs reps on_runs on_reps) ∙ sym known_is in
    record {
      runs_are = refl;
      repairs_are = refl;
      end_is = ap (λ (h : History). idle_forgotten s (repairs_sent s h)) served ∙ (ap (idle_forgotten s) repaired ∙ ap (λ (l : List ℕ). all_forgotten s l reps) all_known);
      served = record {
        serve = then serves start runs reps on_runs on_reps;
        spare = λ k not_busy.
            let parts = or_parts (has_open s k before) (list_any (λ w. eqb w.client k) (pending before)) not_busy in
            then (spares k) start runs reps
            (subst (GoesOn (spares k) start) same_runs (all_served_on (spares k) s held (filter p ks) start (none_runs k (filter p ks) (not_passed p k ks parts.0))))
            (all_repaired_on (spares k) s held (pending before) runs (none_repairs k (pending before) parts.1));
      };
    }

-- ---- what is planned
-- what the channel's budget has left as the tick begins
left_begun : (p : Parts) (events : List Event) → StandsFor p events → begun_left p ≡ channel_left p.config (began tick ∷ history_of p.config events)
unfolding channel_left
left_begun p events stands = ap (λ (a : Amounts). a.share + min a.swell a.left) stands.budget

pub record IsPlanned (p : Parts) (events : List Event) : Type 0 where
  pub answer_is : planned_answer p ≡ answer p.config events Tick
  pub done_is : planned_flags p ≡ map (is_over (drafted_tick p).notes) (pending (history_of p.config events))

pub planned : (p : Parts) (events : List Event) → StandsFor p events → let before = history_of p.config events in
    Rise (known before) → opened before ≡ filter (λ k. has_open p.config k before) (known before) → IsWithinLimits (pending before)
    → IsPlanned p events
unfolding history_of heard_of after_hearing newest_notes newest_orders
planned p events stands rise opened_is limits =
    let s = p.config in
    let before = history_of s events in
    let start = began tick ∷ before in
    let held = p.cache.held in
    let es = p.table.known in
    let ks = keys_of es in
    let ws = p.queue in
    let known_is : ks ≡ known before = stands.table.clients in
    let rising : Rise ks = subst Rise (sym known_is) rise in
    let held_is : held ≡ hold s before = held_are p events stands in
    let queue_is : ws ≡ pending before = stands.queue.pending_is in
    let found = each_found es rising in
    let entries : Each (λ e. IsEntry s e.0 before e.1) es = each_weaker (λ e. entry_of p.table e.0 ≡ Some e.1) (λ e. IsEntry s e.0 before e.1) (λ e is. stands.table.entries e.0 e.1 is) es found in
    let are_ready : Each (λ e. IsReady s e.0 start e.1) es = each_weaker (λ e. IsEntry s e.0 before e.1) (λ e. IsReady s e.0 start e.1) (λ e is. ready s e.0 before e.1 is) es entries in
    let begins : Shows s start (new_draft (begun_left p)) = record { notes = refl; orders = refl; left = sym (left_begun p events stands) } in
    let ran = serve_all s held es start (new_draft (begun_left p)) rising are_ready begins in
    let run_history = all_served s held ks start in
    let first : Repaired = record { draft = drafted_runs p; allowances = allowances_of s held es; done = [] } in
    let whose : clients_of (allowances_of s held es) ≡ ks = whose_all s held es in
    let among : Each (λ w. is_among w.client (clients_of (allowances_of s held es)) ≡ true) ws =
    subst (λ (l : List ℕ). Each (λ w. is_among w.client l ≡ true) ws) (sym (whose ∙ known_is)) (each_from_all (λ (w : Wanted). is_among w.client (known before) ≡ true) ws stands.queue.known_is) in
    let mended : IsMended s held (all_repaired s held ws run_history) (repairs_behind p (drafted_runs p)) =
    mend_all s held ws run_history first among (record { shows = ran.shows; allowed = ran.allowed; rise = subst Rise (sym whose) rising }) in
    let of_tick = tick_is s before held ks rising known_is held_is opened_is in
    let rep_history = all_repaired s held (pending before) run_history in
    let same_reps : all_repaired s held ws run_history ≡ rep_history = ap (λ (l : List Wanted). all_repaired s held l run_history) queue_is in
    let shown : Shows s rep_history (repairs_behind p (drafted_runs p)).draft = subst (λ (h : History). Shows s h (repairs_behind p (drafted_runs p)).draft) same_reps mended.shows in
    let idle_all : Each (λ e. idle_after ws e.0 e.1 ≡ idle s e.0 rep_history) es =
    each_weaker (λ e. IsEntry s e.0 before e.1) (λ e. idle_after ws e.0 e.1 ≡ idle s e.0 rep_history)
    (λ e is. idle_is s e.0 e.1 ws before rep_history of_tick.served queue_is (some_kept s e.1.burst (open_burst s e.0 before) is.burst_is) is.idle_is) es entries in
    let last : Shows s (all_forgotten s ks rep_history) (drafted_tick p) = forget_all s ws es rep_history (repairs_behind p (drafted_runs p)).draft idle_all shown in
    let whole : Shows s (after_tick s start) (drafted_tick p) = subst (λ (h : History). Shows s h (drafted_tick p)) (sym of_tick.end_is) last in
    let differ = limits_differ ws (subst IsWithinLimits (sym queue_is) limits) in
    let none : Each (λ v. is_over (drafted_runs p).notes v ≡ false) ws = each_any (λ v. is_over (drafted_runs p).notes v ≡ false) (λ v. all_served_end_none s held v es (new_draft (begun_left p))) ws in
    record {
      answer_is = sym (ap (λ (l : List Note). answered l (newest_orders s (after_tick s start) [])) whole.notes ∙ ap (answered (drafted_tick p).notes) whole.orders);
      done_is = flags_say held ws first differ none
          ∙ (same_map (is_over (repairs_behind p (drafted_runs p)).draft.notes) (is_over (drafted_tick p).notes) (λ v. sym (forgotten_end_none s ws v es (repairs_behind p (drafted_runs p)).draft)) ws ∙ ap (map (is_over (drafted_tick p).notes)) queue_is);
    }
