-- What the parts are after a tick, on the history.
use Rattle.std.proofs.Common.{◌≡◌, ℕ, ◌+◌, ◌^◌, ◌<◌, ◌≤◌, min, Bool, true, false, cond, not, ◌&&◌, ◌||◌, List, [], ◌∷◌, ◌++◌, length, map, Option, Some, None, refl, ap, sym, ◌∙◌, subst, arith, filter, All}
use Rattle.std.specs.Option.{option_map}
use Rattle.std.specs.Map.{keys_of}
use Rattle.std.proofs.lemmas.Bool.{cond-true, cond-false}
use Rattle.std.proofs.lemmas.List.Folds.{list_any-append}
use Rattle.std.proofs.lemmas.List.{length-map}
use Rattle.rams_model.specs.declared.{Event.Event, Held.Held, Note.Note, Event.TheVariants.Tick}
use Rattle.rams_model.specs.declared.Note.TheVariants.{Burst as BurstNote, Repair, Gone, End, Forgot}
use Rattle.rams_model.specs.Service.{Settings, tick, heard_of, began, noted, History, arrivals, hold, known, is_among, sendings, ssrc, in_tick, open_burst, Wanted, pending, idle, channel_left, all_served, all_repaired, all_forgotten, after_tick, newest_notes, Answered, after_hearing, history_of}
use Rattle.rams_model.specs.Packets.{Arrival, hi, stream_of}
use Rattle.rams_model.specs.Packets.Source as sources
use Rattle.rams_model.specs.Service.Bursts as model
use Rattle.rams_model.proofs.Newest.{notes_behind}
use Rattle.reckoning.specs.link_budget.{amounts}
use Rattle.reckoning.specs.link_budget.Amounts.{Amounts}
use Rattle.client_table.specs.declared.{Burst.Burst, Entry.Entry}
use Rattle.client_table.specs.{entry_of}
use Rattle.client_table.specs.Clients.{Clients}
use Rattle.repair_queue.specs.{unmarked}
use Rattle.channel_parts.specs.declared.Parts.{Parts}
use Rattle.channel_parts.specs.{burst_kept, IsEntry, IsTable, StandsFor}
use Rattle.channel_parts.proofs.Facts.{known_clients_are_idle_for_less, opened_are_the_known_with_bursts, only_known_clients_have_bursts, repairs_are_of_known_clients, events_reserve_nothing}
use Rattle.channel_parts.proofs.Ordered.{known_rise}
use Rattle.channel_parts.proofs.Tables.{entry_among}
use Rattle.channel_parts.proofs.Given.{held_is, moment}
use Rattle.channel_parts.proofs.Staying.{cache_stays}
use Rattle.tick_core.specs.declared.plan.TickPlan.{TickPlan}
use Rattle.tick_draft.specs.{opened_for_tick, entry_begun, burst_ended, entry_ended, AreAllChanged, committing, with_all_committed, MayCommitAll}
use Rattle.tick_core.specs.{begun_left, ends_wait, is_over, IsPlanFor, Rise}
use Rattle.tick_draft.specs.Committed.{Committed}
use Rattle.tick_core.proofs.Serving.{tick_open}
use Rattle.tick_core.proofs.Idling.{idle_counted}
use Rattle.tick_core.proofs.Planning.{tick_is}
use Rattle.tick_core.proofs.Safe.{in_order}
use Rattle.tick_core.proofs.Adding.{Fits, Adds, none, plus, then, all_served_adds, all_repaired_adds, all_forgotten_adds, steps}
use Rattle.tick_core.proofs.Midway.{shown, IsMidEntry, IsMid, IsCarriedOut, all_mid, mapped_some}

-- ---- an entry as a tick begins
begun_shown : (s : Settings) (burst : Option Burst) (o : Option model.Burst) → burst ≡ option_map (burst_kept s) o → option_map opened_for_tick burst ≡ option_map shown (option_map (in_tick s) o)
begun_shown s burst None is = ap (option_map opened_for_tick) is
begun_shown s burst (Some b) is = ap (option_map opened_for_tick) is

entry_begins : (s : Settings) (k : ℕ) (before : History) (e : Entry) → IsEntry s k before e → idle s k before < 4294967295 → IsMidEntry s k (began tick ∷ before) (entry_begun e)
unfolding ssrc sendings
entry_begins s k before e is small = record {
  ssrc_is = is.ssrc_is;
  seq_is = is.seq_is;
  idle_is = idle_counted s k e.idle before is.idle_is small;
  burst_is = begun_shown s e.burst (open_burst s k before) is.burst_is ∙ ap (option_map shown) (sym (tick_open s k before));
}

-- no known client was idle for long
idle_small : (p : Parts) (events : List Event) (k : ℕ) (e : Entry) → StandsFor p events → entry_of p.table k ≡ Some e → idle p.config k (history_of p.config events) < 4294967295
idle_small p events k e stands found =
    let is_known : is_among k (known (history_of p.config events)) ≡ true = ap (is_among k) (sym stands.table.clients) ∙ entry_among p.table k e found in
    omega (arith, known_clients_are_idle_for_less p.config k events stands.lawful is_known, stands.lawful.idle_most)

mid_begins : (p : Parts) (events : List Event) (c : Committed) → StandsFor p events
    → AreAllChanged (λ _. entry_begun) p.table c.table → c.budget ≡ record p.budget { left = begun_left p } → IsMid p.config (began tick ∷ history_of p.config events) c
unfolding known channel_left
mid_begins p events c stands change budget =
    let s = p.config in
    let before = history_of s events in
    record {
      most = change.most ∙ stands.table.most;
      clients = change.clients ∙ stands.table.clients;
      entries = λ k e found.
          let x = mapped_some entry_begun (entry_of p.table k) e (sym (change.entries k) ∙ found) in
          subst (IsMidEntry s k (began tick ∷ before)) x.2 (entry_begins s k before x.0 (stands.table.entries k x.0 x.1) (idle_small p events k x.0 stands x.1));
      others = λ k out. tick_open s k before ∙ ap (option_map (in_tick s)) (stands.table.others k out);
      budget = budget ∙ (ap (λ (a : Amounts). record a { left = a.share + min a.swell a.left }) stands.budget
          ∙ ap (λ (r : ℕ). amounts s.channel.share s.channel.reserve s.channel.swell r (s.channel.share + min s.channel.swell (channel_left s before))) (sym (events_reserve_nothing s tick before)));
    }

-- ---- an entry as it ends
ended_shown : (s : Settings) (burst : Option Burst) (o : Option model.Burst) → burst ≡ option_map shown o → option_map (burst_ended s.channel.depth) burst ≡ option_map (burst_kept s) o
ended_shown s burst None is = ap (option_map (burst_ended s.channel.depth)) is
ended_shown s burst (Some b) is = ap (option_map (burst_ended s.channel.depth)) is

table_ends : (s : Settings) (end : History) (c : Committed) (table : Clients) → IsMid s end c → ((k : ℕ) → is_among k (known end) ≡ false → open_burst s k end ≡ None)
    → AreAllChanged (λ k. entry_ended s.channel.depth) c.table table → IsTable s end table
table_ends s end c table mid others change = record {
  most = change.most ∙ mid.most;
  clients = change.clients ∙ mid.clients;
  entries = λ k e found.
      let x = mapped_some (entry_ended s.channel.depth) (entry_of c.table k) e (sym (change.entries k) ∙ found) in
      let is = mid.entries k x.0 x.1 in
      subst (IsEntry s k end) x.2 (record {
        ssrc_is = is.ssrc_is;
        seq_is = is.seq_is;
        idle_is = is.idle_is;
        burst_is = ended_shown s x.0.burst (open_burst s k end) is.burst_is;
      });
  others = others;
}

-- ---- the repairs that wait on
twice : (p : Wanted → Bool) (b c d : Bool) (w : Wanted) (l m : List Wanted) → p w ≡ c → d ≡ (b && c) → filter p l ≡ m → filter p (cond b (w ∷ l) l) ≡ cond d (w ∷ m) m
twice p true true d w l m is same rest = cond-true (p w) (w ∷ filter p l) (filter p l) is ∙ (ap (λ (x : List Wanted). w ∷ x) rest ∙ sym (cond-true d (w ∷ m) m same))
twice p true false d w l m is same rest = cond-false (p w) (w ∷ filter p l) (filter p l) is ∙ (rest ∙ sym (cond-false d (w ∷ m) m same))
twice p false c d w l m is same rest = rest ∙ sym (cond-false d (w ∷ m) m same)

filter_twice : (p q r : Wanted → Bool) → ((w : Wanted) → r w ≡ (q w && p w)) → (ws : List Wanted) → filter p (filter q ws) ≡ filter r ws
filter_twice p q r same [] = refl
filter_twice p q r same (w ∷ ws) = twice p (q w) (p w) (r w) w (filter q ws) (filter r ws) refl (same w) (filter_twice p q r same ws)

filter_all : (ws : List Wanted) → filter (λ w. true) ws ≡ ws
filter_all [] = refl
filter_all (w ∷ ws) = ap (λ (l : List Wanted). w ∷ l) (filter_all ws)

over_next : (notes : List Note) (note : Note) (w : Wanted) → not (is_over (notes ++ note ∷ []) w) ≡ (not (is_over notes w) && not (ends_wait w note))
over_next notes note w = ap not (list_any-append (ends_wait w) notes (note ∷ [])) ∙ not_or (is_over notes w) (ends_wait w note)
  where
    not_or : (b c : Bool) → not (b || (c || false)) ≡ (not b && not c)
    not_or true c = refl
    not_or false true = refl
    not_or false false = refl

pending_step : (s : Settings) (held : List Held) (note : Note) (packet : Option Held) (later : History) → Fits s held note packet later → pending (noted note packet ∷ later) ≡ filter (λ w. not (ends_wait w note)) (pending later)
unfolding pending
pending_step s held (BurstNote k n seq) packet later fits = sym (filter_all (pending later))
pending_step s held (Repair k n seq) packet later fits = refl
pending_step s held (Gone k n) packet later fits = refl
pending_step s held (End k cause) packet later fits = sym (filter_all (pending later))
pending_step s held (Forgot k) packet later fits = sym (filter_all (pending later))
pending_step s held note packet later fits = absurd fits

pub pending_by : (s : Settings) (held : List Held) (a b : History) → newest_notes a [] ≡ [] → Adds s held a b → pending b ≡ filter (λ w. not (is_over (newest_notes b []) w)) (pending a)
unfolding newest_notes
pending_by s held a _ start none = sym (ap (λ (ns : List Note). filter (λ w. not (is_over ns w)) (pending a)) start ∙ filter_all (pending a))
pending_by s held a _ start (plus note packet later fits on) =
    let notes = newest_notes later [] in
    pending_step s held note packet later fits
    ∙ (ap (filter (λ w. not (ends_wait w note))) (pending_by s held a later start on)
    ∙ (filter_twice (λ w. not (ends_wait w note)) (λ w. not (is_over notes w)) (λ w. not (is_over (notes ++ note ∷ []) w)) (over_next notes note) (pending a)
    ∙ ap (λ (ns : List Note). filter (λ w. not (is_over ns w)) (pending a)) (sym (notes_behind later (note ∷ [])))))

-- those whose flag isn't set
pub unmarked_by : (f : Wanted → Bool) (ws : List Wanted) → unmarked ws (map f ws) ≡ filter (λ w. not (f w)) ws
unmarked_by f [] = refl
unmarked_by f (w ∷ ws) = marked_step (f w) w ws (map f ws) (filter (λ w. not (f w)) ws) (unmarked_by f ws)
  where
    marked_step : (b : Bool) (w : Wanted) (ws : List Wanted) (done : List Bool) (l : List Wanted) → unmarked ws done ≡ l → unmarked (w ∷ ws) (b ∷ done) ≡ cond (not b) (w ∷ l) l
    marked_step true w ws done l e = e
    marked_step false w ws done l e = ap (λ (x : List Wanted). w ∷ x) e

-- ---- the whole tick
arrivals_by : (s : Settings) (held : List Held) (a b : History) → Adds s held a b → arrivals b ≡ arrivals a
unfolding arrivals
arrivals_by s held a _ none = refl
arrivals_by s held a _ (plus note packet later fits on) = arrivals_by s held a later on

-- what a tick's history is to the parts before it
pub record IsTick (p : Parts) (events : List Event) (end : History) : Type 0 where
  pub end_is : end ≡ history_of p.config (Tick ∷ events)
  pub adds : Adds p.config p.cache.held (began tick ∷ history_of p.config events) end

pub is_tick : (p : Parts) (events : List Event) → StandsFor p events → IsTick p events (history_of p.config (Tick ∷ events))
unfolding history_of heard_of after_hearing
is_tick p events stands =
    let s = p.config in
    let before = history_of s events in
    let start = began tick ∷ before in
    let held = p.cache.held in
    let ks = keys_of p.table.known in
    let known_is : ks ≡ known before = stands.table.clients in
    let rise : Rise ks = subst Rise (sym known_is) (known_rise before) in
    let of_tick = tick_is s before held ks rise known_is (held_is p events stands) (opened_are_the_known_with_bursts s events stands.lawful) in
    let run_history = all_served s held ks start in
    let rep_history = all_repaired s held (pending before) run_history in
    let end = after_tick s start in
    let follows = (in_order p events stands).follows in
    let all : Adds s held start (all_forgotten s ks rep_history) =
    then s held start run_history _ (all_served_adds s held ks start follows)
    (then s held run_history rep_history _ (all_repaired_adds s held (pending before) run_history) (all_forgotten_adds s held ks rep_history stands.lawful.idle_least)) in
    record {
      end_is = refl;
      adds = subst (Adds s held start) (sym of_tick.end_is) all;
    }

-- the flags of a plan, by its own notes
done_of : (p : Parts) (events : List Event) (plan : TickPlan) → IsPlanFor p events plan → plan.work.done.items ≡ map (is_over plan.answer.notes) (pending (history_of p.config events))
done_of p events plan is = is.work_is.done_is ∙ ap (λ (a : Answered). map (is_over a.notes) (pending (history_of p.config events))) (sym is.answer_is)

-- the notes of a plan are carried out
pub carried_out : (p : Parts) (events : List Event) (plan : TickPlan) (c : Committed) → StandsFor p events → IsPlanFor p events plan → AreAllChanged (λ _. entry_begun) p.table c.table
    → c.budget ≡ record p.budget { left = begun_left p } → let end = history_of p.config (Tick ∷ events) in IsCarriedOut p.config p.cache.held plan.answer.notes end c
unfolding newest_notes arrivals
carried_out p events plan c stands is change budget =
    let s = p.config in
    let held = p.cache.held in
    let before = history_of s events in
    let start = began tick ∷ before in
    let end = history_of s (Tick ∷ events) in
    let of_tick = is_tick p events stands in
    let taken = steps s held start end of_tick.adds in
    let notes_are : taken.notes ≡ plan.answer.notes = sym (ap (λ (a : Answered). a.notes) is.answer_is ∙ taken.noted_are) in
    let same : arrivals end ≡ arrivals before = arrivals_by s held start end of_tick.adds in
    let small : hi (hold s end) ≤ 2 ^ 62 =
    subst (λ (hs : List Held). hi hs ≤ 2 ^ 62) (held_is p events stands ∙ ap (λ (l : List Arrival). sources.hold s.channel.window s.channel.ring (stream_of s.channel.window l)) (sym same)) stands.packets.small in
    let begins = mid_begins p events c stands change budget in
    subst (λ (notes : List Note). IsCarriedOut s held notes end c) notes_are
    (all_mid s stands.lawful held taken.notes start end c taken.leads (moment s (Tick ∷ events)) small begins)

-- the parts after it
pub committed : (p : Parts) (events : List Event) (plan : TickPlan) (c : Committed) (table : Clients) (budget : Amounts) (queue : List Wanted) → StandsFor p events → IsPlanFor p events plan
    → AreAllChanged (λ _. entry_begun) p.table c.table → c.budget ≡ record p.budget { left = begun_left p }
    → let after = with_all_committed p.config p.cache.held plan.answer.notes c in
    AreAllChanged (λ k. entry_ended p.config.channel.depth) after.table table → budget ≡ after.budget → queue ≡ unmarked p.queue plan.work.done.items
    → StandsFor (record { config = p.config; cache = p.cache; budget = budget; queue = queue; table = table }) (Tick ∷ events)
unfolding newest_notes arrivals pending
committed p events plan c table budget queue stands is change budget_begun change_end budget_is queue_is =
    let s = p.config in
    let held = p.cache.held in
    let before = history_of s events in
    let start = began tick ∷ before in
    let end = history_of s (Tick ∷ events) in
    let of_tick = is_tick p events stands in
    let out = carried_out p events plan c stands is change budget_begun in
    let same : arrivals end ≡ arrivals before = arrivals_by s held start end of_tick.adds in
    let notes_are : newest_notes end [] ≡ plan.answer.notes = sym (ap (λ (a : Answered). a.notes) is.answer_is) in
    let pending_is : queue ≡ pending end =
    queue_is
    ∙ (ap (unmarked p.queue) (done_of p events plan is)
    ∙ (ap (λ (ws : List Wanted). unmarked p.queue (map (is_over plan.answer.notes) ws)) (sym stands.queue.pending_is)
    ∙ (unmarked_by (is_over plan.answer.notes) p.queue
    ∙ (ap (filter (λ w. not (is_over plan.answer.notes w))) stands.queue.pending_is
    ∙ (ap (λ (ns : List Note). filter (λ w. not (is_over ns w)) (pending before)) (sym notes_are) ∙ sym (pending_by s held start end refl of_tick.adds)))))) in
    record {
      lawful = stands.lawful;
      packets = cache_stays s before end p.cache same stands.packets;
      table = table_ends s end (with_all_committed s held plan.answer.notes c) table out.mid (only_known_clients_have_bursts s (Tick ∷ events) stands.lawful) change_end;
      queue = record {
        pending_is = pending_is;
        known_is = subst (All (λ (w : Wanted). is_among w.client (known end) ≡ true)) (sym pending_is) (repairs_are_of_known_clients s end stands.lawful (moment s (Tick ∷ events)));
      };
      budget = budget_is ∙ out.mid.budget;
    }

-- ---- as the calls make it
pub may_carry_out : (p : Parts) (events : List Event) (plan : TickPlan) (notes : List Note) (table : Clients) (budget : Amounts) → StandsFor p events → IsPlanFor p events plan → notes ≡ plan.answer.notes
    → AreAllChanged (λ _. entry_begun) p.table table → budget ≡ record p.budget { left = begun_left p } → MayCommitAll p.config p.cache.held notes (committing table budget)
may_carry_out p events plan notes table budget stands is notes_are change begun =
    subst (λ (l : List Note). MayCommitAll p.config p.cache.held l (committing table budget)) (sym notes_are) (carried_out p events plan (committing table budget) stands is change begun).may

pub flags_long : (p : Parts) (events : List Event) (plan : TickPlan) (done : List Bool) → StandsFor p events → IsPlanFor p events plan → done ≡ plan.work.done.items → length done ≡ length p.queue
flags_long p events plan done stands is same =
    ap length (same ∙ ((done_of p events plan is) ∙ ap (map (is_over plan.answer.notes)) (sym stands.queue.pending_is))) ∙ length-map p.queue (is_over plan.answer.notes)

pub made_parts : (p : Parts) (events : List Event) (plan : TickPlan) (notes : List Note) (done : List Bool) (table0 table1 table2 : Clients) (budget0 budget1 : Amounts) (queue : List Wanted) (depth : ℕ) → StandsFor p events → IsPlanFor p events plan
    → notes ≡ plan.answer.notes → done ≡ plan.work.done.items → depth ≡ p.config.channel.depth
    → AreAllChanged (λ _. entry_begun) p.table table0 → budget0 ≡ record p.budget { left = begun_left p }
    → committing table1 budget1 ≡ with_all_committed p.config p.cache.held notes (committing table0 budget0) → AreAllChanged (λ k. entry_ended depth) table1 table2 → queue ≡ unmarked p.queue done
    → StandsFor (record { config = p.config; cache = p.cache; budget = budget1; queue = queue; table = table2 }) (Tick ∷ events)
made_parts p events plan notes done table0 table1 table2 budget0 budget1 queue depth stands is notes_are done_are depth_is change begun carried change_end settled =
    let c0 = committing table0 budget0 in
    let after = with_all_committed p.config p.cache.held plan.answer.notes c0 in
    let made : committing table1 budget1 ≡ after = carried ∙ ap (λ (l : List Note). with_all_committed p.config p.cache.held l c0) notes_are in
    let ends : AreAllChanged (λ k. entry_ended p.config.channel.depth) after.table table2 =
    subst (λ (c : Committed). AreAllChanged (λ k. entry_ended p.config.channel.depth) c.table table2) made (subst (λ (d : ℕ). AreAllChanged (λ k. entry_ended d) table1 table2) depth_is change_end) in
    committed p events plan c0 table2 budget1 queue stands is change begun ends (ap (λ (c : Committed). c.budget) made) (settled ∙ ap (unmarked p.queue) done_are)
