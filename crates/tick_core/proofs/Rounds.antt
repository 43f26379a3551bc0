-- All known clients are served, one after another.
use Rattle.std.proofs.Common.{◌≡◌, ℕ, ◌+◌, ◌-◌, ◌%◌, ◌<◌, Bool, true, List, [], ◌∷◌, Option, Some, None, is_some, refl, ap, sym, ◌∙◌, subst, arith, eqb, filter}
use Rattle.std.specs.List.{AllByRecursion as Each}
use Rattle.std.specs.Map.{keys_of}
use Rattle.std.proofs.lemmas.Bool.{cond_both, not_from_false, ne_eqb}
use Rattle.rams_model.specs.declared.{Held.Held, Cause.Cause, Note.Note}
use Rattle.rams_model.specs.declared.Cause.TheVariants.{Stopped, Lost, Limit}
use Rattle.rams_model.specs.declared.Note.TheVariants.{Burst as BurstNote, Repair, Gone, End}
use Rattle.rams_model.specs.Service.{Settings, noted, History, sequence, next, newest_open, open_burst, has_open, Wanted, sent_now, is_burst_of, is_repair_of, kept_from_repairs, budget_of, cap, may_take, run, send, is_lost, is_stop, after_run, burst_served, all_served, repaired, all_repaired}
use Rattle.rams_model.specs.Service.Bursts as model
use Rattle.rams_model.specs.Packets.{from_number}
use Rattle.rams_model.proofs.Turns.{none_open}
use Rattle.client_table.specs.declared.Entry.{Entry}
use Rattle.tick_core.specs.declared.allowance.Allowance.{Allowance}
use Rattle.tick_draft.specs.{Drafted}
use Rattle.tick_core.specs.{Rise, allowance_of, allowances_of, with_all_served}
use Rattle.tick_core.proofs.Sparing.{GoesOn, same, then, one, spares, serves, IsSpared, spared}
use Rattle.tick_core.proofs.Walking.{whose}
use Rattle.tick_core.proofs.Shown.{Shows}
use Rattle.tick_core.proofs.Serving.{IsAllowed, IsReady, AreBothAlike, serve_one}

-- ---- which notes are made
-- the notes of a run of this client pass a test
pub record RunPasses (test : Note → Bool) (k : ℕ) : Type 0 where
  pub sends : (n seq : ℕ) → test (BurstNote k n seq) ≡ true
  pub ends : (cause : Cause) → test (End k cause) ≡ true

send_on : (test : Note → Bool) (s : Settings) (k : ℕ) (hs : List Held) (history : History) → RunPasses test k → GoesOn test history (send s k hs history)
unfolding send
send_on test s k [] history passes = same
send_on test s k (h ∷ hs) history passes =
    let seq = sequence s k history in
    then test history (noted (BurstNote k h.n seq) (Some h) ∷ history) _ (one test (BurstNote k h.n seq) (Some h) history (passes.sends h.n seq)) (send_on test s k hs _ passes)

after_run_on : (test : Note → Bool) (s : Settings) (k : ℕ) (o : Option model.Burst) (history : History) → RunPasses test k → GoesOn test history (after_run s k o history)
after_run_on test s k None history passes = same
after_run_on test s k (Some b) history passes =
    cond_both (is_stop b.stop (next b)) _ _ (GoesOn test history) (λ t. one test (End k Stopped) None history (passes.ends Stopped))
    (λ f. cond_both (eqb b.ticks s.channel.limit) _ _ (GoesOn test history) (λ t. one test (End k Limit) None history (passes.ends Limit)) (λ g. same))

pub served_on : (test : Note → Bool) (s : Settings) (held : List Held) (k : ℕ) (o : Option model.Burst) (history : History) → RunPasses test k → GoesOn test history (burst_served s held k o history)
served_on test s held k None history passes = same
served_on test s held k (Some b) history passes =
    let hs = run b.stop (next b) b.left (from_number (next b) held) in
    cond_both (is_lost (next b) held) _ _ (GoesOn test history) (λ t. one test (End k Lost) None history (passes.ends Lost))
    (λ f. then test history (send s k hs history) _ (send_on test s k hs history passes) (after_run_on test s k (open_burst s k (send s k hs history)) (send s k hs history) passes))

pub all_served_on : (test : Note → Bool) (s : Settings) (held : List Held) (ks : List ℕ) (history : History) → Each (RunPasses test) ks → GoesOn test history (all_served s held ks history)
unfolding all_served
all_served_on test s held [] history passes = same
all_served_on test s held (k ∷ ks) history passes =
    then test history (burst_served s held k (open_burst s k history) history) _ (served_on test s held k (open_burst s k history) history passes.0) (all_served_on test s held ks _ passes.1)

-- the notes of a repair for this client pass a test
pub record RepairPasses (test : Note → Bool) (k : ℕ) : Type 0 where
  pub sends : (n seq : ℕ) → test (Repair k n seq) ≡ true
  pub drops : (n : ℕ) → test (Gone k n) ≡ true

pub repaired_on : (test : Note → Bool) (s : Settings) (held : List Held) (w : Wanted) (o : Option Held) (history : History) → RepairPasses test w.client → GoesOn test history (repaired s held w o history)
repaired_on test s held w None history passes = one test (Gone w.client w.n) None history (passes.drops w.n)
repaired_on test s held w (Some h) history passes =
    cond_both _ _ history (GoesOn test history) (λ t. one test (Repair w.client w.n (sequence s w.client history)) (Some h) history (passes.sends w.n (sequence s w.client history))) (λ f. same)

pub all_repaired_on : (test : Note → Bool) (s : Settings) (held : List Held) (ws : List Wanted) (history : History) → Each (λ w. RepairPasses test w.client) ws → GoesOn test history (all_repaired s held ws history)
unfolding all_repaired
all_repaired_on test s held [] history passes = same
all_repaired_on test s held (w ∷ ws) history passes = then test history _ _ (repaired_on test s held w _ history passes.0) (all_repaired_on test s held ws _ passes.1)

-- ---- other clients
pub run_spares : (k j : ℕ) → (k ≡ j → ⊥) → RunPasses (spares j) k
run_spares k j differ = record { sends = λ n seq. not_from_false (eqb k j) (ne_eqb k j differ); ends = λ cause. not_from_false (eqb k j) (ne_eqb k j differ) }

pub repair_spares : (k j : ℕ) → (k ≡ j → ⊥) → RepairPasses (spares j) k
repair_spares k j differ = record { sends = λ n seq. not_from_false (eqb k j) (ne_eqb k j differ); drops = λ n. not_from_false (eqb k j) (ne_eqb k j differ) }

pub run_serves : (k : ℕ) → RunPasses serves k
run_serves k = record { sends = λ n seq. refl; ends = λ cause. refl }

pub repair_serves : (k : ℕ) → RepairPasses serves k
repair_serves k = record { sends = λ n seq. refl; drops = λ n. refl }

-- ---- what a client's repairs may take isn't changed by the others
-- by the cap, what the runs took of it, the open burst, and what the repairs took
abbrev taking : Settings → List Held → ℕ → ℕ → Option model.Burst → ℕ → ℕ
taking s held most by_runs o by_repairs = (most - by_runs) - kept_from_repairs s held (most - by_runs) o - by_repairs

pub may_take_same : (s : Settings) (held : List Held) (k : ℕ) (a b : History) → IsSpared s k a b → may_take s held k b ≡ may_take s held k a
may_take_same s held k a b is =
    let runs = sent_now (is_burst_of k) in
    let repairs = sent_now (is_repair_of k) in
    ap (λ (h : History). taking s held (budget_of s (open_burst s k h)) (runs b) (open_burst s k b) (repairs b)) is.began_same
    ∙ (ap (λ (n : ℕ). taking s held (cap s k a) n (open_burst s k b) (repairs b)) is.by_burst_same
    ∙ (ap (λ (bs : List model.Burst). taking s held (cap s k a) (runs a) (newest_open bs) (repairs b)) is.bursts_same
    ∙ ap (λ (n : ℕ). taking s held (cap s k a) (runs a) (open_burst s k a) n) is.by_repair_same))

pub allowed_kept : (s : Settings) (held : List Held) (x : Allowance) (a b : History) → IsSpared s x.client a b → IsAllowed s held a x → IsAllowed s held b x
allowed_kept s held x a b is allowed = record {
  may_take_is = may_take_same s held x.client a b is ∙ allowed.may_take_is;
  seq_is = ap (λ (n : ℕ). (s.channel.seq0 + n) % 65536) is.sendings_same ∙ allowed.seq_is;
}

pub ready_kept : (s : Settings) (k : ℕ) (e : Entry) (a b : History) → IsSpared s k a b → IsReady s k a e → IsReady s k b e
ready_kept s k e a b is ready = record {
  seq_is = ap (λ (n : ℕ). (s.channel.seq0 + n) % 65536) is.sendings_same ∙ ready.seq_is;
  burst_is = subst (λ (bs : List model.Burst). AreBothAlike e.burst (newest_open bs)) (sym is.bursts_same) ready.burst_is;
  cap_is = ap (λ (h : History). budget_of s (open_burst s k h)) is.began_same ∙ ready.cap_is;
  no_run = is.by_burst_same ∙ ready.no_run;
  no_repair = is.by_repair_same ∙ ready.no_repair;
}

-- ---- all of them
abbrev AreReady : Settings → History → List (ℕ × Entry) → Type 0
AreReady s history es = Each (λ e. IsReady s e.0 history e.1) es

-- those above a client that is served stay ready
others_ready : (s : Settings) (held : List Held) (k : ℕ) (es : List (ℕ × Entry)) (history : History) → Each (λ j. k < j) (keys_of es) → AreReady s history es → AreReady s (burst_served s held k (open_burst s k history) history) es
others_ready s held k [] history above ready = tt
others_ready s held k (e ∷ es) history above ready =
    let on = served_on (spares e.0) s held k (open_burst s k history) history (run_spares k e.0 (λ same. omega (arith, above.0, same))) in
    (ready_kept s e.0 e.1 history (burst_served s held k (open_burst s k history) history) (spared s e.0 history _ on) ready.0, others_ready s held k es history above.1 ready.1)

-- those above a client are other clients
all_spare : (k : ℕ) (ks : List ℕ) → Each (λ j. k < j) ks → Each (RunPasses (spares k)) ks
all_spare k [] above = tt
all_spare k (j ∷ js) above = (run_spares j k (λ same. omega (arith, above.0, same)), all_spare k js above.1)

pub record AreServed (s : Settings) (held : List Held) (history : History) (d : Drafted) (allowances : List Allowance) : Type 0 where
  pub shows : Shows s history d
  pub allowed : Each (IsAllowed s held history) allowances

pub serve_all : (s : Settings) (held : List Held) (es : List (ℕ × Entry)) (history : History) (d : Drafted) → Rise (keys_of es) → AreReady s history es → Shows s history d
    → AreServed s held (all_served s held (keys_of es) history) (with_all_served s held es d) (allowances_of s held es)
unfolding all_served with_all_served allowances_of
serve_all s held [] history d rise ready shows = record { shows = shows; allowed = tt }
serve_all s held (e ∷ es) history d rise ready shows =
    let one = serve_one s held e.0 e.1 history d ready.0 shows in
    let after = burst_served s held e.0 (open_burst s e.0 history) history in
    let rest = serve_all s held es after _ rise.1 (others_ready s held e.0 es history rise.0 ready.1) one.shows in
    let on = all_served_on (spares e.0) s held (keys_of es) after (all_spare e.0 (keys_of es) rise.0) in
    record { shows = rest.shows; allowed = (allowed_kept s held (allowance_of s held e.0 e.1 e.1.burst) after _ (subst (λ (k : ℕ). IsSpared s k after (all_served s held (keys_of es) after)) (sym (whose s held e.0 e.1 e.1.burst)) (spared s e.0 after _ on)) one.allowed, rest.allowed) }

-- ---- those without an open burst need not be served
still_open : (s : Settings) (held : List Held) (p : ℕ → Bool) (k : ℕ) (ks : List ℕ) (history : History) → Each (λ j. k < j) ks → Each (λ j. p j ≡ has_open s j history) ks
    → Each (λ j. p j ≡ has_open s j (burst_served s held k (open_burst s k history) history)) ks
still_open s held p k [] history above are = tt
still_open s held p k (j ∷ js) history above are =
    let on = served_on (spares j) s held k (open_burst s k history) history (run_spares k j (λ same. omega (arith, above.0, same))) in
    (are.0 ∙ sym (ap (λ (bs : List model.Burst). is_some (newest_open bs)) (spared s j history _ on).bursts_same), still_open s held p k js history above.1 are.1)

pub only_open : (s : Settings) (held : List Held) (p : ℕ → Bool) (ks : List ℕ) (history : History) → Rise ks → Each (λ k. p k ≡ has_open s k history) ks
    → all_served s held (filter p ks) history ≡ all_served s held ks history
unfolding all_served
only_open s held p [] history rise are = refl
only_open s held p (k ∷ ks) history rise are =
    cond_both (p k) (k ∷ filter p ks) (filter p ks) (λ l. all_served s held l history ≡ all_served s held (k ∷ ks) history)
    (λ t. only_open s held p ks _ rise.1 (still_open s held p k ks history rise.0 are.1))
    (λ f. let none : open_burst s k history ≡ None = none_open (open_burst s k history) (sym are.0 ∙ f) in
    only_open s held p ks history rise.1 are.1 ∙ sym (ap (λ (o : Option model.Burst). all_served s held ks (burst_served s held k o history)) none))
