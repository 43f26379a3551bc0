-- A tick serves bursts by rising client, and repairs in the order in which they wait.
use Rattle.std.proofs.Common.{◌≡◌, ℕ, ◌+◌, ◌≤◌, Bool, true, false, cond, not, ◌&&◌, ◌||◌, ◌⊎◌, inl, inr, ⊎_elim, List, [], ◌∷◌, ◌++◌, Option, Some, None, refl, ap, sym, ◌∙◌, subst, arith, eqb, leb, ltb, append_assoc, append-nil}
use Rattle.std.specs.Prelude.{filter, find}
use Rattle.std.proofs.lemmas.Bool.{cases_Bool, cond_both, or_left, eqb-true, eq-eqb, ltb-true, ltb-false, true≢false}
use Rattle.rams_model.specs.declared.{Event.Event, Held.Held, Note.Note, Event.TheVariants.Tick}
use Rattle.rams_model.specs.declared.Note.TheVariants as note
use Rattle.rams_model.specs.Service.{Settings, noted, History, hold, known, opened, is_among, placed, with_client, sequence, open_burst, Wanted, pending, channel_left, may_take, burst_served, all_served, repaired, all_repaired, idle_forgotten, history_of}
use Rattle.rams_model.proofs.Induction.{through}
use Rattle.rams_model.proofs.Items.{is_run_of, is_repair, is_forgotten, served_puts, all_served_put, all_repaired_put, all_forgotten_put}
use Rattle.rams_model.proofs.Legal.{is_of_runs}
use Rattle.service_laws.specs.tick_laws.{clients_served, Fall, repairs_done, AreSomeOf}
use Rattle.service_laws.proofs.tick_laws.Repairs.{runs_leave}
use Rattle.service_laws.proofs.tick_laws.Ticks.{start, ran, repaired_all, tick_is}

-- ---- the open bursts are kept by rising client

abbrev RiseFrom : ℕ → List ℕ → Type 0
RiseFrom m [] = Unit {0}
RiseFrom m (k ∷ ks) = (m ≤ k) × RiseFrom (k + 1) ks

rise_lower : (m n : ℕ) (ks : List ℕ) → m ≤ n → RiseFrom n ks → RiseFrom m ks
rise_lower m n [] le r = tt
rise_lower m n (k ∷ ks) le r = (omega (arith, le, r.0), r.1)

rise_without : (test : ℕ → Bool) (m : ℕ) (ks : List ℕ) → RiseFrom m ks → RiseFrom m (filter test ks)
rise_without test m [] r = tt
rise_without test m (k ∷ ks) r =
    let rest = rise_without test (k + 1) ks r.1 in
    cond_both (test k) (k ∷ filter test ks) (filter test ks) (RiseFrom m) (λ t. (r.0, rest)) (λ f. rise_lower m (k + 1) (filter test ks) (omega (arith, r.0)) rest)

rise_placed : (m k : ℕ) (ks : List ℕ) → m ≤ k → is_among k ks ≡ false → RiseFrom m ks → RiseFrom m (placed k ks)
rise_placed m k [] le none r = (le, tt)
rise_placed m k (j ∷ js) le none r =
    cond_both (ltb k j) (k ∷ j ∷ js) (j ∷ placed k js) (RiseFrom m) (λ t. (le, (omega (arith, ltb-true k j t), r.1)))
    (λ f. let other : eqb j k ≡ false = ⊎_elim (λ (t : eqb j k ≡ true). absurd (true≢false (sym (or_left (eqb j k) (is_among k js) t) ∙ none))) (λ g. g) (cases_Bool (eqb j k)) in
    let later : j + 1 ≤ k = further j k f other in
    (r.0, rise_placed (j + 1) k js later (not_later (eqb j k) (is_among k js) none) r.1))
  where
    not_later : (a b : Bool) → (a || b) ≡ false → b ≡ false
    not_later true b e = absurd (true≢false e)
    not_later false b e = e

    split : (j k : ℕ) → (j + 1 ≤ k) ⊎ (k ≤ j)
    split j k = ⊎_elim (λ (t : ltb j k ≡ true). inl (omega (arith, ltb-true j k t))) (λ f. inr (ltb-false j k f)) (cases_Bool (ltb j k))

    further : (j k : ℕ) → ltb k j ≡ false → eqb j k ≡ false → j + 1 ≤ k
    further j k f g =
        let le = ltb-false k j f in
        ⊎_elim (λ (lt : j + 1 ≤ k). lt) (λ (ge : k ≤ j). let same : j ≡ k = omega (arith, le, ge) in absurd (true≢false (sym (eq-eqb j k same) ∙ g))) (split j k)

rise_with : (k : ℕ) (ks : List ℕ) → RiseFrom 0 ks → RiseFrom 0 (with_client k ks)
rise_with k ks r = ⊎_elim (λ t. subst (λ (b : Bool). RiseFrom 0 (cond b ks (placed k ks))) (sym t) r)
    (λ f. subst (λ (b : Bool). RiseFrom 0 (cond b ks (placed k ks))) (sym f) (rise_placed 0 k ks (omega arith) f r)) (cases_Bool (is_among k ks))

opened_rise : (history : History) → RiseFrom 0 (opened history)
unfolding opened
opened_rise [] = tt
opened_rise (noted (note.Accept client first rate join) packet ∷ history) = rise_with client (opened history) (opened_rise history)
opened_rise (noted (note.End client why) packet ∷ history) = rise_without (λ j. not (eqb j client)) 0 (opened history) (opened_rise history)
opened_rise (item ∷ history) = opened_rise history

-- ---- bursts

-- the first of some clients, if there is one, is at most this
abbrev BeginsBelow : ℕ → List ℕ → Type 0
BeginsBelow m [] = Unit {0}
BeginsBelow m (k ∷ ks) = k ≤ m

abbrev Served : ℕ → History → Type 0
Served m history = Fall (clients_served history) × BeginsBelow m (clients_served history)

fall_more : (k : ℕ) (ks : List ℕ) → Fall ks → BeginsBelow k ks → Fall (k ∷ ks)
fall_more k [] f b = tt
fall_more k (j ∷ js) f b = (b, f)

begins_higher : (m n : ℕ) (ks : List ℕ) → m ≤ n → BeginsBelow m ks → BeginsBelow n ks
begins_higher m n [] le b = tt
begins_higher m n (k ∷ ks) le b = omega (arith, le, b)

served_step : (k : ℕ) (n : Note) (packet : Option Held) (history : History) → is_run_of k n ≡ true → Served k history → Served k (noted n packet ∷ history)
served_step k (note.Burst client n q) packet history own w =
    let is = eqb-true client k own in
    (fall_more client (clients_served history) w.0 (subst (λ (j : ℕ). BeginsBelow j (clients_served history)) (sym is) w.1), omega (arith, is))
served_step k (note.End client why) packet history own w = w
served_step k n packet history own w = absurd (true≢false (sym own))

all_fall : (s : Settings) (held : List Held) (m : ℕ) (ks : List ℕ) (history : History) → RiseFrom m ks → Served m history → Fall (clients_served (all_served s held ks history))
unfolding all_served
all_fall s held m [] history r w = w.0
all_fall s held m (k ∷ ks) history r w =
    let mid = burst_served s held k (open_burst s k history) history in
    let here = through (is_run_of k) (Served k) (λ n packet x own y. served_step k n packet x own y) history mid (served_puts s held k (open_burst s k history) history)
    (w.0, begins_higher m k (clients_served history) r.0 w.1) in
    all_fall s held (k + 1) ks mid r.1 (here.0, begins_higher k (k + 1) (clients_served mid) (omega arith) here.1)

repairs_no_client : (n : Note) (packet : Option Held) (history : History) → is_repair n ≡ true → clients_served (noted n packet ∷ history) ≡ clients_served history
repairs_no_client (note.Repair client n q) packet history own = refl
repairs_no_client (note.Gone client n) packet history own = refl
repairs_no_client n packet history own = absurd (true≢false (sym own))

forgotten_no_client : (n : Note) (packet : Option Held) (history : History) → is_forgotten n ≡ true → clients_served (noted n packet ∷ history) ≡ clients_served history
forgotten_no_client (note.Forgot client) packet history own = refl
forgotten_no_client n packet history own = absurd (true≢false (sym own))

pub bursts_rise : (s : Settings) (events : List Event) → Fall (clients_served (history_of s (Tick ∷ events)))
bursts_rise s events =
    let begin = start s events in
    let runs = ran s events in
    let after = repaired_all s events in
    let fall = all_fall s (hold s begin) 0 (opened begin) begin (opened_rise begin) (tt, tt) in
    let repairs : clients_served after ≡ clients_served runs =
    through is_repair (λ x. clients_served x ≡ clients_served runs) (λ n packet x own e. repairs_no_client n packet x own ∙ e) runs after (all_repaired_put s (hold s runs) (pending runs) runs) refl in
    let forgotten : clients_served (idle_forgotten s after) ≡ clients_served after =
    through is_forgotten (λ x. clients_served x ≡ clients_served after) (λ n packet x own e. forgotten_no_client n packet x own ∙ e) after (idle_forgotten s after) (all_forgotten_put s (known after) after) refl in
    subst Fall (sym (ap clients_served (tick_is s events) ∙ (forgotten ∙ repairs))) fall

-- ---- repairs

abbrev Done : List Wanted → List Wanted → List Wanted → Type 0
Done before ws after = (done : List Wanted) × (after ≡ before ++ done) × AreSomeOf done ws

skip : (vs ws : List Wanted) (w : Wanted) → AreSomeOf vs ws → AreSomeOf vs (w ∷ ws)
skip [] ws w a = tt
skip (v ∷ vs) ws w a = inr a

-- a repair that is noted is the next that is done
noted_next : (before ws after : List Wanted) (w : Wanted) → Done (before ++ w ∷ []) ws after → Done before (w ∷ ws) after
noted_next before ws after w d = (w ∷ d.0, d.1 ∙ append_assoc before (w ∷ []) d.0, inl (refl, d.2))

waits_on : (before ws after : List Wanted) (w : Wanted) → Done before ws after → Done before (w ∷ ws) after
waits_on before ws after w d = (d.0, d.1, skip d.0 ws w d.2)

one_done : (s : Settings) (held : List Held) (w : Wanted) (ws : List Wanted) (o : Option Held) (history : History) (after : List Wanted)
    → Done (repairs_done (repaired s held w o history)) ws after → Done (repairs_done history) (w ∷ ws) after
one_done s held w ws None history after d = noted_next (repairs_done history) ws after w d
one_done s held w ws (Some h) history after d =
    by_case (leb h.wire (may_take s held w.client history) && leb h.wire (channel_left s history)) d
  where
    by_case : (b : Bool) → Done (repairs_done (cond b (noted (note.Repair w.client w.n (sequence s w.client history)) (Some h) ∷ history) history)) ws after
        → Done (repairs_done history) (w ∷ ws) after
    by_case true d = noted_next (repairs_done history) ws after w d
    by_case false d = waits_on (repairs_done history) ws after w d

all_done : (s : Settings) (held : List Held) (ws : List Wanted) (history : History) → Done (repairs_done history) ws (repairs_done (all_repaired s held ws history))
unfolding all_repaired
all_done s held [] history = ([], sym (append-nil (repairs_done history)), tt)
all_done s held (w ∷ ws) history =
    let o = find (λ h. eqb h.n w.n) held in one_done s held w ws o history _ (all_done s held ws (repaired s held w o history))

runs_no_repair : (n : Note) (packet : Option Held) (history : History) → is_of_runs n ≡ true → repairs_done (noted n packet ∷ history) ≡ repairs_done history
runs_no_repair (note.Burst client n q) packet history own = refl
runs_no_repair (note.End client why) packet history own = refl
runs_no_repair n packet history own = absurd (true≢false (sym own))

forgotten_no_repair : (n : Note) (packet : Option Held) (history : History) → is_forgotten n ≡ true → repairs_done (noted n packet ∷ history) ≡ repairs_done history
forgotten_no_repair (note.Forgot client) packet history own = refl
forgotten_no_repair n packet history own = absurd (true≢false (sym own))

pub repairs_as_asked : (s : Settings) (events : List Event) → AreSomeOf (repairs_done (history_of s (Tick ∷ events))) (pending (history_of s events))
unfolding pending
repairs_as_asked s events =
    let begin = start s events in
    let runs = ran s events in
    let after = repaired_all s events in
    let put = all_served_put s (hold s begin) (opened begin) begin in
    let none : repairs_done runs ≡ [] = through is_of_runs (λ x. repairs_done x ≡ []) (λ n packet x own e. runs_no_repair n packet x own ∙ e) begin runs put refl in
    let waiting : pending runs ≡ pending begin = through is_of_runs (λ x. pending x ≡ pending begin) (λ n packet x own e. runs_leave n packet x own ∙ e) begin runs put refl in
    let done = all_done s (hold s runs) (pending runs) runs in
    let is : repairs_done after ≡ done.0 = done.1 ∙ ap (λ (l : List Wanted). l ++ done.0) none in
    let forgotten : repairs_done (idle_forgotten s after) ≡ repairs_done after =
    through is_forgotten (λ x. repairs_done x ≡ repairs_done after) (λ n packet x own e. forgotten_no_repair n packet x own ∙ e) after (idle_forgotten s after) (all_forgotten_put s (known after) after) refl in
    subst (λ (l : List Wanted). AreSomeOf l (pending (history_of s events))) (sym (ap repairs_done (tick_is s events) ∙ (forgotten ∙ is)))
    (subst (λ (l : List Wanted). AreSomeOf done.0 l) waiting done.2)
