-- How long a client has been idle after the runs and the repairs of a tick, and who is forgotten.
use Rattle.std.proofs.Common.{◌≡◌, ℕ, ◌+◌, ◌<◌, Bool, true, false, cond, ◌||◌, List, [], ◌∷◌, length, Option, Some, None, is_some, inl, inr, refl, ap, sym, ◌∙◌, arith, eqb, ltb, filter}
use Rattle.std.specs.Option.{option_map}
use Rattle.std.specs.List.{list_any, AllByRecursion as Each}
use Rattle.std.specs.Map.{keys_of}
use Rattle.std.proofs.lemmas.Bool.{cond-true, cond-false, cases_Bool, not_from_false, or_parts, eqb-false, lt-ltb, false≢true}
use Rattle.rams_model.specs.declared.{Held.Held, Note.Note}
use Rattle.rams_model.specs.declared.Note.TheVariants.{Burst, Repair, Gone, End, Forgot}
use Rattle.rams_model.specs.Service.{Settings, tick, began, noted, History, is_among, in_tick, newest_open, bursts, open_burst, has_open, Wanted, pending, is_busy, is_served, quiet_ticks, idle, all_forgotten}
use Rattle.rams_model.specs.Service.Bursts as model
use Rattle.client_table.specs.declared.Entry.{Entry}
use Rattle.repair_queue.specs.{is_of, count_of}
use Rattle.tick_draft.specs.{Drafted, with_note, counted_on}
use Rattle.tick_core.specs.{idle_after, with_all_forgotten}
use Rattle.tick_core.proofs.Sparing.{GoesOn, same, more, one, spares, serves, IsSpared, spared}
use Rattle.tick_core.proofs.Shown.{Shows, shows_forgot}
use Rattle.tick_core.proofs.Serving.{tick_open}
use Rattle.tick_core.proofs.Rounds.{RunPasses, RepairPasses, run_spares, repair_spares}

-- by an open burst, a pending repair, and the ticks since it was served
abbrev idling : Bool → Bool → ℕ → ℕ
idling is_open waits quiet = cond (is_open || waits) 0 quiet

pub idle_same : (s : Settings) (k : ℕ) (a b : History) → IsSpared s k a b → idle s k b ≡ idle s k a
idle_same s k a b is =
    ap (λ (bs : List model.Burst). idling (is_some (newest_open bs)) (list_any (λ w. eqb w.client k) (pending b)) (quiet_ticks s k b)) is.bursts_same
    ∙ (ap (λ (t : Bool). idling (has_open s k a) t (quiet_ticks s k b)) is.waiting_same ∙ ap (λ (n : ℕ). idling (has_open s k a) (list_any (λ w. eqb w.client k) (pending a)) n) is.quiet_same)

never : (b : Bool) (n : ℕ) → n ≡ 0 → cond b 0 n ≡ 0
never true n e = refl
never false n e = e

-- ---- a client that isn't idle as the tick began isn't idle after it
zero_spared : (s : Settings) (k : ℕ) (note : Note) (packet : Option Held) (later : History) → spares k note ≡ true → idle s k later ≡ 0 → idle s k (noted note packet ∷ later) ≡ 0
zero_spared s k note packet later passes zero = idle_same s k later (noted note packet ∷ later) (spared s k later _ (one (spares k) note packet later passes)) ∙ zero

zero_by : (s : Settings) (k client : ℕ) (note : Note) (packet : Option Held) (later : History) → (eqb client k ≡ true → quiet_ticks s k (noted note packet ∷ later) ≡ 0) → (eqb client k ≡ false → spares k note ≡ true)
    → idle s k later ≡ 0 → idle s k (noted note packet ∷ later) ≡ 0
zero_by s k client note packet later quiet passes zero = elim (cases_Bool (eqb client k)) [
  | inl t ↦ never (is_busy s k (noted note packet ∷ later)) (quiet_ticks s k (noted note packet ∷ later)) (quiet t)
  | inr f ↦ zero_spared s k note packet later (passes f) zero
]

zero_step : (s : Settings) (k : ℕ) (note : Note) (packet : Option Held) (later : History) → serves note ≡ true → idle s k later ≡ 0 → idle s k (noted note packet ∷ later) ≡ 0
unfolding quiet_ticks
zero_step s k (Burst client n seq) packet later h zero = zero_by s k client (Burst client n seq) packet later (λ t. cond-true (eqb client k) 0 (quiet_ticks s k later) t) (λ f. not_from_false (eqb client k) f) zero
zero_step s k (Repair client n seq) packet later h zero = zero_by s k client (Repair client n seq) packet later (λ t. cond-true (eqb client k) 0 (quiet_ticks s k later) t) (λ f. not_from_false (eqb client k) f) zero
zero_step s k (Gone client n) packet later h zero = zero_by s k client (Gone client n) packet later (λ t. cond-true (eqb client k) 0 (quiet_ticks s k later) t) (λ f. not_from_false (eqb client k) f) zero
zero_step s k (End client cause) packet later h zero = zero_by s k client (End client cause) packet later (λ t. cond-true (eqb client k) 0 (quiet_ticks s k later) t) (λ f. not_from_false (eqb client k) f) zero
zero_step s k note packet later h zero = absurd (false≢true h)

pub zero_kept : (s : Settings) (k : ℕ) (a b : History) → GoesOn serves a b → idle s k a ≡ 0 → idle s k b ≡ 0
zero_kept s k a _ same zero = zero
zero_kept s k a _ (more note packet later passes on) zero = zero_step s k note packet later passes (zero_kept s k a later on zero)

-- ---- as the tick begins
some_map : (s : Settings) (o : Option model.Burst) → is_some (option_map (in_tick s) o) ≡ is_some o
some_map s None = refl
some_map s (Some b) = refl

pub busy_same : (s : Settings) (k : ℕ) (history : History) → is_busy s k (began tick ∷ history) ≡ is_busy s k history
unfolding pending
busy_same s k history =
    ap (λ (o : Option model.Burst). is_some o || list_any (λ w. eqb w.client k) (pending history)) (tick_open s k history)
    ∙ ap (λ (b : Bool). b || list_any (λ w. eqb w.client k) (pending history)) (some_map s (open_burst s k history))

idle_begun : (s : Settings) (k : ℕ) (history : History) → idle s k (began tick ∷ history) ≡ cond (is_busy s k history) 0 (idle s k history + 1)
unfolding quiet_ticks
idle_begun s k history = ap (λ (b : Bool). cond b 0 (idle s k history + 1)) (busy_same s k history)

-- ---- after the runs and the repairs
pub none_runs : (k : ℕ) (ks : List ℕ) → is_among k ks ≡ false → Each (RunPasses (spares k)) ks
none_runs k [] out = tt
none_runs k (j ∷ js) out = let parts = or_parts (eqb j k) (is_among k js) out in (run_spares j k (eqb-false j k parts.0), none_runs k js parts.1)

pub none_repairs : (k : ℕ) (ws : List Wanted) → list_any (λ w. eqb w.client k) ws ≡ false → Each (λ w. RepairPasses (spares k) w.client) ws
none_repairs k [] out = tt
none_repairs k (w ∷ ws) out = let parts = or_parts (eqb w.client k) (list_any (λ w. eqb w.client k) ws) out in (repair_spares w.client k (eqb-false w.client k parts.0), none_repairs k ws parts.1)

-- What is noted of a tick's runs and repairs: all serve, and none is of a client that wasn't busy as the tick began.
pub record IsServedIn (s : Settings) (before after : History) : Type 0 where
  pub serve : GoesOn serves (began tick ∷ before) after
  pub spare : (k : ℕ) → is_busy s k before ≡ false → GoesOn (spares k) (began tick ∷ before) after

pub idle_served : (s : Settings) (k : ℕ) (before after : History) → IsServedIn s before after → idle s k after ≡ cond (is_busy s k before) 0 (idle s k before + 1)
idle_served s k before after served = elim (cases_Bool (is_busy s k before)) [
  | inl busy ↦ zero_kept s k (began tick ∷ before) after served.serve (idle_begun s k before ∙ cond-true (is_busy s k before) _ _ busy) ∙ sym (cond-true (is_busy s k before) 0 (idle s k before + 1) busy)
  | inr not_busy ↦ idle_same s k (began tick ∷ before) after (spared s k _ after (served.spare k not_busy)) ∙ idle_begun s k before
]

-- ---- by what is kept of a client
has_count : (k : ℕ) (ws : List Wanted) → ltb 0 (count_of k ws) ≡ list_any (λ w. eqb w.client k) ws
has_count k [] = refl
has_count k (w ∷ ws) = count_step (eqb w.client k) w (filter (is_of k) ws) (list_any (λ w. eqb w.client k) ws) (has_count k ws)
  where
    count_step : (b : Bool) (w : Wanted) (l : List Wanted) (any : Bool) → ltb 0 (length l) ≡ any → ltb 0 (length (cond b (w ∷ l) l)) ≡ (b || any)
    count_step true w l any e = lt-ltb 0 (length (w ∷ l)) (omega arith)
    count_step false w l any e = e

-- the count of a client that is busy doesn't matter
one_more : (b : Bool) (m n : ℕ) → (b ≡ false → m ≡ n) → cond b 0 (m + 1) ≡ cond b 0 (n + 1)
one_more true m n count = refl
one_more false m n count = ap (λ (k : ℕ). k + 1) (count refl)

pub idle_is : (s : Settings) (k : ℕ) (e : Entry) (ws : List Wanted) (before after : History) → IsServedIn s before after → ws ≡ pending before → is_some e.burst ≡ has_open s k before
    → (is_busy s k before ≡ false → e.idle ≡ idle s k before) → idle_after ws k e ≡ idle s k after
idle_is s k e ws before after served queue_is burst_is count_is =
    ap (λ (b : Bool). cond (b || ltb 0 (count_of k ws)) 0 (e.idle + 1)) burst_is
    ∙ (ap (λ (b : Bool). cond (has_open s k before || b) 0 (e.idle + 1)) (has_count k ws ∙ ap (list_any (λ w. eqb w.client k)) queue_is)
    ∙ (one_more (is_busy s k before) e.idle (idle s k before) count_is ∙ sym (idle_served s k before after served)))

-- ---- note by note
pub busy_spared : (s : Settings) (k : ℕ) (a b : History) → IsSpared s k a b → is_busy s k b ≡ is_busy s k a
busy_spared s k a b is =
    ap (λ (bs : List model.Burst). is_some (newest_open bs) || list_any (λ w. eqb w.client k) (pending b)) is.bursts_same ∙ ap (λ (t : Bool). has_open s k a || t) is.waiting_same

-- of a client that a note serves
pub idle_anew : (s : Settings) (k : ℕ) (note : Note) (packet : Option Held) (history : History) → is_served k note ≡ true → idle s k (noted note packet ∷ history) ≡ 0
unfolding quiet_ticks
idle_anew s k note packet history served = never (is_busy s k (noted note packet ∷ history)) (quiet_ticks s k (noted note packet ∷ history)) (cond-true (is_served k note) 0 (quiet_ticks s k history) served)

-- of one that isn't busy as a tick begins
pub idle_counted : (s : Settings) (k n : ℕ) (history : History) → (is_busy s k history ≡ false → n ≡ idle s k history) → idle s k history < 4294967295 → is_busy s k (began tick ∷ history) ≡ false
    → counted_on n ≡ idle s k (began tick ∷ history)
idle_counted s k n history count small free =
    let free_before : is_busy s k history ≡ false = sym (busy_same s k history) ∙ free in
    omega (arith, count free_before, idle_begun s k history ∙ cond-false (is_busy s k history) 0 (idle s k history + 1) free_before)

-- ---- who is forgotten
pub forgot_idle : (s : Settings) (k client : ℕ) (history : History) → idle s k (noted (Forgot client) None ∷ history) ≡ idle s k history
unfolding bursts pending quiet_ticks
forgot_idle s k client history = refl

abbrev AreIdle : Settings → List Wanted → History → List (ℕ × Entry) → Type 0
AreIdle s ws history es = Each (λ e. idle_after ws e.0 e.1 ≡ idle s e.0 history) es

idle_on : (s : Settings) (ws : List Wanted) (client : ℕ) (history : History) (es : List (ℕ × Entry)) → AreIdle s ws history es → AreIdle s ws (noted (Forgot client) None ∷ history) es
idle_on s ws client history [] are = tt
idle_on s ws client history (e ∷ es) are = (are.0 ∙ sym (forgot_idle s e.0 client history), idle_on s ws client history es are.1)

forgets : (s : Settings) (ws : List Wanted) (client : ℕ) (b c : Bool) (es : List (ℕ × Entry)) (history : History) (d : Drafted) → c ≡ b → AreIdle s ws history es → Shows s history d
    → AreIdle s ws (cond b (noted (Forgot client) None ∷ history) history) es × Shows s (cond b (noted (Forgot client) None ∷ history) history) (cond c (with_note d (Forgot client)) d)
forgets s ws client true true es history d alike are shows = (idle_on s ws client history es are, shows_forgot s history client d shows)
forgets s ws client false false es history d alike are shows = (are, shows)
forgets s ws client true false es history d alike are shows = cc
forgets s ws client false true es history d alike are shows = cc

pub forget_all : (s : Settings) (ws : List Wanted) (es : List (ℕ × Entry)) (history : History) (d : Drafted) → AreIdle s ws history es → Shows s history d
    → Shows s (all_forgotten s (keys_of es) history) (with_all_forgotten s ws es d)
unfolding all_forgotten with_all_forgotten
forget_all s ws [] history d are shows = shows
forget_all s ws (e ∷ es) history d are shows =
    let step = forgets s ws e.0 (eqb (idle s e.0 history) s.channel.idle) (eqb (idle_after ws e.0 e.1) s.channel.idle) es history d (ap (λ (n : ℕ). eqb n s.channel.idle) are.0) are.1 shows in
    forget_all s ws es _ _ step.0 step.1
