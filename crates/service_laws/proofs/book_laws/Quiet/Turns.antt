-- What a tick does to a client's newest burst.
use Rattle.std.proofs.Common.{◌≡◌, ℕ, ◌+◌, ◌-◌, ◌≤◌, ◌⊎◌, inl, inr, ⊎_elim, min, true, false, cond, List, ◌∷◌, Option, Some, None, refl, ap, ap₂, sym, ◌∙◌, subst, arith, eqb, ltb}
use Rattle.std.proofs.lemmas.Bool.{cond_both, cond-true, cases_Bool, eqb-true, eq-eqb, true≢false}
use Rattle.rams_model.specs.declared.{Held.Held, Cause.Cause, Note.Note}
use Rattle.rams_model.specs.declared.Cause.TheVariants as cause
use Rattle.rams_model.specs.declared.Note.TheVariants as note
use Rattle.rams_model.specs.Service.{Settings, tick, began, noted, History, arrivals, hold, as_tick_began, known, Burst, next, kept, in_tick, newest_changed, is_of, bursts, newest_open, open_burst, pending, budget_of, cap, run_left, kept_from_repairs, may_take, run, send, is_lost, is_stop, after_run, run_sent, burst_served, bursts_served, repairs_sent, idle_forgotten, after_tick}
use Rattle.rams_model.specs.Packets.{hi, wires, from_number, Arrival, Follows, stream_of}
use Rattle.rams_model.specs.Packets.Source as sources
use Rattle.rams_model.specs.Laws.{source, moments, JoinsSlowly, AreAtLeast, IsQuiet}
use Rattle.rams_model.proofs.Induction.{through, onwards, legal_before}
use Rattle.rams_model.proofs.Items.{is_repair, is_forgotten, is_of_tick, all_repaired_put, all_forgotten_put, tick_puts}
use Rattle.rams_model.proofs.Legal.{Allows, IsLegal}
use Rattle.rams_model.proofs.Turns.{in_turn}
use Rattle.service_laws.proofs.book_laws.Quiet.States.{Sound, other_sound, At, at_base, at_other, at_repair, at_send, sound_send, with_run, has_sent, open_is, ended_none, none_stays, none_begun, other_none}

-- A burst that is open as a tick begins, with the packets that are held.
pub record Opened (s : Settings) (k : ℕ) (before : History) : Type 0 where
  pub burst : Burst
  pub others : List Burst
  pub is_newest : bursts s k before ≡ burst ∷ others
  pub is_open : burst.ended ≡ None
  -- it isn't lost where it is quiet
  pub quiet : is_lost (next burst) (hold s (began tick ∷ before)) ≡ true → IsQuiet s k burst.first (began tick ∷ before) → ⊥

-- the history as the tick began, its run, and the burst after it
abbrev pub base : History → History
base before = began tick ∷ before

abbrev pub held_in : Settings → History → List Held
held_in s before = hold s (base before)

abbrev pub run_in : Settings → History → Burst → List Held
run_in s before b = run b.stop (next b) (b.rate + kept s b) (from_number (next b) (held_in s before))

abbrev pub served : Settings → History → Burst → Burst
served s before b = with_run (in_tick s b) (run_in s before b)

-- none is open
abbrev pub IsClosed : Settings → ℕ → History → Type 0
IsClosed s k history = newest_open (bursts s k history) ≡ None

-- before its turn, after it, and while repairs are sent
abbrev Waits : (s : Settings) (k : ℕ) (before : History) → Opened s k before → History → Type 0
Waits s k before o history = Sound s k history × At s k (base before) (in_tick s o.burst ∷ o.others) 0 0 history

pub record Ran (s : Settings) (k : ℕ) (before : History) (o : Opened s k before) (history : History) : Type 0 where
  pub state : At s k (base before) (served s before o.burst ∷ o.others) (wires (run_in s before o.burst)) 0 history
  pub unstopped : is_stop (served s before o.burst).stop (next (served s before o.burst)) ≡ false

abbrev HasRun : (s : Settings) (k : ℕ) (before : History) → Opened s k before → History → Type 0
HasRun s k before o history = Sound s k history × (IsClosed s k history ⊎ Ran s k before o history)

-- the burst with so many bytes left
abbrev pub with_left : Burst → ℕ → Burst
with_left b left = record b { left = left }

pub record Repaired (s : Settings) (k : ℕ) (before : History) (o : Opened s k before) (history : History) : Type 0 where
  pub left : ℕ
  pub repairs : ℕ
  pub state : At s k (base before) (with_left (served s before o.burst) left ∷ o.others) (wires (run_in s before o.burst)) repairs history
  pub unstopped : is_stop (served s before o.burst).stop (next (served s before o.burst)) ≡ false
  pub is_left : left ≡ (o.burst.rate + kept s o.burst - wires (run_in s before o.burst)) - repairs
  pub leaves : ltb (next (served s before o.burst)) (hi (held_in s before)) ≡ true → min s.channel.depth (o.burst.rate + kept s o.burst - wires (run_in s before o.burst)) ≤ left

abbrev pub IsRepaired : (s : Settings) (k : ℕ) (before : History) → Opened s k before → History → Type 0
IsRepaired s k before o history = Sound s k history × (IsClosed s k history ⊎ Repaired s k before o history)

-- a history in which nothing changed that quietness looks at
quiet_same : (s : Settings) (k first : ℕ) (before later : History) → arrivals later ≡ arrivals before → moments k later ≡ moments k before → IsQuiet s k first later → IsQuiet s k first before
quiet_same s k first before later same_arrivals same_moments q =
    let same : source s later ≡ source s before = ap (λ (arrived : List Arrival). sources.source s.channel.window (stream_of s.channel.window arrived)) same_arrivals in
    record {
      follows = subst (λ (l : List Held). Follows first (from_number first l)) same q.follows;
      sizes = subst (λ (l : List Held). AreAtLeast s.channel.minwire (from_number first l)) same q.sizes;
      joins = subst (JoinsSlowly s) same_moments q.joins;
    }

-- the client's turn
turn : (s : Settings) (k : ℕ) (before : History) (o : Opened s k before) (history : History) → Waits s k before o history
    → HasRun s k before o (burst_served s (held_in s before) k (open_burst s k history) history)
turn s k before o history w =
    subst (λ (b : Option Burst). HasRun s k before o (burst_served s (held_in s before) k b history))
    (sym (open_is (bursts s k history) (in_tick s o.burst) o.others w.1.are_bursts o.is_open))
    (cond_both (is_lost (next o.burst) (held_in s before)) (noted (note.End k cause.Lost) None ∷ history) (run_sent s k (send s k (run_in s before o.burst) history)) (HasRun s k before o)
    lost (λ f. after_sending))
  where
    lost : is_lost (next o.burst) (held_in s before) ≡ true → HasRun s k before o (noted (note.End k cause.Lost) None ∷ history)
    lost t = (
      (
        λ c. record {
          burst = in_tick s o.burst;
          others = o.others;
          is_newest = w.1.are_bursts;
          is_open = o.is_open;
          quiet = λ e q. o.quiet t (quiet_same s k o.burst.first (base before) history w.1.same_arrivals w.1.same_moments q);
        },
        w.0,
      ),
      inl (ended_none s k k cause.Lost None history (eq-eqb k k refl)),
    )

    after_sending : HasRun s k before o (run_sent s k (send s k (run_in s before o.burst) history))
    after_sending =
        let r = run_in s before o.burst in
        let b = served s before o.burst in
        let later = send s k r history in
        let state : At s k (base before) (b ∷ o.others) (wires r) 0 later =
        subst (λ (n : ℕ). At s k (base before) (b ∷ o.others) n 0 later) (omega arith) (at_send s k (base before) r (in_tick s o.burst) o.others 0 0 history w.1) in
        let is_open : b.ended ≡ None = (has_sent (in_tick s o.burst) r).same_end ∙ o.is_open in
        let sound = sound_send s k r history w.0 in
        subst (λ (x : Option Burst). HasRun s k before o (after_run s k x later)) (sym (open_is (bursts s k later) b o.others state.are_bursts is_open))
        (cond_both (is_stop b.stop (next b)) (noted (note.End k cause.Stopped) None ∷ later)
        (cond (eqb b.ticks s.channel.limit) (noted (note.End k cause.Limit) None ∷ later) later) (HasRun s k before o)
        (λ t. ends later cause.Stopped (λ (e : cause.Stopped ≡ cause.Lost). absurd cc) sound state is_open)
        (λ f. cond_both (eqb b.ticks s.channel.limit) (noted (note.End k cause.Limit) None ∷ later) later (HasRun s k before o)
        (λ t. ends later cause.Limit (λ (e : cause.Limit ≡ cause.Lost). absurd cc) sound state is_open)
        (λ g. (sound, inr (record { state = state; unstopped = f })))))
      where
        ends : (later : History) (why : Cause) → (why ≡ cause.Lost → ⊥) → Sound s k later → At s k (base before) (served s before o.burst ∷ o.others) (wires (run_in s before o.burst)) 0 later
            → (served s before o.burst).ended ≡ None → HasRun s k before o (noted (note.End k why) None ∷ later)
        ends later why other sound state is_open = (
          (λ c. record { burst = served s before o.burst; others = o.others; is_newest = state.are_bursts; is_open = is_open; quiet = λ e q. other e }, sound),
          inl (ended_none s k k why None later (eq-eqb k k refl)),
        )

-- Of all the turns in a tick only the client's own changes its burst.
other_waits : (s : Settings) (k : ℕ) (before : History) (o : Opened s k before) (note : Note) (packet : Option Held) (history : History) → is_of k note ≡ false → Waits s k before o history
    → Waits s k before o (noted note packet ∷ history)
other_waits s k before o note packet history e w =
    (other_sound s k note packet history e w.0, at_other s k (base before) (in_tick s o.burst ∷ o.others) 0 0 note packet history e w.1)

other_ran : (s : Settings) (k : ℕ) (before : History) (o : Opened s k before) (note : Note) (packet : Option Held) (history : History) → is_of k note ≡ false → HasRun s k before o history
    → HasRun s k before o (noted note packet ∷ history)
other_ran s k before o note packet history e (sound, inl closed) = (other_sound s k note packet history e sound, inl (other_none s k note packet history e closed))
other_ran s k before o note packet history e (sound, inr ran) = (
  other_sound s k note packet history e sound,
  inr (record { state = at_other s k (base before) (served s before o.burst ∷ o.others) (wires (run_in s before o.burst)) 0 note packet history e ran.state; unstopped = ran.unstopped }),
)

base_bursts : (s : Settings) (k : ℕ) (before : History) (o : Opened s k before) → bursts s k (base before) ≡ in_tick s o.burst ∷ o.others
unfolding bursts
base_bursts s k before o = ap (newest_changed (in_tick s)) o.is_newest

all_turns : (s : Settings) (k : ℕ) (before : History) (o : Opened s k before) → Sound s k before → HasRun s k before o (bursts_served s (base before))
all_turns s k before o sound =
    let start = base_bursts s k before o in
    let is_open = open_is (bursts s k (base before)) (in_tick s o.burst) o.others start o.is_open in
    in_turn s k (base before) (Waits s k before o) (HasRun s k before o) (λ n packet history runs other w. other_waits s k before o n packet history other w)
    (λ n packet history runs other p. other_ran s k before o n packet history other p) (turn s k before o) (sound, at_base s k before (in_tick s o.burst ∷ o.others) start)
    (λ closed. let none : Some (in_tick s o.burst) ≡ None = sym is_open ∙ closed in absurd cc)

-- What a client's repairs may take.
takes_at_most : (s : Settings) (k : ℕ) (before : History) (o : Opened s k before) (held : List Held) (history : History) (left repairs : ℕ)
    → At s k (base before) (with_left (served s before o.burst) left ∷ o.others) (wires (run_in s before o.burst)) repairs history
    → let unspent = o.burst.rate + kept s o.burst - wires (run_in s before o.burst) in
    may_take s held k history ≡ unspent - cond (ltb (next (served s before o.burst)) (hi held)) (min s.channel.depth unspent) 0 - repairs
unfolding as_tick_began
takes_at_most s k before o held history left repairs state =
    let unspent = o.burst.rate + kept s o.burst - wires (run_in s before o.burst) in
    let b = with_left (served s before o.burst) left in
    let start : open_burst s k (base before) ≡ Some (in_tick s o.burst) = open_is (bursts s k (base before)) (in_tick s o.burst) o.others (base_bursts s k before o) o.is_open in
    let is_open : b.ended ≡ None = (has_sent (in_tick s o.burst) (run_in s before o.burst)).same_end ∙ o.is_open in
    let own_cap : cap s k history ≡ o.burst.rate + kept s o.burst = ap (λ (h : History). budget_of s (open_burst s k h)) state.same_tick ∙ ap (budget_of s) start in
    let own_left : run_left s k history ≡ unspent = ap₂ (λ (x : ℕ) (y : ℕ). x - y) own_cap state.are_runs in
    let now = open_is (bursts s k history) b o.others state.are_bursts is_open in
    let keeps : kept_from_repairs s held (run_left s k history) (open_burst s k history) ≡ kept_from_repairs s held unspent (Some b) =
    ap₂ (λ (x : ℕ) (y : Option Burst). kept_from_repairs s held x y) own_left now in
    ap₂ (λ (x : ℕ) (y : ℕ). x - y) (ap₂ (λ (x : ℕ) (y : ℕ). x - y) own_left keeps) state.are_repairs

-- repairs
other_repaired : (s : Settings) (k : ℕ) (before : History) (o : Opened s k before) (note : Note) (packet : Option Held) (history : History) → is_of k note ≡ false
    → IsRepaired s k before o history → IsRepaired s k before o (noted note packet ∷ history)
other_repaired s k before o note packet history e (sound, inl closed) = (other_sound s k note packet history e sound, inl (other_none s k note packet history e closed))
other_repaired s k before o note packet history e (sound, inr done) = (
  other_sound s k note packet history e sound,
  inr (record {
    left = done.left;
    repairs = done.repairs;
    state = at_other s k (base before) (with_left (served s before o.burst) done.left ∷ o.others) (wires (run_in s before o.burst)) done.repairs note packet history e done.state;
    unstopped = done.unstopped;
    is_left = done.is_left;
    leaves = done.leaves;
  }),
)

own_repair : (s : Settings) (k : ℕ) (before : History) (o : Opened s k before) (client n q : ℕ) (h : Held) (history : History) → eqb client k ≡ true
    → h.wire ≤ may_take s (hold s history) k history → IsRepaired s k before o history → IsRepaired s k before o (noted (note.Repair client n q) (Some h) ∷ history)
own_repair s k before o client n q h history t le (sound, inl closed) = (sound, inl (none_stays s k (note.Repair client n q) (Some h) history (λ f r j e. absurd cc) closed))
own_repair s k before o client n q h history t le (sound, inr done) = (
  sound,
  inr (
      let held = held_in s before in
      let same : hold s history ≡ held = ap (λ (arrived : List Arrival). sources.hold s.channel.window s.channel.ring (stream_of s.channel.window arrived)) done.state.same_arrivals in
      let fits = subst (λ (l : List Held). h.wire ≤ may_take s l k history) same le in
      let takes = takes_at_most s k before o held history done.left done.repairs done.state in
      record {
        left = done.left - h.wire;
        repairs = done.repairs + h.wire;
        state = at_repair s k (base before) (with_left (served s before o.burst) done.left) o.others (wires (run_in s before o.burst)) done.repairs client n q h history t done.state;
        unstopped = done.unstopped;
        is_left = omega (arith, done.is_left);
        leaves = λ b.
            let unspent = o.burst.rate + kept s o.burst - wires (run_in s before o.burst) in
            let kept_now = cond-true (ltb (next (served s before o.burst)) (hi held)) (min s.channel.depth unspent) 0 b in
            let enough = done.leaves b in
            omega (arith, fits, takes, kept_now, enough, done.is_left);
      }
      ),
)

each_repair : (s : Settings) (k : ℕ) (before : History) (o : Opened s k before) (n : Note) (packet : Option Held) (history : History) → is_repair n ≡ true → Allows s history n packet
    → IsRepaired s k before o history → IsRepaired s k before o (noted n packet ∷ history)
each_repair s k before o (note.Repair client n q) packet history is a p =
    subst (λ (x : Option Held). IsRepaired s k before o (noted (note.Repair client n q) x ∷ history)) (sym a.packet_is)
    (⊎_elim (λ t. own_repair s k before o client n q a.h history t (subst (λ (j : ℕ). a.h.wire ≤ may_take s (hold s history) j history) (eqb-true client k t) a.fits) p)
    (λ f. other_repaired s k before o (note.Repair client n q) (Some a.h) history f p) (cases_Bool (eqb client k)))
each_repair s k before o (note.Gone client n) packet history is a p = other_repaired s k before o (note.Gone client n) packet history refl p
each_repair s k before o n packet history is a p = absurd (true≢false (sym is))

of_none : (k : ℕ) (n : Note) → is_forgotten n ≡ true → is_of k n ≡ false
of_none k (note.Forgot client) is = refl
of_none k n is = absurd (true≢false (sym is))

-- The client's burst after a tick.
pub ticked : (s : Settings) (k : ℕ) (before : History) (o : Opened s k before) → IsLegal s (after_tick s (base before)) → Sound s k before → IsRepaired s k before o (after_tick s (base before))
unfolding after_tick
ticked s k before o l sound =
    let runs = bursts_served s (base before) in
    let repairs = repairs_sent s runs in
    let after = idle_forgotten s repairs in
    let forgotten = all_forgotten_put s (known repairs) repairs in
    through is_forgotten (IsRepaired s k before o) (λ n packet h is p. other_repaired s k before o n packet h (of_none k n is) p) repairs after forgotten
    (onwards is_repair s (IsRepaired s k before o) (λ n packet h is a legal p. each_repair s k before o n packet h is a p) runs repairs (all_repaired_put s (hold s runs) (pending runs) runs)
    (legal_before s is_forgotten repairs after forgotten l) (start (all_turns s k before o sound)))
  where
    start : {history : History} → HasRun s k before o history → IsRepaired s k before o history
    start (sound, inl closed) = (sound, inl closed)
    start (sound, inr ran) =
        let left = (has_sent (in_tick s o.burst) (run_in s before o.burst)).less_left in (
          sound,
          inr (record {
            left = (served s before o.burst).left;
            repairs = 0;
            state = ran.state;
            unstopped = ran.unstopped;
            is_left = omega (arith, left);
            leaves = λ b. omega (arith, left);
          }),
        )

-- Where none is open as a tick begins, none is after it.
abbrev pub Shut : Settings → ℕ → History → Type 0
Shut s k history = Sound s k history × IsClosed s k history

each_shut : (s : Settings) (k : ℕ) (n : Note) (packet : Option Held) (history : History) → is_of_tick n ≡ true → Allows s history n packet → Shut s k history → Shut s k (noted n packet ∷ history)
each_shut s k (note.Accept client first rate join) packet history is a p = absurd (true≢false (sym is))
each_shut s k (note.End client why) packet history is a p = (
  (λ t. let some : Some a.opened.burst ≡ None = sym (subst (λ (j : ℕ). open_burst s j history ≡ Some a.opened.burst) (eqb-true client k t) a.opened.is_open) ∙ p.1 in absurd cc, p.0),
  none_stays s k (note.End client why) packet history (λ f r j e. absurd cc) p.1,
)
each_shut s k n packet history is a p = (p.0, none_stays s k n packet history (λ f r j e. absurd cc) p.1)

pub ticked_shut : (s : Settings) (k : ℕ) (before : History) → IsLegal s (after_tick s (base before)) → IsClosed s k before → Sound s k before → Shut s k (after_tick s (base before))
ticked_shut s k before l closed sound =
    onwards is_of_tick s (Shut s k) (λ n packet h is a legal p. each_shut s k n packet h is a p) (base before) (after_tick s (base before)) (tick_puts s (base before)) l
    (sound, none_begun s k before closed)
