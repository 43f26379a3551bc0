-- Between two events an open burst has lasted fewer than `limit` ticks: each tick ends those that have lasted so many.
use Rattle.std.proofs.Common.{◌≡◌, ℕ, ◌-◌, ◌<◌, ◌≤◌, List, ◌∷◌, Option, Some, None, refl, sym, subst, arith, eqb, Bool, false}
use Rattle.std.specs.Prelude.{◌≢◌}
use Rattle.std.proofs.lemmas.Bool.{cond_both, eqb-false, true≢false}
use Rattle.rams_model.specs.declared.{Event.Event, Held.Held, Cause.Cause, Note.Note}
use Rattle.rams_model.specs.declared.Cause.TheVariants as cause
use Rattle.rams_model.specs.declared.Note.TheVariants as note
use Rattle.rams_model.specs.Service.{Settings, Heard, tick, heard_of, began, noted, History, hold, known, Burst, next, after_note, size_of, bursts, open_burst, pending, run, send, is_lost, is_stop, after_run, run_sent, burst_served, bursts_served, repairs_sent, after_tick, history_of, idle_forgotten, told, after_message}
use Rattle.rams_model.specs.Packets.{from_number}
use Rattle.rams_model.proofs.Legal.{is_tick}
use Rattle.rams_model.proofs.Items.{is_note, is_run_of, is_repair, is_forgotten, Puts, message_puts, send_puts, all_repaired_put, all_forgotten_put}
use Rattle.rams_model.proofs.Induction.{through, between}
use Rattle.rams_model.proofs.OpenBurst.{Holds, holds_of, end_closes, at_note, at_tick}
use Rattle.rams_model.proofs.Turns.{in_turn}

-- it has lasted at most so many ticks
abbrev Within : ℕ → Burst → Type 0
Within most b = b.ticks ≤ most

abbrev Lasts : Settings → ℕ → ℕ → History → Type 0
Lasts s most k history = Holds (Within most) (open_burst s k history)

-- no note makes it more
same_ticks : (s : Settings) (n : Note) (size : ℕ) (b : Burst) → (after_note s n size b).ticks ≡ b.ticks
same_ticks s (note.Update client rate join) size b = refl
same_ticks s (note.StopAt client m) size b = refl
same_ticks s (note.Burst client m q) size b = refl
same_ticks s (note.Repair client m q) size b = refl
same_ticks s (note.End client why) size b = refl
same_ticks s n size b = refl

noted_lasts : (s : Settings) (most k : ℕ) (n : Note) (packet : Option Held) (history : History) → Lasts s most k history → Lasts s most k (noted n packet ∷ history)
noted_lasts s most k n packet history l =
    at_note s k (Within most) n packet history
    (record { begins = λ first rate join e. omega arith; changes = λ b own is within. omega (arith, same_ticks s n (size_of packet) b, within) }) l

lasts_through : (s : Settings) (most k : ℕ) (kind : Note → Bool) (before after : History) → Puts kind before after → Lasts s most k before → Lasts s most k after
lasts_through s most k kind = through kind (Lasts s most k) (λ n packet h is l. noted_lasts s most k n packet h l)

closed_lasts : (s : Settings) (most k : ℕ) (history : History) → open_burst s k history ≡ None → Lasts s most k history
closed_lasts s most k history e = subst (Holds (Within most)) (sym e) tt

ended_lasts : (s : Settings) (most k : ℕ) (why : Cause) (history : History) → Lasts s most k (noted (note.End k why) None ∷ history)
ended_lasts s most k why history = closed_lasts s most k (noted (note.End k why) None ∷ history) (end_closes s k why None history)

-- a burst that goes on after its run has a tick left
run_lasts : (s : Settings) (k : ℕ) (o : Option Burst) (history : History) → open_burst s k history ≡ o → Lasts s s.channel.limit k history
    → Lasts s (s.channel.limit - 1) k (after_run s k o history)
run_lasts s k None history e l = closed_lasts s (s.channel.limit - 1) k history e
run_lasts s k (Some b) history e l =
    let most = s.channel.limit - 1 in
    cond_both (is_stop b.stop (next b)) _ _ (Lasts s most k) (λ t. ended_lasts s most k cause.Stopped history)
    (λ f. cond_both (eqb b.ticks s.channel.limit) _ _ (Lasts s most k) (λ t. ended_lasts s most k cause.Limit history)
    (λ g. let other : b.ticks ≢ s.channel.limit = eqb-false b.ticks s.channel.limit g in
    let within : b.ticks ≤ s.channel.limit = holds_of (Within s.channel.limit) (open_burst s k history) b l e in
    subst (Holds (Within most)) (sym e) (omega (arith, other, within))))

served_lasts : (s : Settings) (held : List Held) (k : ℕ) (o : Option Burst) (history : History) → open_burst s k history ≡ o → Lasts s s.channel.limit k history
    → Lasts s (s.channel.limit - 1) k (burst_served s held k o history)
served_lasts s held k None history e l = closed_lasts s (s.channel.limit - 1) k history e
served_lasts s held k (Some b) history e l =
    let most = s.channel.limit in
    let hs = run b.stop (next b) b.left (from_number (next b) held) in
    let sent = send s k hs history in
    cond_both (is_lost (next b) held) (noted (note.End k cause.Lost) None ∷ history) (run_sent s k sent) (Lasts s (most - 1) k) (λ t. ended_lasts s (most - 1) k cause.Lost history)
    (λ f. run_lasts s k (open_burst s k sent) sent refl (lasts_through s most k (is_run_of k) history sent (send_puts s k hs history) l))

-- so has each, once all were served
runs_last : (s : Settings) (j : ℕ) (history : History) → Lasts s s.channel.limit j history → Lasts s (s.channel.limit - 1) j (bursts_served s history)
runs_last s j history l =
    let most = s.channel.limit in
    in_turn s j history (Lasts s most j) (Lasts s (most - 1) j) (λ n packet h runs other l. noted_lasts s most j n packet h l) (λ n packet h runs other l. noted_lasts s (most - 1) j n packet h l)
    (λ h l. served_lasts s (hold s history) j (open_burst s j h) h refl l) l (closed_lasts s (most - 1) j history)

tick_lasts : (s : Settings) (j : ℕ) (history : History) → Lasts s s.channel.limit j history → Lasts s (s.channel.limit - 1) j (after_tick s history)
unfolding after_tick
tick_lasts s j history l =
    let most = s.channel.limit - 1 in
    let served = bursts_served s history in
    let sent = repairs_sent s served in
    lasts_through s most j is_forgotten sent (idle_forgotten s sent) (all_forgotten_put s (known sent) sent)
    (lasts_through s most j is_repair served sent (all_repaired_put s (hold s served) (pending served) served) (runs_last s j history l))

begun_lasts : (s : Settings) (most j : ℕ) (heard : Heard) (history : History) → is_tick heard ≡ false → Lasts s most j history → Lasts s most j (began heard ∷ history)
unfolding bursts
begun_lasts s most j tick history other l = absurd (true≢false other)
begun_lasts s most j heard history other l = l

lasting : (s : Settings) (events : List Event) (j : ℕ) → 1 ≤ s.channel.limit → Lasts s (s.channel.limit - 1) j (history_of s events)
unfolding bursts
lasting s events j some =
    let most = s.channel.limit - 1 in
    between s (Lasts s most j)
    (λ event before n other once l. let heard = heard_of s.channel event in
    noted_lasts s most j n None (began heard ∷ history_of s before) (begun_lasts s most j heard (history_of s before) other l))
    (λ client ms history l. l)
    (λ client m history legal l. let asked = told client m ∷ history in
    lasts_through s most j is_note asked (after_message s client m asked) (message_puts s client m asked) l)
    (λ before legal l. tick_lasts s j (began tick ∷ history_of s before)
    (at_tick s j (Within most) (Within s.channel.limit) (history_of s before) (λ b within. omega (arith, within, some)) l)) tt events

pub ticks_left : (s : Settings) (k : ℕ) (b : Burst) (events : List Event) → 1 ≤ s.channel.limit → open_burst s k (history_of s events) ≡ Some b → b.ticks < s.channel.limit
ticks_left s k b events some e =
    let within : b.ticks ≤ s.channel.limit - 1 = holds_of (Within (s.channel.limit - 1)) (open_burst s k (history_of s events)) b (lasting s events k some) e in
    omega (arith, within, some)
