-- What a burst is sent in a tick, on the history and on what is kept of its client.
use Rattle.std.proofs.Common.{◌≡◌, ℕ, ◌+◌, ◌-◌, ◌%◌, min, Bool, true, false, cond, List, [], ◌∷◌, Option, Some, None, refl, ap, sym, ◌∙◌, subst, arith, eqb, ltb}
use Rattle.std.specs.Option.{option_map}
use Rattle.std.proofs.lemmas.Bool.{cond-true, eq-eqb}
use Rattle.rams_model.specs.declared.{Held.Held, Info.Info, Cause.Cause}
use Rattle.rams_model.specs.declared.Cause.TheVariants.{Stopped, Lost, Limit}
use Rattle.rams_model.specs.declared.Note.TheVariants.{Burst as BurstNote, Repair, End}
use Rattle.rams_model.specs.Service.{Settings, tick, began, noted, History, as_tick_began, sendings, sequence, next, in_tick, after_note, newest_changed, if_open, newest_open, size_of, bursts, open_burst, sent_now, is_burst_of, is_repair_of, cap, run_left, kept_from_repairs, may_take, run, send, is_lost, is_stop, burst_served}
use Rattle.rams_model.specs.Packets.{hi, from_number, following}
use Rattle.rams_model.specs.Service.Bursts as model
use Rattle.rams_model.specs.Service.Tick as ticks
use Rattle.rams_model.proofs.OpenBurst.{changed_open}
use Rattle.client_table.specs.declared.{Burst.Burst, Entry.Entry}
use Rattle.tick_core.specs.declared.{allowance.Allowance.Allowance, runs.Sent.Sent}
use Rattle.tick_draft.specs.{Drafted, with_packet, with_end}
use Rattle.tick_core.specs.{unsent, after_packet, sent_after, with_run, run_of, after_run, end_of, allowance, left_by_run, allowance_of, with_served}
use Rattle.tick_core.proofs.Shown.{Shows, shows_burst, shows_end}

-- ---- the open burst after a note of its client
-- a change that ends the open one
changed_ended : (f : model.Burst → model.Burst) (cause : Cause) → ((b : model.Burst) → (f b).ended ≡ Some cause) → (bs : List model.Burst) → newest_open (newest_changed f bs) ≡ None
changed_ended f cause ends [] = refl
changed_ended f cause ends (b ∷ bs) = ap (λ (o : Option Cause). if_open o (f b)) (ends b)

itself : (k : ℕ) → eqb k k ≡ true
itself k = eq-eqb k k refl

pub tick_open : (s : Settings) (k : ℕ) (history : History) → open_burst s k (began tick ∷ history) ≡ option_map (in_tick s) (open_burst s k history)
unfolding bursts
tick_open s k history = changed_open (in_tick s) (λ b. refl) (bursts s k history)

pub burst_open : (s : Settings) (k n seq : ℕ) (packet : Option Held) (history : History)
    → open_burst s k (noted (BurstNote k n seq) packet ∷ history) ≡ option_map (after_note s (BurstNote k n seq) (size_of packet)) (open_burst s k history)
unfolding bursts
burst_open s k n seq packet history =
    ap newest_open (cond-true (eqb k k) (newest_changed (after_note s (BurstNote k n seq) (size_of packet)) (bursts s k history)) (bursts s k history) (itself k))
    ∙ changed_open (after_note s (BurstNote k n seq) (size_of packet)) (λ b. refl) (bursts s k history)

pub repair_open : (s : Settings) (k n seq : ℕ) (packet : Option Held) (history : History)
    → open_burst s k (noted (Repair k n seq) packet ∷ history) ≡ option_map (after_note s (Repair k n seq) (size_of packet)) (open_burst s k history)
unfolding bursts
repair_open s k n seq packet history =
    ap newest_open (cond-true (eqb k k) (newest_changed (after_note s (Repair k n seq) (size_of packet)) (bursts s k history)) (bursts s k history) (itself k))
    ∙ changed_open (after_note s (Repair k n seq) (size_of packet)) (λ b. refl) (bursts s k history)

pub end_open : (s : Settings) (k : ℕ) (cause : Cause) (packet : Option Held) (history : History) → open_burst s k (noted (End k cause) packet ∷ history) ≡ None
unfolding bursts
end_open s k cause packet history =
    ap newest_open (cond-true (eqb k k) (newest_changed (after_note s (End k cause) (size_of packet)) (bursts s k history)) (bursts s k history) (itself k))
    ∙ changed_ended (after_note s (End k cause) (size_of packet)) cause (λ b. refl) (bursts s k history)

-- ---- the number of the next retransmission
one_further : (seq0 sent : ℕ) → (seq0 + (sent + 1)) % 65536 ≡ following ((seq0 + sent) % 65536)
one_further seq0 sent = omega arith

pub burst_sequence : (s : Settings) (k n seq : ℕ) (packet : Option Held) (history : History) → sequence s k (noted (BurstNote k n seq) packet ∷ history) ≡ following (sequence s k history)
unfolding sendings
burst_sequence s k n seq packet history =
    ap (λ (m : ℕ). (s.channel.seq0 + m) % 65536) (cond-true (eqb k k) (sendings k history + 1) (sendings k history) (itself k)) ∙ one_further s.channel.seq0 (sendings k history)

pub repair_sequence : (s : Settings) (k n seq : ℕ) (packet : Option Held) (history : History) → sequence s k (noted (Repair k n seq) packet ∷ history) ≡ following (sequence s k history)
unfolding sendings
repair_sequence s k n seq packet history =
    ap (λ (m : ℕ). (s.channel.seq0 + m) % 65536) (cond-true (eqb k k) (sendings k history + 1) (sendings k history) (itself k)) ∙ one_further s.channel.seq0 (sendings k history)

-- ---- what the run left
less_more : (a b c : ℕ) → a - (b + c) ≡ a - b - c
less_more a b c = omega arith

burst_run_left : (s : Settings) (k n seq : ℕ) (packet : Option Held) (history : History) → run_left s k (noted (BurstNote k n seq) packet ∷ history) ≡ run_left s k history - size_of packet
unfolding sent_now as_tick_began
burst_run_left s k n seq packet history =
    ap (λ (m : ℕ). cap s k history - m) (cond-true (eqb k k) (sent_now (is_burst_of k) history + size_of packet) (sent_now (is_burst_of k) history) (itself k))
    ∙ less_more (cap s k history) (sent_now (is_burst_of k) history) (size_of packet)

-- ---- a burst on its way
pub record IsRunning (s : Settings) (k : ℕ) (history : History) (at : Sent) (stop : Option ℕ) (passed : ℕ) (last : Info) (b : model.Burst) : Type 0 where
  pub open_is : open_burst s k history ≡ Some b
  pub next_is : next b ≡ at.next
  pub left_is : run_left s k history ≡ at.left
  pub seq_is : sequence s k history ≡ at.seq
  pub stop_is : b.stop ≡ stop
  pub ticks_is : b.ticks ≡ passed
  pub last_is : b.last ≡ last
  pub repairs_is : sent_now (is_repair_of k) history ≡ 0

pub record IsUnderWay (s : Settings) (k : ℕ) (history : History) (at : Sent) (stop : Option ℕ) (passed : ℕ) (last : Info) (d : Drafted) : Type 0 where
  pub burst : model.Burst
  pub running : IsRunning s k history at stop passed last burst
  pub shows : Shows s history d

one_sent : (s : Settings) (k : ℕ) (h : Held) (history : History) (at : Sent) (stop : Option ℕ) (passed : ℕ) (last : Info) (d : Drafted) → IsUnderWay s k history at stop passed last d
    → IsUnderWay s k (noted (BurstNote k h.n (sequence s k history)) (Some h) ∷ history) (after_packet at h) stop passed last (with_packet d (BurstNote k h.n at.seq) k at.seq h)
unfolding sent_now
one_sent s k h history at stop passed last d way =
    let seq = sequence s k history in
    let b = way.burst in
    let r = way.running in
    record {
      burst = after_note s (BurstNote k h.n seq) h.wire b;
      running = record {
        open_is = burst_open s k h.n seq (Some h) history ∙ ap (option_map (after_note s (BurstNote k h.n seq) h.wire)) r.open_is;
        next_is = omega (arith, r.next_is);
        left_is = burst_run_left s k h.n seq (Some h) history ∙ ap (λ (m : ℕ). m - h.wire) r.left_is;
        seq_is = burst_sequence s k h.n seq (Some h) history ∙ ap following r.seq_is;
        stop_is = r.stop_is;
        ticks_is = r.ticks_is;
        last_is = r.last_is;
        repairs_is = r.repairs_is;
      };
      shows = subst (λ (q : ℕ). Shows s (noted (BurstNote k h.n seq) (Some h) ∷ history) (with_packet d (BurstNote k h.n q) k q h)) r.seq_is (shows_burst s history k seq h d way.shows);
    }

pub all_sent : (s : Settings) (k : ℕ) (hs : List Held) (history : History) (at : Sent) (stop : Option ℕ) (passed : ℕ) (last : Info) (d : Drafted) → IsUnderWay s k history at stop passed last d
    → IsUnderWay s k (send s k hs history) (sent_after at hs) stop passed last (with_run k at.seq hs d)
unfolding send sent_after with_run
all_sent s k [] history at stop passed last d way = way
all_sent s k (h ∷ hs) history at stop passed last d way =
    all_sent s k hs (noted (BurstNote k h.n (sequence s k history)) (Some h) ∷ history) (after_packet at h) stop passed last (with_packet d (BurstNote k h.n at.seq) k at.seq h) (one_sent s k h history at stop passed last d way)

-- ---- a client that was served
-- what a client's repairs may take, and the number of its next retransmission
pub record IsAllowed (s : Settings) (held : List Held) (history : History) (a : Allowance) : Type 0 where
  pub may_take_is : may_take s held a.client history ≡ a.may_take
  pub seq_is : sequence s a.client history ≡ a.seq

pub record IsServed (s : Settings) (held : List Held) (history : History) (d : Drafted) (a : Allowance) : Type 0 where
  pub shows : Shows s history d
  pub allowed : IsAllowed s held history a

either : (s : Settings) (held : List Held) (b : Bool) (h1 h2 : History) (d1 d2 : Drafted) (a1 a2 : Allowance) → IsServed s held h1 d1 a1 → IsServed s held h2 d2 a2
    → IsServed s held (cond b h1 h2) (cond b d1 d2) (cond b a1 a2)
either s held true h1 h2 d1 d2 a1 a2 first second = first
either s held false h1 h2 d1 d2 a1 a2 first second = second

-- what may be taken where nothing was repaired yet
unrepaired : (s : Settings) (held : List Held) (k : ℕ) (history : History) (left : ℕ) (o : Option model.Burst) → run_left s k history ≡ left → open_burst s k history ≡ o → sent_now (is_repair_of k) history ≡ 0
    → may_take s held k history ≡ left - kept_from_repairs s held left o
unrepaired s held k history left o left_is open_is none =
    ap (λ (m : ℕ). run_left s k history - kept_from_repairs s held (run_left s k history) (open_burst s k history) - m) none
    ∙ (ap (λ (m : ℕ). m - kept_from_repairs s held m (open_burst s k history) - 0) left_is
    ∙ (ap (λ (p : Option model.Burst). left - kept_from_repairs s held left p - 0) open_is ∙ omega arith))

-- a burst that ends
ended : (s : Settings) (held : List Held) (k : ℕ) (cause : Cause) (history : History) (b : model.Burst) (last : Info) (left seq : ℕ) (d : Drafted) → open_burst s k history ≡ Some b → last ≡ b.last
    → run_left s k history ≡ left → sequence s k history ≡ seq → sent_now (is_repair_of k) history ≡ 0 → Shows s history d
    → IsServed s held (noted (End k cause) None ∷ history) (with_end d k last (Some cause)) (allowance k (left - 0) seq)
unfolding sent_now as_tick_began sendings
ended s held k cause history b last left seq d open_is last_is left_is seq_is none shows = record {
  shows = shows_end s history k cause b last d open_is last_is shows;
  allowed = record { may_take_is = unrepaired s held k (noted (End k cause) None ∷ history) left None left_is (end_open s k cause None history) none; seq_is = seq_is };
}

-- one that goes on
goes_on : (s : Settings) (held : List Held) (k : ℕ) (history : History) (at : Sent) (stop : Option ℕ) (passed : ℕ) (last : Info) (d : Drafted) → IsUnderWay s k history at stop passed last d
    → IsServed s held history d (left_by_run s held k None at)
goes_on s held k history at stop passed last d way =
    let r = way.running in
    record {
      shows = way.shows;
      allowed = record {
        may_take_is = unrepaired s held k history at.left (Some way.burst) r.left_is r.open_is r.repairs_is
            ∙ ap (λ (m : ℕ). at.left - cond (ltb m (hi held)) (min s.channel.depth at.left) 0) r.next_is;
        seq_is = r.seq_is;
      };
    }

-- the end that a run brings, by its two tests
run_ends : (s : Settings) (held : List Held) (k : ℕ) (stops lasted : Bool) (history : History) (at : Sent) (stop : Option ℕ) (passed : ℕ) (last : Info) (d : Drafted) → IsUnderWay s k history at stop passed last d
    → let cause = cond stops (Some Stopped) (cond lasted (Some Limit) None) in
    IsServed s held (cond stops (noted (End k Stopped) None ∷ history) (cond lasted (noted (End k Limit) None ∷ history) history)) (with_end d k last cause) (left_by_run s held k cause at)
run_ends s held k true lasted history at stop passed last d way =
    let r = way.running in ended s held k Stopped history way.burst last at.left at.seq d r.open_is (sym r.last_is) r.left_is r.seq_is r.repairs_is way.shows
run_ends s held k false true history at stop passed last d way =
    let r = way.running in ended s held k Limit history way.burst last at.left at.seq d r.open_is (sym r.last_is) r.left_is r.seq_is r.repairs_is way.shows
run_ends s held k false false history at stop passed last d way = goes_on s held k history at stop passed last d way

-- the run of a burst that isn't lost
run_served : (s : Settings) (held : List Held) (k : ℕ) (history : History) (at : Sent) (eb : Burst) (last : Info) (d : Drafted) → IsUnderWay s k history at eb.stop (eb.ticks + 1) last d
    → let cause = end_of s.channel.limit eb at.next in
    IsServed s held (ticks.after_run s k (open_burst s k history) history) (with_end d k last cause) (left_by_run s held k cause at)
run_served s held k history at eb last d way =
    let r = way.running in
    let b = way.burst in
    let stops : is_stop b.stop (next b) ≡ is_stop eb.stop at.next = ap (λ (o : Option ℕ). is_stop o (next b)) r.stop_is ∙ ap (is_stop eb.stop) r.next_is in
    let lasted : eqb b.ticks s.channel.limit ≡ eqb (eb.ticks + 1) s.channel.limit = ap (λ (n : ℕ). eqb n s.channel.limit) r.ticks_is in
    let same : ticks.after_run s k (open_burst s k history) history
    ≡ cond (is_stop eb.stop at.next) (noted (End k Stopped) None ∷ history) (cond (eqb (eb.ticks + 1) s.channel.limit) (noted (End k Limit) None ∷ history) history) =
    ap (λ (o : Option model.Burst). ticks.after_run s k o history) r.open_is
    ∙ (ap (λ (c : Bool). cond c (noted (End k Stopped) None ∷ history) (cond (eqb b.ticks s.channel.limit) (noted (End k Limit) None ∷ history) history)) stops
    ∙ ap (λ (c : Bool). cond (is_stop eb.stop at.next) (noted (End k Stopped) None ∷ history) (cond c (noted (End k Limit) None ∷ history) history)) lasted) in
    let cause = end_of s.channel.limit eb at.next in
    subst (λ (h : History). IsServed s held h (with_end d k last cause) (left_by_run s held k cause at)) (sym same)
    (run_ends s held k (is_stop eb.stop at.next) (eqb (eb.ticks + 1) s.channel.limit) history at eb.stop (eb.ticks + 1) last d way)

-- an entry's burst and the open one, in a tick that has not sent anything of it yet
pub record AreAlike (eb : Burst) (b : model.Burst) : Type 0 where
  pub next_is : next b ≡ eb.next
  pub stop_is : b.stop ≡ eb.stop
  pub ticks_is : b.ticks ≡ eb.ticks + 1
  pub left_is : b.left ≡ eb.rate + eb.kept
  pub last_is : eb.last ≡ b.last

abbrev pub AreBothAlike : Option Burst → Option model.Burst → Type 0
AreBothAlike None None = Unit {0}
AreBothAlike None (Some b) = ⊥
AreBothAlike (Some eb) None = ⊥
AreBothAlike (Some eb) (Some b) = AreAlike eb b

-- what a client may be sent at most, by what is kept of it
abbrev pub cap_by : Settings → Option Burst → ℕ
cap_by s None = s.channel.burst
cap_by s (Some eb) = eb.rate + eb.kept

-- What is kept of a client is what the history says, in a tick that has not served it yet.
pub record IsReady (s : Settings) (k : ℕ) (history : History) (e : Entry) : Type 0 where
  pub seq_is : sequence s k history ≡ e.seq
  pub burst_is : AreBothAlike e.burst (open_burst s k history)
  pub cap_is : cap s k history ≡ cap_by s e.burst
  pub no_run : sent_now (is_burst_of k) history ≡ 0
  pub no_repair : sent_now (is_repair_of k) history ≡ 0

lost_or_run : (s : Settings) (held : List Held) (k : ℕ) (e : Entry) (eb : Burst) (b : model.Burst) (history : History) (d : Drafted) → open_burst s k history ≡ Some b → AreAlike eb b
    → run_left s k history ≡ eb.rate + eb.kept → sequence s k history ≡ e.seq → sent_now (is_repair_of k) history ≡ 0 → Shows s history d
    → IsServed s held (burst_served s held k (Some b) history) (with_served s held k e (Some eb) d) (allowance_of s held k e (Some eb))
lost_or_run s held k e eb b history d open_is alike left_is seq_is none shows =
    let at = unsent e.seq eb in
    let hs = run_of held eb in
    let way : IsUnderWay s k history at eb.stop (eb.ticks + 1) b.last d = record {
      burst = b;
      running = record { open_is = open_is; next_is = alike.next_is; left_is = left_is; seq_is = seq_is; stop_is = alike.stop_is; ticks_is = alike.ticks_is; last_is = refl; repairs_is = none };
      shows = shows;
    } in
    let on = all_sent s k hs history at eb.stop (eb.ticks + 1) b.last d way in
    let cause = end_of s.channel.limit eb (after_run held e.seq eb).next in
    let after = send s k hs history in
    let served : IsServed s held (ticks.after_run s k (open_burst s k after) after) (with_end (with_run k e.seq hs d) k eb.last cause) (left_by_run s held k cause (after_run held e.seq eb)) =
    subst (λ (i : Info). IsServed s held (ticks.after_run s k (open_burst s k after) after) (with_end (with_run k e.seq hs d) k i cause) (left_by_run s held k cause (after_run held e.seq eb))) (sym alike.last_is)
    (run_served s held k after (after_run held e.seq eb) eb b.last (with_run k e.seq hs d) on) in
    let lost = subst (λ (n : ℕ). IsServed s held (noted (End k Lost) None ∷ history) (with_end d k eb.last (Some Lost)) (allowance k n e.seq)) (omega arith) (ended s held k Lost history b eb.last (eb.rate + eb.kept) e.seq d open_is alike.last_is left_is seq_is none shows) in
    let sends = λ (r : List Held). ticks.after_run s k (open_burst s k (send s k r history)) (send s k r history) in
    let run_is : run b.stop (next b) b.left (from_number (next b) held) ≡ hs =
    ap (λ (o : Option ℕ). run o (next b) b.left (from_number (next b) held)) alike.stop_is
    ∙ (ap (λ (n : ℕ). run eb.stop n b.left (from_number n held)) alike.next_is ∙ ap (λ (n : ℕ). run eb.stop eb.next n (from_number eb.next held)) alike.left_is) in
    let same : burst_served s held k (Some b) history ≡ cond (is_lost eb.next held) (noted (End k Lost) None ∷ history) (sends hs) =
    ap (λ (n : ℕ). cond (is_lost n held) (noted (End k Lost) None ∷ history) (sends (run b.stop (next b) b.left (from_number (next b) held)))) alike.next_is
    ∙ ap (λ (r : List Held). cond (is_lost eb.next held) (noted (End k Lost) None ∷ history) (sends r)) run_is in
    subst (λ (h : History). IsServed s held h (with_served s held k e (Some eb) d) (allowance_of s held k e (Some eb))) (sym same)
    (either s held (is_lost eb.next held) _ _ _ _ _ _ lost served)

serve_by : (s : Settings) (held : List Held) (k : ℕ) (e : Entry) (burst : Option Burst) (o : Option model.Burst) (history : History) (d : Drafted) → open_burst s k history ≡ o → AreBothAlike burst o
    → run_left s k history ≡ cap_by s burst → sequence s k history ≡ e.seq → sent_now (is_repair_of k) history ≡ 0 → Shows s history d
    → IsServed s held (burst_served s held k o history) (with_served s held k e burst d) (allowance_of s held k e burst)
serve_by s held k e None None history d open_is alike left_is seq_is none shows = record {
  shows = shows;
  allowed = record { may_take_is = unrepaired s held k history s.channel.burst None left_is open_is none ∙ omega arith; seq_is = seq_is };
}
serve_by s held k e None (Some b) history d open_is alike left_is seq_is none shows = absurd alike
serve_by s held k e (Some eb) None history d open_is alike left_is seq_is none shows = absurd alike
serve_by s held k e (Some eb) (Some b) history d open_is alike left_is seq_is none shows = lost_or_run s held k e eb b history d open_is alike left_is seq_is none shows

pub serve_one : (s : Settings) (held : List Held) (k : ℕ) (e : Entry) (history : History) (d : Drafted) → IsReady s k history e → Shows s history d
    → IsServed s held (burst_served s held k (open_burst s k history) history) (with_served s held k e e.burst d) (allowance_of s held k e e.burst)
serve_one s held k e history d ready shows =
    let left : run_left s k history ≡ cap_by s e.burst = omega (arith, ready.cap_is, ready.no_run) in
    serve_by s held k e e.burst (open_burst s k history) history d refl ready.burst_is left ready.seq_is ready.no_repair shows
