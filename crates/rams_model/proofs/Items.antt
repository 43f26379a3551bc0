-- What a message, or a tick, puts in front of a history: notes, and of which kinds.
use Rattle.std.proofs.Common.{◌≡◌, ℕ, ◌+◌, ◌-◌, ◌*◌, ◌≤◌, Bool, true, false, List, [], ◌∷◌, ◌++◌, length, Option, Some, None, refl, ap, sym, ◌∙◌, arith, append_assoc}
use Rattle.std.specs.Prelude.{◌==◌, ◌&&◌, not, nat_le, if◌then◌else◌, find, Result, Ok, Err}
use Rattle.std.proofs.lemmas.Bool.{cond_both, eq-eqb, true≢false}
use Rattle.std.proofs.lemmas.List.{length-append}
use Rattle.rams_model.specs.declared.{fault.TlvFault.TlvFault, held.Held.Held, message.Stop.Stop, note.Note.Note}
use Rattle.rams_model.specs.declared.note.Note.TheVariants as note
use Rattle.rams_model.specs.declared.note.Cause.TheVariants as cause
use Rattle.rams_model.specs.Service.{Settings, Message, bye, nack, asks, stops, began, told, noted, History, hold, known, opened, is_among, sequence, ssrc, Burst, next, open_burst, has_open, Wanted, pending, idle, channel_left, may_take, verdict, room, number_answer, is_bye_of, is_before, after_numbers, after_nack, stop_set, on_stop, stop_burst, after_stop, after_bye, after_message, run, send, is_lost, is_stop, after_run, run_sent, burst_served, all_served, repaired, all_repaired, all_forgotten, bursts_served, repairs_sent, idle_forgotten, after_tick}
use Rattle.rams_model.specs.Formats.{Framed}
use Rattle.rams_model.specs.Service.Rates as rates
use Rattle.rams_model.specs.Packets.{from_number}
use Rattle.rams_model.proofs.Legal.{is_of_runs}
use Rattle.rams_model.proofs.ListFacts.{few_passed}

-- each of these items is a note of the kind
abbrev pub AreOfKind : (Note → Bool) → History → Type 0
AreOfKind kind [] = Unit {0}
AreOfKind kind (noted note packet ∷ items) = (kind note ≡ true) × AreOfKind kind items
AreOfKind kind (_ ∷ items) = ⊥

-- whatever note it is
abbrev pub is_note : Note → Bool
is_note note = true

-- a note of this client's run
abbrev pub is_run_of : ℕ → Note → Bool
is_run_of k (note.Burst client n number) = client == k
is_run_of k (note.End client why) = client == k
is_run_of k _ = false

-- a repair is sent, or is gone
abbrev pub is_repair : Note → Bool
is_repair (note.Repair client n number) = true
is_repair (note.Gone client n) = true
is_repair _ = false

abbrev pub is_forgotten : Note → Bool
is_forgotten (note.Forgot client) = true
is_forgotten _ = false

-- a note of a tick
abbrev pub is_of_tick : Note → Bool
is_of_tick (note.Burst client n number) = true
is_of_tick (note.End client why) = true
is_of_tick (note.Repair client n number) = true
is_of_tick (note.Gone client n) = true
is_of_tick (note.Forgot client) = true
is_of_tick _ = false

pub run_in_runs : (k : ℕ) (n : Note) → is_run_of k n ≡ true → is_of_runs n ≡ true
run_in_runs k (note.Burst client n number) e = refl
run_in_runs k (note.End client why) e = refl
run_in_runs k n e = absurd (true≢false (sym e))

runs_in_tick : (n : Note) → is_of_runs n ≡ true → is_of_tick n ≡ true
runs_in_tick (note.Burst client n number) e = refl
runs_in_tick (note.End client why) e = refl
runs_in_tick n e = absurd (true≢false (sym e))

repair_in_tick : (n : Note) → is_repair n ≡ true → is_of_tick n ≡ true
repair_in_tick (note.Repair client n number) e = refl
repair_in_tick (note.Gone client n) e = refl
repair_in_tick n e = absurd (true≢false (sym e))

forgotten_in_tick : (n : Note) → is_forgotten n ≡ true → is_of_tick n ≡ true
forgotten_in_tick (note.Forgot client) e = refl
forgotten_in_tick n e = absurd (true≢false (sym e))

-- only notes of the kind stand in front
pub record Puts (kind : Note → Bool) (before after : History) : Type 0 where
  pub items : History
  pub splits : after ≡ items ++ before
  pub notes : AreOfKind kind items

kind_of_all : (kind other : Note → Bool) → ((n : Note) → kind n ≡ true → other n ≡ true) → (items : History) → AreOfKind kind items → AreOfKind other items
kind_of_all kind other wider [] a = tt
kind_of_all kind other wider (noted note packet ∷ items) a = (wider note a.0, kind_of_all kind other wider items a.1)
kind_of_all kind other wider (began heard ∷ items) a = a
kind_of_all kind other wider (told client message ∷ items) a = a

-- they are of a wider kind too
pub widen : (kind other : Note → Bool) → ((n : Note) → kind n ≡ true → other n ≡ true) → (before after : History) → Puts kind before after → Puts other before after
widen kind other wider before after p = record { items = p.items; splits = p.splits; notes = kind_of_all kind other wider p.items p.notes }

pub none : (kind : Note → Bool) (history : History) → Puts kind history history
none kind history = record { items = []; splits = refl; notes = tt }

pub one_more : (kind : Note → Bool) (n : Note) (packet : Option Held) (before after : History) → kind n ≡ true → Puts kind before after → Puts kind before (noted n packet ∷ after)
one_more kind n packet before after is p =
    record { items = noted n packet ∷ p.items; splits = ap (λ (h : History). noted n packet ∷ h) p.splits; notes = (is, p.notes) }

pub one : (kind : Note → Bool) (n : Note) (packet : Option Held) (history : History) → kind n ≡ true → Puts kind history (noted n packet ∷ history)
one kind n packet history is = one_more kind n packet history history is (none kind history)

notes_more : (kind : Note → Bool) (items more : History) → AreOfKind kind items → AreOfKind kind more → AreOfKind kind (items ++ more)
notes_more kind [] more n m = m
notes_more kind (noted note packet ∷ items) more n m = (n.0, notes_more kind items more n.1 m)
notes_more kind (began heard ∷ items) more n m = n
notes_more kind (told client message ∷ items) more n m = n

pub both : (kind : Note → Bool) (before mid after : History) → Puts kind before mid → Puts kind mid after → Puts kind before after
both kind before mid after p q = record {
  items = q.items ++ p.items;
  splits = q.splits ∙ ap (λ (h : History). q.items ++ h) p.splits ∙ sym (append_assoc q.items p.items before);
  notes = notes_more kind q.items p.items q.notes p.notes;
}

-- the answers to the messages
pub numbers_put : (s : Settings) (held : List Held) (k : ℕ) (lows : List ℕ) (history : History) → Puts is_note history (after_numbers s held k lows history)
unfolding after_numbers
numbers_put s held k [] history = none is_note history
numbers_put s held k (low ∷ lows) history =
    let answered = noted (number_answer room s held k history low) None ∷ history in
    both is_note history answered (after_numbers s held k lows answered) (one is_note (number_answer room s held k history low) None history refl) (numbers_put s held k lows answered)

nack_puts : (s : Settings) (k media : ℕ) (lows : List ℕ) (history : History) → Puts is_note history (after_nack s k media lows history)
nack_puts s k media lows history =
    cond_both (media == s.channel.ssrc) (after_numbers s (hold s history) k lows history) (noted (note.ForeignNack k) None ∷ history) (Puts is_note history)
    (λ t. numbers_put s (hold s history) k lows history) (λ f. one is_note (note.ForeignNack k) None history refl)

set_puts : (k n stop : ℕ) (history : History) → Puts is_note history (stop_set k n stop history)
set_puts k n stop history =
    let stopped = one is_note (note.StopAt k stop) None history refl in
    cond_both (stop == n) (noted (note.End k cause.Stopped) None ∷ noted (note.StopAt k stop) None ∷ history) (noted (note.StopAt k stop) None ∷ history) (Puts is_note history)
    (λ t. one_more is_note (note.End k cause.Stopped) None history (noted (note.StopAt k stop) None ∷ history) refl stopped) (λ f. stopped)

on_puts : (k : ℕ) (b : Burst) (named old : Option ℕ) (history : History) → Puts is_note history (on_stop k b named old history)
on_puts k b named (Some stop) history = one is_note (note.StopKept k stop) None history refl
on_puts k b named None history = set_puts k (next b) (rates.stop_of b.first (next b) named) history

burst_stop_puts : (k : ℕ) (named : Option ℕ) (o : Option Burst) (history : History) → Puts is_note history (stop_burst k named o history)
burst_stop_puts k named None history = one is_note (note.StopIdle k) None history refl
burst_stop_puts k named (Some b) history = on_puts k b named b.stop history

stop_puts : (s : Settings) (k : ℕ) (stop : Result Stop TlvFault) (history : History) → Puts is_note history (after_stop s k stop history)
stop_puts s k (Err fault) history = one is_note (note.Refuse k 404) None history refl
stop_puts s k (Ok stop) history = burst_stop_puts k stop.first_multicast (open_burst s k history) history

bye_puts : (s : Settings) (k : ℕ) (p : Framed) (history : History) → Puts is_note history (after_bye s k p history)
bye_puts s k p history =
    let left = noted (note.Bye k) None ∷ history in
    let ended = noted (note.End k cause.Bye) None ∷ left in
    cond_both (not (is_among k (known history) && is_bye_of p (ssrc k history))) (noted (note.ByeIdle k) None ∷ history)
    (if has_open s k history then ended else left) (Puts is_note history)
    (λ t. one is_note (note.ByeIdle k) None history refl)
    (λ f. cond_both (has_open s k history) ended left (Puts is_note history)
    (λ t. one_more is_note (note.End k cause.Bye) None history left refl (one is_note (note.Bye k) None history refl)) (λ g. one is_note (note.Bye k) None history refl))

pub message_puts : (s : Settings) (k : ℕ) (m : Message) (history : History) → Puts is_note history (after_message s k m history)
message_puts s k (bye p) history = bye_puts s k p history
message_puts s k (nack media from lows) history = nack_puts s k media lows history
message_puts s k (asks from request) history = one is_note (verdict s k history request) None history refl
message_puts s k (stops stop) history = stop_puts s k stop history

-- They are at most so many.
pub record PutsFew (kind : Note → Bool) (most : ℕ) (before after : History) : Type 0 where
  pub puts : Puts kind before after
  pub few : length puts.items ≤ most

few_none : (kind : Note → Bool) (most : ℕ) (history : History) → PutsFew kind most history history
unfolding none
few_none kind most history = let size : length (none kind history).items ≡ 0 = refl in record { puts = none kind history; few = omega (arith, size) }

few_one : (kind : Note → Bool) (most : ℕ) (n : Note) (packet : Option Held) (history : History) → kind n ≡ true → 1 ≤ most → PutsFew kind most history (noted n packet ∷ history)
unfolding none one_more one
few_one kind most n packet history is le =
    let size : length (one kind n packet history is).items ≡ 1 = refl in record { puts = one kind n packet history is; few = omega (arith, le, size) }

few_both : (kind : Note → Bool) (some more most : ℕ) (before mid after : History) → some + more ≤ most → PutsFew kind some before mid → PutsFew kind more mid after → PutsFew kind most before after
unfolding both
few_both kind some more most before mid after le p q =
    let puts = both kind before mid after p.puts q.puts in
    let size : length puts.items ≡ length (q.puts.items ++ p.puts.items) = refl in
    record { puts = puts; few = omega (arith, le, size, p.few, q.few, length-append q.puts.items p.puts.items) }

few_wider : (kind other : Note → Bool) → ((n : Note) → kind n ≡ true → other n ≡ true) → (most : ℕ) (before after : History) → PutsFew kind most before after → PutsFew other most before after
unfolding widen
few_wider kind other wider most before after p = record { puts = widen kind other wider before after p.puts; few = p.few }

-- a tick: a run is of what is held
run_few : (stop : Option ℕ) (n left : ℕ) (hs : List Held) → length (run stop n left hs) ≤ length hs
unfolding run
run_few stop n left [] = omega arith
run_few stop n left (h ∷ hs) =
    let rest = run stop (n + 1) (left - h.wire) hs in
    cond_both (h.n == n && is_before stop n && nat_le h.wire left) (h ∷ rest) [] (λ l. length l ≤ length (h ∷ hs))
    (λ t. omega (arith, run_few stop (n + 1) (left - h.wire) hs)) (λ f. omega arith)

send_few : (s : Settings) (k : ℕ) (hs : List Held) (history : History) → PutsFew (is_run_of k) (length hs) history (send s k hs history)
unfolding send
send_few s k [] history = few_none (is_run_of k) 0 history
send_few s k (h ∷ hs) history =
    let sent = noted (note.Burst k h.n (sequence s k history)) (Some h) ∷ history in
    few_both (is_run_of k) 1 (length hs) (length (h ∷ hs)) history sent (send s k hs sent) (omega arith)
    (few_one (is_run_of k) 1 (note.Burst k h.n (sequence s k history)) (Some h) history (eq-eqb k k refl) (omega arith)) (send_few s k hs sent)

ended_few : (s : Settings) (k : ℕ) (o : Option Burst) (history : History) → PutsFew (is_run_of k) 1 history (after_run s k o history)
ended_few s k None history = few_none (is_run_of k) 1 history
ended_few s k (Some b) history =
    cond_both (is_stop b.stop (next b)) (noted (note.End k cause.Stopped) None ∷ history)
    (if b.ticks == s.channel.limit then noted (note.End k cause.Limit) None ∷ history else history) (PutsFew (is_run_of k) 1 history)
    (λ t. few_one (is_run_of k) 1 (note.End k cause.Stopped) None history (eq-eqb k k refl) (omega arith))
    (λ f. cond_both (b.ticks == s.channel.limit) (noted (note.End k cause.Limit) None ∷ history) history (PutsFew (is_run_of k) 1 history)
    (λ t. few_one (is_run_of k) 1 (note.End k cause.Limit) None history (eq-eqb k k refl) (omega arith)) (λ g. few_none (is_run_of k) 1 history))

served_few : (s : Settings) (held : List Held) (k : ℕ) (o : Option Burst) (history : History) → PutsFew (is_run_of k) (length held + 1) history (burst_served s held k o history)
served_few s held k None history = few_none (is_run_of k) (length held + 1) history
served_few s held k (Some b) history =
    let kind = is_run_of k in
    let from = from_number (next b) held in
    let packets = run b.stop (next b) b.left from in
    let sent = send s k packets history in
    cond_both (is_lost (next b) held) (noted (note.End k cause.Lost) None ∷ history) (run_sent s k sent) (PutsFew kind (length held + 1) history)
    (λ t. few_one kind (length held + 1) (note.End k cause.Lost) None history (eq-eqb k k refl) (omega arith))
    (λ f. few_both kind (length packets) 1 (length held + 1) history sent (run_sent s k sent)
    (omega (arith, run_few b.stop (next b) b.left from, few_passed (λ (h : Held). nat_le (next b) h.n) held)) (send_few s k packets history) (ended_few s k (open_burst s k sent) sent))

pub all_served_few : (s : Settings) (held : List Held) (ks : List ℕ) (history : History) → PutsFew is_of_runs (length ks * (length held + 1)) history (all_served s held ks history)
unfolding all_served
all_served_few s held [] history = few_none is_of_runs (length {A = ℕ} [] * (length held + 1)) history
all_served_few s held (k ∷ ks) history =
    let o = open_burst s k history in
    let served = burst_served s held k o history in
    let own = served_few s held k o history in
    few_both is_of_runs (length held + 1) (length ks * (length held + 1)) (length (k ∷ ks) * (length held + 1)) history served (all_served s held ks served) (omega arith)
    (few_wider (is_run_of k) is_of_runs (run_in_runs k) (length held + 1) history served own) (all_served_few s held ks served)

repaired_few : (s : Settings) (held : List Held) (w : Wanted) (o : Option Held) (history : History) → PutsFew is_repair 1 history (repaired s held w o history)
repaired_few s held w None history = few_one is_repair 1 (note.Gone w.client w.n) None history refl (omega arith)
repaired_few s held w (Some h) history =
    let repair = note.Repair w.client w.n (sequence s w.client history) in
    cond_both (nat_le h.wire (may_take s held w.client history) && nat_le h.wire (channel_left s history)) (noted repair (Some h) ∷ history) history
    (PutsFew is_repair 1 history) (λ t. few_one is_repair 1 repair (Some h) history refl (omega arith)) (λ f. few_none is_repair 1 history)

pub all_repaired_few : (s : Settings) (held : List Held) (ws : List Wanted) (history : History) → PutsFew is_repair (length ws) history (all_repaired s held ws history)
unfolding all_repaired
all_repaired_few s held [] history = few_none is_repair 0 history
all_repaired_few s held (w ∷ ws) history =
    let o = find (λ h. h.n == w.n) held in
    let now = repaired s held w o history in
    few_both is_repair 1 (length ws) (length (w ∷ ws)) history now (all_repaired s held ws now) (omega arith) (repaired_few s held w o history) (all_repaired_few s held ws now)

pub all_forgotten_few : (s : Settings) (ks : List ℕ) (history : History) → PutsFew is_forgotten (length ks) history (all_forgotten s ks history)
unfolding all_forgotten
all_forgotten_few s [] history = few_none is_forgotten 0 history
all_forgotten_few s (k ∷ ks) history =
    let now = if idle s k history == s.channel.idle then noted (note.Forgot k) None ∷ history else history in
    few_both is_forgotten 1 (length ks) (length (k ∷ ks)) history now (all_forgotten s ks now) (omega arith)
    (cond_both (idle s k history == s.channel.idle) (noted (note.Forgot k) None ∷ history) history (PutsFew is_forgotten 1 history)
    (λ t. few_one is_forgotten 1 (note.Forgot k) None history refl (omega arith)) (λ f. few_none is_forgotten 1 history))
    (all_forgotten_few s ks now)

pub send_puts : (s : Settings) (k : ℕ) (hs : List Held) (history : History) → Puts (is_run_of k) history (send s k hs history)
send_puts s k hs history = (send_few s k hs history).puts

pub served_puts : (s : Settings) (held : List Held) (k : ℕ) (o : Option Burst) (history : History) → Puts (is_run_of k) history (burst_served s held k o history)
served_puts s held k o history = (served_few s held k o history).puts

pub all_served_put : (s : Settings) (held : List Held) (ks : List ℕ) (history : History) → Puts is_of_runs history (all_served s held ks history)
all_served_put s held ks history = (all_served_few s held ks history).puts

pub repaired_puts : (s : Settings) (held : List Held) (w : Wanted) (o : Option Held) (history : History) → Puts is_repair history (repaired s held w o history)
repaired_puts s held w o history = (repaired_few s held w o history).puts

pub all_repaired_put : (s : Settings) (held : List Held) (ws : List Wanted) (history : History) → Puts is_repair history (all_repaired s held ws history)
all_repaired_put s held ws history = (all_repaired_few s held ws history).puts

pub all_forgotten_put : (s : Settings) (ks : List ℕ) (history : History) → Puts is_forgotten history (all_forgotten s ks history)
all_forgotten_put s ks history = (all_forgotten_few s ks history).puts

pub tick_puts : (s : Settings) (history : History) → Puts is_of_tick history (after_tick s history)
unfolding after_tick
tick_puts s history =
    let served = bursts_served s history in
    let repairs = repairs_sent s served in
    both is_of_tick history served (idle_forgotten s repairs) (widen is_of_runs is_of_tick runs_in_tick history served (all_served_put s (hold s history) (opened history) history))
    (both is_of_tick served repairs (idle_forgotten s repairs)
    (widen is_repair is_of_tick repair_in_tick served repairs (all_repaired_put s (hold s served) (pending served) served))
    (widen is_forgotten is_of_tick forgotten_in_tick repairs (idle_forgotten s repairs) (all_forgotten_put s (known repairs) repairs)))
