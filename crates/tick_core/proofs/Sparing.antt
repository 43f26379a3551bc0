-- Notes of a tick that are of other clients change nothing of a client.
use Rattle.std.proofs.Common.{◌≡◌, ℕ, Bool, true, false, not, ◌||◌, List, [], ◌∷◌, Option, refl, ap, sym, ◌∙◌, eqb}
use Rattle.std.specs.List.{filter, list_any}
use Rattle.std.proofs.lemmas.Bool.{cond_both, cond-false, not-true, not-false, and_parts, false≢true, eqb-true}
use Rattle.rams_model.specs.declared.{Held.Held, Note.Note}
use Rattle.rams_model.specs.declared.Note.TheVariants.{Burst, Repair, Gone, End, Forgot}
use Rattle.rams_model.specs.Service.{Settings, noted, History, arrivals, as_tick_began, sendings, ssrc, known, bursts, Wanted, is_wanted, pending, quiet_ticks, sent_now, is_burst_of, is_repair_of}
use Rattle.rams_model.specs.Packets.{Arrival}
use Rattle.rams_model.specs.Service.Bursts as model

-- The history goes on, by notes that pass a test.
pub data GoesOn (test : Note → Bool) (history : History) : History → Type 0 where
  same : GoesOn test history history
  more : (note : Note) (packet : Option Held) (later : History) → test note ≡ true → GoesOn test history later → GoesOn test history (noted note packet ∷ later)

pub then : (test : Note → Bool) (a b c : History) → GoesOn test a b → GoesOn test b c → GoesOn test a c
then test a b _ first same = first
then test a b _ first (more note packet later passes on) = more note packet later passes (then test a b later first on)

-- one note more
pub one : (test : Note → Bool) (note : Note) (packet : Option Held) (history : History) → test note ≡ true → GoesOn test history (noted note packet ∷ history)
one test note packet history passes = more note packet history passes same

-- what no such note changes is the same after them
pub kept : (A : Type 0) (f : History → A) (test : Note → Bool) → ((note : Note) (packet : Option Held) (later : History) → test note ≡ true → f (noted note packet ∷ later) ≡ f later)
    → (a b : History) → GoesOn test a b → f b ≡ f a
kept A f test each a _ same = refl
kept A f test each a _ (more note packet later passes on) = each note packet later passes ∙ kept A f test each a later on

-- a note of a tick that is of another client
abbrev pub spares : ℕ → Note → Bool
spares k (Burst client n seq) = not (eqb client k)
spares k (Repair client n seq) = not (eqb client k)
spares k (Gone client n) = not (eqb client k)
spares k (End client cause) = not (eqb client k)
spares k (Forgot client) = not (eqb client k)
spares k _ = false

-- a note of the runs or of the repairs
abbrev pub serves : Note → Bool
serves (Burst client n seq) = true
serves (Repair client n seq) = true
serves (Gone client n) = true
serves (End client cause) = true
serves _ = false

other : (client k : ℕ) → not (eqb client k) ≡ true → eqb client k ≡ false
other client k h = not-true (eqb client k) h

bursts_step : (s : Settings) (k : ℕ) (note : Note) (packet : Option Held) (later : History) → spares k note ≡ true → bursts s k (noted note packet ∷ later) ≡ bursts s k later
unfolding bursts
bursts_step s k (Burst client n seq) packet later h = cond-false (eqb client k) _ _ (other client k h)
bursts_step s k (Repair client n seq) packet later h = cond-false (eqb client k) _ _ (other client k h)
bursts_step s k (Gone client n) packet later h = refl
bursts_step s k (End client cause) packet later h = cond-false (eqb client k) _ _ (other client k h)
bursts_step s k (Forgot client) packet later h = refl
bursts_step s k note packet later h = absurd (false≢true h)

sendings_step : (k : ℕ) (note : Note) (packet : Option Held) (later : History) → spares k note ≡ true → sendings k (noted note packet ∷ later) ≡ sendings k later
unfolding sendings
sendings_step k (Burst client n seq) packet later h = cond-false (eqb client k) _ _ (other client k h)
sendings_step k (Repair client n seq) packet later h = cond-false (eqb client k) _ _ (other client k h)
sendings_step k (Gone client n) packet later h = refl
sendings_step k (End client cause) packet later h = refl
sendings_step k (Forgot client) packet later h = cond-false (eqb client k) _ _ (other client k h)
sendings_step k note packet later h = absurd (false≢true h)

ssrc_step : (k : ℕ) (note : Note) (packet : Option Held) (later : History) → spares k note ≡ true → ssrc k (noted note packet ∷ later) ≡ ssrc k later
unfolding ssrc
ssrc_step k (Burst client n seq) packet later h = refl
ssrc_step k (Repair client n seq) packet later h = refl
ssrc_step k (Gone client n) packet later h = refl
ssrc_step k (End client cause) packet later h = refl
ssrc_step k (Forgot client) packet later h = cond-false (eqb client k) _ _ (other client k h)
ssrc_step k note packet later h = absurd (false≢true h)

by_burst_step : (k : ℕ) (note : Note) (packet : Option Held) (later : History) → spares k note ≡ true → sent_now (is_burst_of k) (noted note packet ∷ later) ≡ sent_now (is_burst_of k) later
unfolding sent_now
by_burst_step k (Burst client n seq) packet later h = cond-false (eqb client k) _ _ (other client k h)
by_burst_step k (Repair client n seq) packet later h = refl
by_burst_step k (Gone client n) packet later h = refl
by_burst_step k (End client cause) packet later h = refl
by_burst_step k (Forgot client) packet later h = refl
by_burst_step k note packet later h = absurd (false≢true h)

by_repair_step : (k : ℕ) (note : Note) (packet : Option Held) (later : History) → spares k note ≡ true → sent_now (is_repair_of k) (noted note packet ∷ later) ≡ sent_now (is_repair_of k) later
unfolding sent_now
by_repair_step k (Burst client n seq) packet later h = refl
by_repair_step k (Repair client n seq) packet later h = cond-false (eqb client k) _ _ (other client k h)
by_repair_step k (Gone client n) packet later h = refl
by_repair_step k (End client cause) packet later h = refl
by_repair_step k (Forgot client) packet later h = refl
by_repair_step k note packet later h = absurd (false≢true h)

quiet_step : (s : Settings) (k : ℕ) (note : Note) (packet : Option Held) (later : History) → spares k note ≡ true → quiet_ticks s k (noted note packet ∷ later) ≡ quiet_ticks s k later
unfolding quiet_ticks
quiet_step s k (Burst client n seq) packet later h = cond-false (eqb client k) _ _ (other client k h)
quiet_step s k (Repair client n seq) packet later h = cond-false (eqb client k) _ _ (other client k h)
quiet_step s k (Gone client n) packet later h = cond-false (eqb client k) _ _ (other client k h)
quiet_step s k (End client cause) packet later h = cond-false (eqb client k) _ _ (other client k h)
quiet_step s k (Forgot client) packet later h = refl
quiet_step s k note packet later h = absurd (false≢true h)

-- a repair of another client is over
waits_on : (k client n : ℕ) (ws : List Wanted) → eqb client k ≡ false → list_any (λ w. eqb w.client k) (filter (λ w. not (is_wanted client n w)) ws) ≡ list_any (λ w. eqb w.client k) ws
waits_on k client n [] h = refl
waits_on k client n (w ∷ ws) h =
    cond_both (not (is_wanted client n w)) (w ∷ filter (λ w. not (is_wanted client n w)) ws) (filter (λ w. not (is_wanted client n w)) ws)
    (λ l. list_any (λ w. eqb w.client k) l ≡ list_any (λ w. eqb w.client k) (w ∷ ws))
    (λ t. ap (λ (b : Bool). eqb w.client k || b) (waits_on k client n ws h))
    (λ f. waits_on k client n ws h ∙ sym (ap (λ (b : Bool). b || list_any (λ w. eqb w.client k) ws) (gone f)))
  where
    gone : not (is_wanted client n w) ≡ false → eqb w.client k ≡ false
    gone f =
        let is : w.client ≡ client = eqb-true w.client client (and_parts (eqb w.client client) (eqb w.n n) (not-false (is_wanted client n w) f)).0 in
        ap (λ (i : ℕ). eqb i k) is ∙ h

waiting_step : (k : ℕ) (note : Note) (packet : Option Held) (later : History) → spares k note ≡ true → list_any (λ w. eqb w.client k) (pending (noted note packet ∷ later)) ≡ list_any (λ w. eqb w.client k) (pending later)
unfolding pending
waiting_step k (Burst client n seq) packet later h = refl
waiting_step k (Repair client n seq) packet later h = waits_on k client n (pending later) (other client k h)
waiting_step k (Gone client n) packet later h = waits_on k client n (pending later) (other client k h)
waiting_step k (End client cause) packet later h = refl
waiting_step k (Forgot client) packet later h = refl
waiting_step k note packet later h = absurd (false≢true h)

-- What a tick's notes of other clients leave as it was.
pub record IsSpared (s : Settings) (k : ℕ) (a b : History) : Type 0 where
  pub bursts_same : bursts s k b ≡ bursts s k a
  pub sendings_same : sendings k b ≡ sendings k a
  pub ssrc_same : ssrc k b ≡ ssrc k a
  pub began_same : as_tick_began b ≡ as_tick_began a
  pub by_burst_same : sent_now (is_burst_of k) b ≡ sent_now (is_burst_of k) a
  pub by_repair_same : sent_now (is_repair_of k) b ≡ sent_now (is_repair_of k) a
  pub waiting_same : list_any (λ w. eqb w.client k) (pending b) ≡ list_any (λ w. eqb w.client k) (pending a)
  pub quiet_same : quiet_ticks s k b ≡ quiet_ticks s k a

began_step : (note : Note) (packet : Option Held) (later : History) → as_tick_began (noted note packet ∷ later) ≡ as_tick_began later
unfolding as_tick_began
began_step note packet later = refl

pub spared : (s : Settings) (k : ℕ) (a b : History) → GoesOn (spares k) a b → IsSpared s k a b
spared s k a b on = record {
  bursts_same = kept (List model.Burst) (bursts s k) (spares k) (bursts_step s k) a b on;
  sendings_same = kept ℕ (sendings k) (spares k) (sendings_step k) a b on;
  ssrc_same = kept (Option ℕ) (ssrc k) (spares k) (ssrc_step k) a b on;
  began_same = kept History as_tick_began (spares k) (λ note packet later h. began_step note packet later) a b on;
  by_burst_same = kept ℕ (sent_now (is_burst_of k)) (spares k) (by_burst_step k) a b on;
  by_repair_same = kept ℕ (sent_now (is_repair_of k)) (spares k) (by_repair_step k) a b on;
  waiting_same = kept Bool (λ h. list_any (λ w. eqb w.client k) (pending h)) (spares k) (waiting_step k) a b on;
  quiet_same = kept ℕ (quiet_ticks s k) (spares k) (quiet_step s k) a b on;
}

-- ---- what no note of a tick's runs or repairs changes
known_step : (note : Note) (packet : Option Held) (later : History) → serves note ≡ true → known (noted note packet ∷ later) ≡ known later
unfolding known
known_step (Burst client n seq) packet later h = refl
known_step (Repair client n seq) packet later h = refl
known_step (Gone client n) packet later h = refl
known_step (End client cause) packet later h = refl
known_step note packet later h = absurd (false≢true h)

pub known_kept : (a b : History) → GoesOn serves a b → known b ≡ known a
known_kept a b on = kept (List ℕ) known serves known_step a b on

arrivals_step : (note : Note) (packet : Option Held) (later : History) → arrivals (noted note packet ∷ later) ≡ arrivals later
unfolding arrivals
arrivals_step note packet later = refl

pub arrivals_kept : (test : Note → Bool) (a b : History) → GoesOn test a b → arrivals b ≡ arrivals a
arrivals_kept test a b on = kept (List Arrival) arrivals test (λ note packet later h. arrivals_step note packet later) a b on
