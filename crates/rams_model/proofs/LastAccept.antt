-- A client's newest burst is what the notes say since its last Accept.
use Rattle.std.proofs.Common.{◌≡◌, ℕ, ◌+◌, Bool, true, false, cond, not, ◌&&◌, ◌||◌, List, [], ◌∷◌, ◌++◌, Option, Some, None, refl, ap, sym, ◌∙◌, eqb, option_map}
use Rattle.std.specs.Prelude.{is_some}
use Rattle.std.proofs.lemmas.Bool.{cond_both, both_ways, cond-true, eq-eqb}
use Rattle.rams_model.specs.declared.{held.Held.Held, note.Cause.Cause}
use Rattle.rams_model.specs.declared.note.Note.TheVariants as note
use Rattle.rams_model.specs.Service.{Settings, tick, began, told, noted, History, sequence, Burst, begun, in_tick, after_note, newest_changed, size_of, bursts, if_open, newest_open, has_open, Item, opened, is_among}
use Rattle.rams_model.specs.Laws.{NoneIs, is_accept_of, is_end_of, numbers_sent, ticks_begun, latest_rate, IsBurst}
use Rattle.rams_model.proofs.Since.{stands, opened_stands}
use Rattle.rams_model.proofs.OpenBurst.{changed_open}

-- a change of the newest burst changes its fields so
changed : (change : Burst → Burst) (first rate new_rate : ℕ) (sent new_sent : List ℕ) (ticks new_ticks : ℕ)
    → ((b : Burst) → b.rate ≡ rate → (change b).rate ≡ new_rate) → ((b : Burst) → b.sent ≡ sent → (change b).sent ≡ new_sent)
    → ((b : Burst) → b.ticks ≡ ticks → (change b).ticks ≡ new_ticks) → ((b : Burst) → (change b).first ≡ b.first)
    → (bs : List Burst) → IsBurst bs first rate sent ticks → IsBurst (newest_changed change bs) first new_rate new_sent new_ticks
changed change first rate new_rate sent new_sent ticks new_ticks r s t f bs is = record {
  burst = change is.burst;
  others = is.others;
  is_newest = ap (newest_changed change) is.is_newest;
  is_first = f is.burst ∙ is.is_first;
  is_rate = r is.burst is.is_rate;
  is_sent = s is.burst is.is_sent;
  is_ticks = t is.burst is.is_ticks;
}

-- a note that, where it is of the client, gives its newest burst another rate, or one number more
at_rate : (c : Bool) (change : Burst → Burst) (first rate new : ℕ) (sent : List ℕ) (ticks : ℕ)
    → ((b : Burst) → (change b).rate ≡ new) → ((b : Burst) → (change b).sent ≡ b.sent) → ((b : Burst) → (change b).ticks ≡ b.ticks) → ((b : Burst) → (change b).first ≡ b.first)
    → (bs : List Burst) → IsBurst bs first rate sent ticks → IsBurst (cond c (newest_changed change bs) bs) first (cond c new rate) sent ticks
at_rate true change first rate new sent ticks r s t f bs is =
    changed change first rate new sent sent ticks ticks (λ b e. r b) (λ b e. s b ∙ e) (λ b e. t b ∙ e) f bs is
at_rate false change first rate new sent ticks r s t f bs is = is

at_sent : (c : Bool) (change : Burst → Burst) (first rate n : ℕ) (sent : List ℕ) (ticks : ℕ)
    → ((b : Burst) → (change b).rate ≡ b.rate) → ((b : Burst) → (change b).sent ≡ n ∷ b.sent) → ((b : Burst) → (change b).ticks ≡ b.ticks) → ((b : Burst) → (change b).first ≡ b.first)
    → (bs : List Burst) → IsBurst bs first rate sent ticks → IsBurst (cond c (newest_changed change bs) bs) first rate (cond c (n ∷ sent) sent) ticks
at_sent true change first rate n sent ticks r s t f bs is =
    changed change first rate rate sent (n ∷ sent) ticks ticks (λ b e. r b ∙ e) (λ b e. s b ∙ ap (λ (ns : List ℕ). n ∷ ns) e) (λ b e. t b ∙ e) f bs is
at_sent false change first rate n sent ticks r s t f bs is = is

-- a note that changes neither rate nor sent numbers
at_other : (c : Bool) (change : Burst → Burst) (first rate : ℕ) (sent : List ℕ) (ticks : ℕ)
    → ((b : Burst) → (change b).rate ≡ b.rate) → ((b : Burst) → (change b).sent ≡ b.sent)
    → ((b : Burst) → (change b).ticks ≡ b.ticks) → ((b : Burst) → (change b).first ≡ b.first)
    → (bs : List Burst) → IsBurst bs first rate sent ticks → IsBurst (cond c (newest_changed change bs) bs) first rate sent ticks
at_other true change first rate sent ticks r s t f bs is = changed change first rate rate sent sent ticks ticks (λ b e. r b ∙ e) (λ b e. s b ∙ e) (λ b e. t b ∙ e) f bs is
at_other false change first rate sent ticks r s t f bs is = is

pub last_accept : (s : Settings) (k first rate join : ℕ) (packet : Option Held) (later before : History) → NoneIs (is_accept_of k) later
    → IsBurst (bursts s k (later ++ noted (note.Accept k first rate join) packet ∷ before)) first (latest_rate k rate later) (numbers_sent k later) (ticks_begun later)
unfolding bursts
last_accept s k first rate join packet [] before none = record {
  burst = begun s first rate join (sequence s k before);
  others = bursts s k before;
  is_newest = cond-true (eqb k k) (begun s first rate join (sequence s k before) ∷ bursts s k before) (bursts s k before) (eq-eqb k k refl);
  is_first = refl;
  is_rate = refl;
  is_sent = refl;
  is_ticks = refl;
}
last_accept s k first rate join packet (began tick ∷ later) before none =
    changed (in_tick s) first (latest_rate k rate later) (latest_rate k rate later) (numbers_sent k later) (numbers_sent k later) (ticks_begun later) (ticks_begun later + 1)
    (λ b e. e) (λ b e. e) (λ b e. ap (λ (n : ℕ). n + 1) e) (λ b. refl) (bursts s k (later ++ noted (note.Accept k first rate join) packet ∷ before))
    (last_accept s k first rate join packet later before none.1)
last_accept s k first rate join packet (began heard ∷ later) before none = last_accept s k first rate join packet later before none.1
last_accept s k first rate join packet (told client message ∷ later) before none = last_accept s k first rate join packet later before none.1
last_accept s k first rate join packet (noted (note.Accept client f r j) p ∷ later) before none =
    let rest = last_accept s k first rate join packet later before none.1 in
    let history = later ++ noted (note.Accept k first rate join) packet ∷ before in
    cond_both (eqb client k) (begun s f r j (sequence s k history) ∷ bursts s k history) (bursts s k history)
    (λ l. IsBurst l first (latest_rate k rate later) (numbers_sent k later) (ticks_begun later)) (λ t. absurd (both_ways (eqb client k) none.0 t)) (λ g. rest)
last_accept s k first rate join packet (noted (note.Update client new j) p ∷ later) before none =
    at_rate (eqb client k) (after_note s (note.Update client new j) (size_of p)) first (latest_rate k rate later) new (numbers_sent k later) (ticks_begun later)
    (λ b. refl) (λ b. refl) (λ b. refl) (λ b. refl) (bursts s k (later ++ noted (note.Accept k first rate join) packet ∷ before))
    (last_accept s k first rate join packet later before none.1)
last_accept s k first rate join packet (noted (note.Burst client n q) p ∷ later) before none =
    at_sent (eqb client k) (after_note s (note.Burst client n q) (size_of p)) first (latest_rate k rate later) n (numbers_sent k later) (ticks_begun later)
    (λ b. refl) (λ b. refl) (λ b. refl) (λ b. refl)
    (bursts s k (later ++ noted (note.Accept k first rate join) packet ∷ before)) (last_accept s k first rate join packet later before none.1)
last_accept s k first rate join packet (noted (note.StopAt client n) p ∷ later) before none =
    at_other (eqb client k) (after_note s (note.StopAt client n) (size_of p)) first (latest_rate k rate later) (numbers_sent k later) (ticks_begun later)
    (λ b. refl) (λ b. refl) (λ b. refl) (λ b. refl) (bursts s k (later ++ noted (note.Accept k first rate join) packet ∷ before))
    (last_accept s k first rate join packet later before none.1)
last_accept s k first rate join packet (noted (note.Repair client n q) p ∷ later) before none =
    at_other (eqb client k) (after_note s (note.Repair client n q) (size_of p)) first (latest_rate k rate later) (numbers_sent k later) (ticks_begun later)
    (λ b. refl) (λ b. refl) (λ b. refl) (λ b. refl) (bursts s k (later ++ noted (note.Accept k first rate join) packet ∷ before))
    (last_accept s k first rate join packet later before none.1)
last_accept s k first rate join packet (noted (note.End client cause) p ∷ later) before none =
    at_other (eqb client k) (after_note s (note.End client cause) (size_of p)) first (latest_rate k rate later) (numbers_sent k later) (ticks_begun later)
    (λ b. refl) (λ b. refl) (λ b. refl) (λ b. refl) (bursts s k (later ++ noted (note.Accept k first rate join) packet ∷ before))
    (last_accept s k first rate join packet later before none.1)
last_accept s k first rate join packet (noted note p ∷ later) before none = last_accept s k first rate join packet later before none.1

-- the newest burst is open
abbrev is_open : List Burst → Bool
is_open bs = is_some (newest_open bs)

-- a change that ends nothing
still_open : (change : Burst → Burst) → ((b : Burst) → (change b).ended ≡ b.ended) → (bs : List Burst) → is_open (newest_changed change bs) ≡ is_open bs
still_open change same bs = ap is_some (changed_open change same bs) ∙ kept (newest_open bs)
  where
    kept : (o : Option Burst) → is_some (option_map change o) ≡ is_some o
    kept None = refl
    kept (Some b) = refl

at_still : (c : Bool) (change : Burst → Burst) → ((b : Burst) → (change b).ended ≡ b.ended) → (bs : List Burst) → is_open (cond c (newest_changed change bs) bs) ≡ is_open bs
at_still true change same bs = still_open change same bs
at_still false change same bs = refl

-- an End ends it
at_end : (c : Bool) (cause : Cause) (bs : List Burst) → is_open (cond c (newest_changed (λ b. record b { ended = Some cause }) bs) bs) ≡ (not c && is_open bs)
at_end true cause [] = refl
at_end true cause (b ∷ bs) = refl
at_end false cause bs = refl

-- an Accept begins one
at_accept : (c : Bool) (b : Burst) (bs : List Burst) → b.ended ≡ None → is_open (cond c (b ∷ bs) bs) ≡ (c || is_open bs)
at_accept true b bs e = ap (λ (g : Option Cause). is_some (if_open g b)) e
at_accept false b bs e = refl

pub open_stands : (s : Settings) (k : ℕ) (history : History) → has_open s k history ≡ stands (is_accept_of k) (is_end_of k) history
unfolding stands bursts
open_stands s k [] = refl
open_stands s k (began tick ∷ history) = still_open (in_tick s) (λ b. refl) (bursts s k history) ∙ open_stands s k history
open_stands s k (began heard ∷ history) = open_stands s k history
open_stands s k (told client message ∷ history) = open_stands s k history
open_stands s k (noted (note.Accept client first rate join) p ∷ history) =
    at_accept (eqb client k) (begun s first rate join (sequence s k history)) (bursts s k history) refl ∙ ap (λ (b : Bool). eqb client k || b) (open_stands s k history)
open_stands s k (noted (note.End client cause) p ∷ history) =
    at_end (eqb client k) cause (bursts s k history) ∙ ap (λ (b : Bool). not (eqb client k) && b) (open_stands s k history)
open_stands s k (noted (note.Update client rate join) p ∷ history) =
    at_still (eqb client k) (after_note s (note.Update client rate join) (size_of p)) (λ b. refl) (bursts s k history) ∙ open_stands s k history
open_stands s k (noted (note.StopAt client n) p ∷ history) =
    at_still (eqb client k) (after_note s (note.StopAt client n) (size_of p)) (λ b. refl) (bursts s k history) ∙ open_stands s k history
open_stands s k (noted (note.Burst client n q) p ∷ history) =
    at_still (eqb client k) (after_note s (note.Burst client n q) (size_of p)) (λ b. refl) (bursts s k history) ∙ open_stands s k history
open_stands s k (noted (note.Repair client n q) p ∷ history) =
    at_still (eqb client k) (after_note s (note.Repair client n q) (size_of p)) (λ b. refl) (bursts s k history) ∙ open_stands s k history
open_stands s k (noted note p ∷ history) = open_stands s k history

-- item by item: an Accept of the client opens it, an End closes it
pub open_step : (s : Settings) (k : ℕ) (i : Item) (history : History) → has_open s k (i ∷ history) ≡ (is_accept_of k i || (not (is_end_of k i) && has_open s k history))
unfolding stands
open_step s k i history = open_stands s k (i ∷ history) ∙ ap (λ (b : Bool). is_accept_of k i || (not (is_end_of k i) && b)) (sym (open_stands s k history))

-- the clients over whom is summed are those with an open burst
pub opened_open : (s : Settings) (k : ℕ) (history : History) → is_among k (opened history) ≡ has_open s k history
opened_open s k history = opened_stands k history ∙ sym (open_stands s k history)
