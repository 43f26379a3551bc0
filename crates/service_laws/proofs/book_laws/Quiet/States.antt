-- What a history says of one client, and what leaves that as it was.
use Rattle.std.proofs.Common.{◌≡◌, ℕ, ◌+◌, ◌-◌, ◌≤◌, Bool, true, false, cond, List, [], ◌∷◌, length, Option, Some, None, refl, ap, sym, ◌∙◌, subst, arith, eqb}
use Rattle.std.proofs.lemmas.Bool.{cond-true, cond-false, both_ways, eqb-true, eq-eqb}
use Rattle.rams_model.specs.declared.{Held.Held, Cause.Cause, Note.Note}
use Rattle.rams_model.specs.declared.Cause.TheVariants as cause
use Rattle.rams_model.specs.declared.Note.TheVariants as note
use Rattle.rams_model.specs.Service.{Settings, Message, tick, began, told, noted, History, arrivals, as_tick_began, sequence, Burst, after_note, newest_changed, is_of, size_of, bursts, if_open, newest_open, send, is_burst_of, is_repair_of, sent_now}
use Rattle.rams_model.specs.Packets.{wires, from_number, Follows}
use Rattle.rams_model.specs.Laws.{source, moments, JoinsSlowly, AreAtLeast, IsQuiet, told_join}
use Rattle.rams_model.proofs.OpenBurst.{Holds, other_bursts, end_closes, at_note, at_tick}
use Rattle.rams_model.proofs.Running.{wires-cons}
use Rattle.service_laws.specs.book_laws.{ticks_since_told}
use Rattle.service_laws.proofs.book_laws.Quiet.Near.{Near}

-- A burst is quiet as far as the history goes, as if a tick began now: with the moments since its Accept, and the source.
pub record Quietly (s : Settings) (first : ℕ) (m : History) (ms : List History) (packets : List Held) : Type 0 where
  pub follows : Follows first (from_number first packets)
  pub sizes : AreAtLeast s.channel.minwire (from_number first packets)
  pub joins : wires packets ≤ wires (source s m) + s.channel.declared
  pub before : JoinsSlowly s (m ∷ ms)

-- An open burst that is quiet is near.
abbrev pub KeepsOf : Settings → List Burst → List History → ℕ → ℕ → List Held → Type 0
KeepsOf s bs marks join since packets = (b : Burst) (others : List Burst) (m : History) (ms : List History) → bs ≡ b ∷ others → b.ended ≡ None → marks ≡ m ∷ ms
    → Quietly s b.first m ms packets → Near s b join since (from_number b.first (source s m))

abbrev pub Keeps : Settings → ℕ → History → Type 0
Keeps s k history = KeepsOf s (bursts s k history) (moments k history) (told_join k history) (ticks_since_told k history) (source s history)

-- An End of the client stands after an open burst, and where that was quiet it isn't lost.
pub record EndsWell (s : Settings) (k : ℕ) (why : Cause) (history : History) : Type 0 where
  pub burst : Burst
  pub others : List Burst
  pub is_newest : bursts s k history ≡ burst ∷ others
  pub is_open : burst.ended ≡ None
  pub quiet : why ≡ cause.Lost → IsQuiet s k burst.first history → ⊥

-- Each End of the client does.
abbrev pub Sound : Settings → ℕ → History → Type 0
Sound s k [] = Unit {0}
Sound s k (noted (note.End client why) packet ∷ history) = (eqb client k ≡ true → EndsWell s k why history) × Sound s k history
Sound s k (_ ∷ history) = Sound s k history

pub record Good (s : Settings) (k : ℕ) (history : History) : Type 0 where
  pub keeps : Keeps s k history
  pub sound : Sound s k history

-- What a later history says of the client is what an earlier one said.
pub record Unmoved (s : Settings) (k : ℕ) (before later : History) : Type 0 where
  pub same_bursts : bursts s k later ≡ bursts s k before
  pub same_moments : moments k later ≡ moments k before
  pub same_told : told_join k later ≡ told_join k before
  pub same_since : ticks_since_told k later ≡ ticks_since_told k before
  pub same_source : source s later ≡ source s before

pub keeps_unmoved : (s : Settings) (k : ℕ) (before later : History) → Unmoved s k before later → Keeps s k before → Keeps s k later
keeps_unmoved s k before later u keeps b others m ms is_newest is_open marks quiet =
    subst (λ (t : ℕ). Near s b t (ticks_since_told k later) (from_number b.first (source s m))) (sym u.same_told)
    (subst (λ (t : ℕ). Near s b (told_join k before) t (from_number b.first (source s m))) (sym u.same_since)
    (keeps b others m ms (sym u.same_bursts ∙ is_newest) is_open (sym u.same_moments ∙ marks) (subst (Quietly s b.first m ms) u.same_source quiet)))

-- the notes that say nothing of the client's bursts
other_moments : (k : ℕ) (note : Note) (packet : Option Held) (history : History) → is_of k note ≡ false → moments k (noted note packet ∷ history) ≡ moments k history
unfolding moments
other_moments k (note.Accept client first rate join) packet history e = cond-false (eqb client k) (history ∷ []) (moments k history) e
other_moments k note packet history e = refl

other_told : (k : ℕ) (note : Note) (packet : Option Held) (history : History) → is_of k note ≡ false → told_join k (noted note packet ∷ history) ≡ told_join k history
unfolding told_join
other_told k (note.Accept client first rate join) packet history e = cond-false (eqb client k) join (told_join k history) e
other_told k (note.Update client rate join) packet history e = cond-false (eqb client k) join (told_join k history) e
other_told k note packet history e = refl

other_since : (k : ℕ) (note : Note) (packet : Option Held) (history : History) → is_of k note ≡ false
    → ticks_since_told k (noted note packet ∷ history) ≡ ticks_since_told k history
unfolding ticks_since_told
other_since k (note.Accept client first rate join) packet history e = cond-false (eqb client k) 0 (ticks_since_told k history) e
other_since k (note.Update client rate join) packet history e = cond-false (eqb client k) 0 (ticks_since_told k history) e
other_since k note packet history e = refl

other_runs : (k : ℕ) (note : Note) (packet : Option Held) (history : History) → is_of k note ≡ false
    → sent_now (is_burst_of k) (noted note packet ∷ history) ≡ sent_now (is_burst_of k) history
unfolding sent_now
other_runs k (note.Burst client n q) packet history e =
    cond-false (eqb client k) (sent_now (is_burst_of k) history + size_of packet) (sent_now (is_burst_of k) history) e
other_runs k note packet history e = refl

other_repairs : (k : ℕ) (note : Note) (packet : Option Held) (history : History) → is_of k note ≡ false
    → sent_now (is_repair_of k) (noted note packet ∷ history) ≡ sent_now (is_repair_of k) history
unfolding sent_now
other_repairs k (note.Repair client n q) packet history e =
    cond-false (eqb client k) (sent_now (is_repair_of k) history + size_of packet) (sent_now (is_repair_of k) history) e
other_repairs k note packet history e = refl

pub other_sound : (s : Settings) (k : ℕ) (note : Note) (packet : Option Held) (history : History) → is_of k note ≡ false → Sound s k history → Sound s k (noted note packet ∷ history)
other_sound s k (note.End client why) packet history e sound = (λ t. absurd (both_ways (eqb client k) e t), sound)
other_sound s k note packet history e sound = sound

pub unmoved_note : (s : Settings) (k : ℕ) (note : Note) (packet : Option Held) (history : History) → is_of k note ≡ false → Unmoved s k history (noted note packet ∷ history)
unfolding arrivals
unmoved_note s k note packet history e = record {
  same_bursts = other_bursts s k note packet history e;
  same_moments = other_moments k note packet history e;
  same_told = other_told k note packet history e;
  same_since = other_since k note packet history e;
  same_source = refl;
}

pub unmoved_told : (s : Settings) (k client : ℕ) (message : Message) (history : History) → Unmoved s k history (told client message ∷ history)
unfolding arrivals bursts moments told_join ticks_since_told
unmoved_told s k client message history = record { same_bursts = refl; same_moments = refl; same_told = refl; same_since = refl; same_source = refl }

-- Within a tick: what was sent to the client since the tick began, its bursts, and that all else is as the tick began.
pub record At (s : Settings) (k : ℕ) (base : History) (bs : List Burst) (runs repairs : ℕ) (history : History) : Type 0 where
  pub same_arrivals : arrivals history ≡ arrivals base
  pub same_moments : moments k history ≡ moments k base
  pub same_told : told_join k history ≡ told_join k base
  pub same_since : ticks_since_told k history ≡ ticks_since_told k base
  pub same_tick : as_tick_began history ≡ as_tick_began base
  pub are_runs : sent_now (is_burst_of k) history ≡ runs
  pub are_repairs : sent_now (is_repair_of k) history ≡ repairs
  pub are_bursts : bursts s k history ≡ bs

pub at_base : (s : Settings) (k : ℕ) (before : History) (bs : List Burst) → bursts s k (began tick ∷ before) ≡ bs → At s k (began tick ∷ before) bs 0 0 (began tick ∷ before)
unfolding sent_now
at_base s k before bs e =
    record { same_arrivals = refl; same_moments = refl; same_told = refl; same_since = refl; same_tick = refl; are_runs = refl; are_repairs = refl; are_bursts = e }

pub at_other : (s : Settings) (k : ℕ) (base : History) (bs : List Burst) (runs repairs : ℕ) (note : Note) (packet : Option Held) (history : History) → is_of k note ≡ false
    → At s k base bs runs repairs history → At s k base bs runs repairs (noted note packet ∷ history)
unfolding arrivals as_tick_began
at_other s k base bs runs repairs note packet history e a = record {
  same_arrivals = a.same_arrivals;
  same_moments = other_moments k note packet history e ∙ a.same_moments;
  same_told = other_told k note packet history e ∙ a.same_told;
  same_since = other_since k note packet history e ∙ a.same_since;
  same_tick = a.same_tick;
  are_runs = other_runs k note packet history e ∙ a.are_runs;
  are_repairs = other_repairs k note packet history e ∙ a.are_repairs;
  are_bursts = other_bursts s k note packet history e ∙ a.are_bursts;
}

pub own : (s : Settings) (note : Note) (size : ℕ) (b : Burst) (others bs : List Burst) (c : Bool) → c ≡ true → bs ≡ b ∷ others
    → cond c (newest_changed (after_note s note size) bs) bs ≡ after_note s note size b ∷ others
own s note size b others bs c t e = cond-true c (newest_changed (after_note s note size) bs) bs t ∙ ap (newest_changed (after_note s note size)) e

-- the client's own notes
pub at_burst : (s : Settings) (k : ℕ) (base : History) (b : Burst) (others : List Burst) (runs repairs client n q : ℕ) (x : Held) (history : History) → eqb client k ≡ true
    → At s k base (b ∷ others) runs repairs history
    → At s k base (after_note s (note.Burst client n q) x.wire b ∷ others) (runs + x.wire) repairs (noted (note.Burst client n q) (Some x) ∷ history)
unfolding arrivals as_tick_began moments told_join ticks_since_told bursts sent_now
at_burst s k base b others runs repairs client n q x history t a = record {
  same_arrivals = a.same_arrivals;
  same_moments = a.same_moments;
  same_told = a.same_told;
  same_since = a.same_since;
  same_tick = a.same_tick;
  are_runs = cond-true (eqb client k) (sent_now (is_burst_of k) history + x.wire) (sent_now (is_burst_of k) history) t ∙ ap (λ (m : ℕ). m + x.wire) a.are_runs;
  are_repairs = a.are_repairs;
  are_bursts = own s (note.Burst client n q) x.wire b others (bursts s k history) (eqb client k) t a.are_bursts;
}

pub at_repair : (s : Settings) (k : ℕ) (base : History) (b : Burst) (others : List Burst) (runs repairs client n q : ℕ) (x : Held) (history : History) → eqb client k ≡ true
    → At s k base (b ∷ others) runs repairs history
    → At s k base (after_note s (note.Repair client n q) x.wire b ∷ others) runs (repairs + x.wire) (noted (note.Repair client n q) (Some x) ∷ history)
unfolding arrivals as_tick_began moments told_join ticks_since_told bursts sent_now
at_repair s k base b others runs repairs client n q x history t a = record {
  same_arrivals = a.same_arrivals;
  same_moments = a.same_moments;
  same_told = a.same_told;
  same_since = a.same_since;
  same_tick = a.same_tick;
  are_runs = a.are_runs;
  are_repairs = cond-true (eqb client k) (sent_now (is_repair_of k) history + x.wire) (sent_now (is_repair_of k) history) t ∙ ap (λ (m : ℕ). m + x.wire) a.are_repairs;
  are_bursts = own s (note.Repair client n q) x.wire b others (bursts s k history) (eqb client k) t a.are_bursts;
}

-- a burst after a run was sent
abbrev pub with_run : Burst → List Held → Burst
with_run b [] = b
with_run b (h ∷ hs) = with_run (record b { sent = h.n ∷ b.sent; left = b.left - h.wire }) hs

pub record HasSent (before after : Burst) (r : List Held) : Type 0 where
  pub same_first : after.first ≡ before.first
  pub same_rate : after.rate ≡ before.rate
  pub same_stop : after.stop ≡ before.stop
  pub same_end : after.ended ≡ before.ended
  pub more_sent : length after.sent ≡ length before.sent + length r
  pub less_left : after.left ≡ before.left - wires r

pub has_sent : (b : Burst) (hs : List Held) → HasSent b (with_run b hs) hs
has_sent b [] = record { same_first = refl; same_rate = refl; same_stop = refl; same_end = refl; more_sent = omega arith; less_left = omega arith }
has_sent b (h ∷ hs) =
    let rest = has_sent (record b { sent = h.n ∷ b.sent; left = b.left - h.wire }) hs in
    let sum = wires-cons h hs in
    record {
      same_first = rest.same_first;
      same_rate = rest.same_rate;
      same_stop = rest.same_stop;
      same_end = rest.same_end;
      more_sent = omega (arith, rest.more_sent);
      less_left = omega (arith, rest.less_left, sum);
    }

pub at_send : (s : Settings) (k : ℕ) (base : History) (hs : List Held) (b : Burst) (others : List Burst) (runs repairs : ℕ) (history : History)
    → At s k base (b ∷ others) runs repairs history → At s k base (with_run b hs ∷ others) (runs + wires hs) repairs (send s k hs history)
unfolding send
at_send s k base [] b others runs repairs history a = subst (λ (n : ℕ). At s k base (b ∷ others) n repairs history) (omega arith) a
at_send s k base (h ∷ hs) b others runs repairs history a =
    let q = sequence s k history in
    let sum = wires-cons h hs in
    let one = at_burst s k base b others runs repairs k h.n q h history (eq-eqb k k refl) a in
    subst (λ (n : ℕ). At s k base (with_run b (h ∷ hs) ∷ others) n repairs (send s k hs (noted (note.Burst k h.n q) (Some h) ∷ history))) (omega (arith, sum))
    (at_send s k base hs (after_note s (note.Burst k h.n q) h.wire b) others (runs + h.wire) repairs (noted (note.Burst k h.n q) (Some h) ∷ history) one)

pub sound_send : (s : Settings) (k : ℕ) (hs : List Held) (history : History) → Sound s k history → Sound s k (send s k hs history)
unfolding send
sound_send s k [] history sound = sound
sound_send s k (h ∷ hs) history sound = sound_send s k hs (noted (note.Burst k h.n (sequence s k history)) (Some h) ∷ history) sound

-- the newest burst, where it is open
pub open_is : (bs : List Burst) (b : Burst) (others : List Burst) → bs ≡ b ∷ others → b.ended ≡ None → newest_open bs ≡ Some b
open_is bs b others e open_one = ap newest_open e ∙ at b.ended open_one
  where
    at : (ended : Option Cause) → ended ≡ None → if_open ended b ≡ Some b
    at None f = refl
    at (Some why) f = absurd cc

-- The client's End leaves no open burst.
pub ended_none : (s : Settings) (k client : ℕ) (why : Cause) (packet : Option Held) (history : History) → eqb client k ≡ true
    → newest_open (bursts s k (noted (note.End client why) packet ∷ history)) ≡ None
ended_none s k client why packet history t =
    subst (λ (j : ℕ). newest_open (bursts s j (noted (note.End client why) packet ∷ history)) ≡ None) (eqb-true client k t) (end_closes s client why packet history)

-- Where none is open, none is after a note that isn't an Accept, nor after a tick began.
abbrev IsNone : Option Burst → Type 0
IsNone = Holds (λ b. ⊥)

none_holds : (o : Option Burst) → o ≡ None → IsNone o
none_holds o e = subst IsNone (sym e) tt

none_is : (o : Option Burst) → IsNone o → o ≡ None
none_is None h = refl
none_is (Some b) h = absurd h

pub none_stays : (s : Settings) (k : ℕ) (n : Note) (packet : Option Held) (history : History) → ((first rate join : ℕ) → n ≡ note.Accept k first rate join → ⊥) → newest_open (bursts s k history) ≡ None
    → newest_open (bursts s k (noted n packet ∷ history)) ≡ None
none_stays s k n packet history other e =
    none_is (newest_open (bursts s k (noted n packet ∷ history)))
    (at_note s k (λ b. ⊥) n packet history (record { begins = other; changes = λ b own is no. no }) (none_holds (newest_open (bursts s k history)) e))

pub none_begun : (s : Settings) (k : ℕ) (before : History) → newest_open (bursts s k before) ≡ None → newest_open (bursts s k (began tick ∷ before)) ≡ None
none_begun s k before e = none_is (newest_open (bursts s k (began tick ∷ before))) (at_tick s k (λ b. ⊥) (λ b. ⊥) before (λ b no. no) (none_holds (newest_open (bursts s k before)) e))

pub other_none : (s : Settings) (k : ℕ) (note : Note) (packet : Option Held) (history : History) → is_of k note ≡ false → newest_open (bursts s k history) ≡ None
    → newest_open (bursts s k (noted note packet ∷ history)) ≡ None
other_none s k note packet history e none = ap newest_open (other_bursts s k note packet history e) ∙ none

-- What an open burst is.
pub record IsOpen (s : Settings) (k : ℕ) (history : History) (b : Burst) : Type 0 where
  pub others : List Burst
  pub is_newest : bursts s k history ≡ b ∷ others
  pub is_open : b.ended ≡ None

pub open_parts : (s : Settings) (k : ℕ) (history : History) (b : Burst) → newest_open (bursts s k history) ≡ Some b → IsOpen s k history b
open_parts s k history b e = at (bursts s k history) refl e
  where
    at : (bs : List Burst) → bursts s k history ≡ bs → newest_open bs ≡ Some b → IsOpen s k history b
    at [] same f = absurd cc
    at (x ∷ xs) same f = one x.ended refl f
      where
        one : (ended : Option Cause) → x.ended ≡ ended → if_open ended x ≡ Some b → IsOpen s k history b
        one None g f = let burst : x ≡ b = cc in record { others = xs; is_newest = same ∙ ap (λ (y : Burst). y ∷ xs) burst; is_open = ap (λ (y : Burst). y.ended) (sym burst) ∙ g }
        one (Some why) g f = absurd cc
