-- After a tick each open burst is at its end.
use Rattle.std.proofs.Common.{◌≡◌, ℕ, ◌+◌, ◌-◌, ◌<◌, ◌≤◌, true, false, cond, ◌&&◌, ⊎_elim, List, [], ◌∷◌, Option, Some, None, refl, ap, sym, ◌∙◌, subst, arith, eqb, leb}
use Rattle.std.specs.Prelude.{Contains}
use Rattle.std.proofs.lemmas.Bool.{cases_Bool, cond_both, and_parts, and_from, eqb-true, eq-eqb, leb-true, leb-false, le-leb, true≢false}
use Rattle.std.proofs.lemmas.List.Elements.{Contains-append_right}
use Rattle.rams_model.specs.declared.{Event.Event, Held.Held, Cause.Cause, Note.Note, Event.TheVariants.Tick}
use Rattle.rams_model.specs.declared.Cause.TheVariants.{Stopped, Lost, Limit}
use Rattle.rams_model.specs.declared.Note.TheVariants as note
use Rattle.rams_model.specs.Packets.{from_number}
use Rattle.rams_model.specs.Laws.{Rises}
use Rattle.rams_model.specs.Service.{Settings, noted, History, hold, known, sequence, Burst, next, after_note, newest_open, open_burst, is_before, run, send, is_lost, is_stop, after_run, run_sent, burst_served, bursts_served, pending, idle_forgotten, history_of}
use Rattle.rams_model.proofs.Holding.{held_follow, rises_from}
use Rattle.rams_model.proofs.Induction.{through}
use Rattle.rams_model.proofs.Items.{is_repair, is_forgotten, all_repaired_put, all_forgotten_put}
use Rattle.rams_model.proofs.OpenBurst.{open_sent, other_bursts, end_closes, Holds, holds_of, at_note}
use Rattle.rams_model.proofs.Rising.{some_of}
use Rattle.rams_model.proofs.Turns.{IsKeptByOthers, in_turn}
use Rattle.service_laws.specs.tick_laws.{IsAtItsEnd}
use Rattle.service_laws.proofs.book_laws.Members.{above, first_or_later}
use Rattle.service_laws.proofs.book_laws.NackTable.{is_before_stop}
use Rattle.service_laws.proofs.tick_laws.Ticks.{start, ran, repaired_all, tick_is, held_at_start}

-- ---- which packets stand from a number on

from_rises : (n m : ℕ) (hs : List Held) → Rises m hs → Rises n (from_number n hs)
from_rises n m [] r = tt
from_rises n m (h ∷ hs) r =
    cond_both (leb n h.n) (h ∷ from_number n hs) (from_number n hs) (Rises n) (λ t. (leb-true n h.n t, some_of (λ x. leb n x.n) (h.n + 1) hs r.1)) (λ f. from_rises n (h.n + 1) hs r.1)

from_has : (n : ℕ) (hs : List Held) (h : Held) → Contains hs h → n ≤ h.n → Contains (from_number n hs) h
from_has n [] h c le = absurd (omega arith)
from_has n (x ∷ xs) h c le =
    cond_both (leb n x.n) (x ∷ from_number n xs) (from_number n xs) (λ l. Contains l h)
    (λ t. ⊎_elim (λ (e : x ≡ h). subst (λ (y : Held). Contains (x ∷ from_number n xs) y) e (0, omega arith, refl))
    (λ l. Contains-append_right (x ∷ []) (from_number n xs) h (from_has n xs h l le)) (first_or_later x xs h c))
    (λ f. ⊎_elim (λ (e : x ≡ h). absurd (true≢false (sym (le-leb n x.n (subst (λ (y : Held). n ≤ y.n) (sym e) le)) ∙ f))) (λ l. from_has n xs h l le) (first_or_later x xs h c))

-- ---- a run goes on to its end

-- A burst that was served is at its end, and one that was sent nothing yet wasn't lost.
pub record IsOut (held : List Held) (b : Burst) : Type 0 where
  pub at_end : IsAtItsEnd held b
  pub unlost : b.sent ≡ [] → is_lost (next b) held ≡ false

-- where the next packet isn't sent the burst is at its end
stops_here : (held ps : List Held) (p : Held) (b : Burst) → Rises (next b) (p ∷ ps) → ((h : Held) → Contains held h → next b ≤ h.n → Contains (p ∷ ps) h)
    → (eqb p.n (next b) && is_before b.stop (next b) && leb p.wire b.left) ≡ false → IsAtItsEnd held b
stops_here held ps p b r has f h c at before =
    ⊎_elim
    (λ (e : p ≡ h). ⊎_elim
    (λ (t : leb p.wire b.left ≡ true). absurd (true≢false (sym (and_from _ _ (and_from _ _ (eq-eqb p.n (next b) (ap (λ (x : Held). x.n) e ∙ at)) (is_before_stop b.stop (next b) before)) t) ∙ f)))
    (λ u. subst (λ (x : Held). b.left < x.wire) e (leb-false p.wire b.left u)) (cases_Bool (leb p.wire b.left)))
    (λ l. let le = above (p.n + 1) ps h r.1 l in absurd (omega (arith, le, at, r.0)))
    (first_or_later p ps h (has h c (omega (arith, at))))

ran_out : (s : Settings) (k : ℕ) (held ps : List Held) (history : History) (b : Burst) → open_burst s k history ≡ Some b → Rises (next b) ps
    → ((h : Held) → Contains held h → next b ≤ h.n → Contains ps h) → (b.sent ≡ [] → is_lost (next b) held ≡ false)
    → Holds (IsOut held) (open_burst s k (send s k (run b.stop (next b) b.left ps) history))
unfolding run send
ran_out s k held [] history b e r has unlost =
    subst (Holds (IsOut held)) (sym e) (record { at_end = λ h c at before. let none = has h c (omega (arith, at)) in absurd (omega (arith, none.1)); unlost = unlost })
ran_out s k held (p ∷ ps) history b e r has unlost =
    cond_both (eqb p.n (next b) && is_before b.stop (next b) && leb p.wire b.left) (p ∷ run b.stop (next b + 1) (b.left - p.wire) ps) []
    (λ l. Holds (IsOut held) (open_burst s k (send s k l history)))
    (λ t. goes_on (eqb-true p.n (next b) (and_parts (eqb p.n (next b)) (is_before b.stop (next b)) (and_parts _ _ t).0).0) (ran_out s k held ps))
    (λ f. subst (Holds (IsOut held)) (sym e) (record { at_end = stops_here held ps p b r has f; unlost = unlost }))
  where
    sent : Burst
    sent = after_note s (note.Burst k p.n (sequence s k history)) p.wire b

    further : next sent ≡ next b + 1
    further = omega arith

    goes_on : p.n ≡ next b
        → ((history : History) (c : Burst) → open_burst s k history ≡ Some c → Rises (next c) ps → ((h : Held) → Contains held h → next c ≤ h.n → Contains ps h)
        → (c.sent ≡ [] → is_lost (next c) held ≡ false) → Holds (IsOut held) (open_burst s k (send s k (run c.stop (next c) c.left ps) history)))
        → Holds (IsOut held) (open_burst s k (send s k (run b.stop (next b + 1) (b.left - p.wire) ps) (noted (note.Burst k p.n (sequence s k history)) (Some p) ∷ history)))
    goes_on at more =
        let after = noted (note.Burst k p.n (sequence s k history)) (Some p) ∷ history in
        subst (λ (n : ℕ). Holds (IsOut held) (open_burst s k (send s k (run b.stop n (b.left - p.wire) ps) after))) further
        (more after sent (open_sent s k p.n (sequence s k history) p history b e) (subst (λ (n : ℕ). Rises n ps) (ap (λ (n : ℕ). n + 1) at ∙ sym further) r.1)
        (λ h c le. ⊎_elim (λ (is : p ≡ h). let same = ap (λ (x : Held). x.n) is in absurd (omega (arith, same, at, further, le))) (λ l. l)
        (first_or_later p ps h (has h c (omega (arith, le, further)))))
        (λ none. cc))

-- an end of the burst leaves none open
ended_or_same : (s : Settings) (k : ℕ) (P : Burst → Type 0) (o : Option Burst) (history : History) → Holds P (open_burst s k history) → Holds P (open_burst s k (after_run s k o history))
ended_or_same s k P None history h = h
ended_or_same s k P (Some b) history h =
    cond_both (is_stop b.stop (next b)) (noted (note.End k Stopped) None ∷ history) (cond (eqb b.ticks s.channel.limit) (noted (note.End k Limit) None ∷ history) history)
    (λ l. Holds P (open_burst s k l)) (λ t. closed Stopped)
    (λ f. cond_both (eqb b.ticks s.channel.limit) (noted (note.End k Limit) None ∷ history) history (λ l. Holds P (open_burst s k l)) (λ t. closed Limit) (λ g. h))
  where
    closed : (why : Cause) → Holds P (open_burst s k (noted (note.End k why) None ∷ history))
    closed why = subst (Holds P) (sym (end_closes s k why None history)) tt

served_out : (s : Settings) (k : ℕ) (held : List Held) (m : ℕ) (o : Option Burst) (history : History) → open_burst s k history ≡ o → Rises m held
    → Holds (IsOut held) (open_burst s k (burst_served s held k o history))
served_out s k held m None history e r = subst (Holds (IsOut held)) (sym e) tt
served_out s k held m (Some b) history e r =
    let packets = from_number (next b) held in
    let sent = send s k (run b.stop (next b) b.left packets) history in
    cond_both (is_lost (next b) held) (noted (note.End k Lost) None ∷ history) (run_sent s k sent) (λ l. Holds (IsOut held) (open_burst s k l))
    (λ t. subst (Holds (IsOut held)) (sym (end_closes s k Lost None history)) tt)
    (λ f. ended_or_same s k (IsOut held) (open_burst s k sent) sent
    (ran_out s k held packets history b e (from_rises (next b) m held r) (λ h c le. from_has (next b) held h c le) (λ none. f)))

-- ---- what comes later in the tick keeps it so

-- no other client's run changes an open burst
others_keep : (s : Settings) (k : ℕ) (P : Burst → Type 0) → IsKeptByOthers k (λ history. Holds P (open_burst s k history))
others_keep s k P n packet history runs other h =
    subst (λ (bs : List Burst). Holds P (newest_open bs)) (sym (other_bursts s k n packet history other)) h

repairs_keep : (s : Settings) (k : ℕ) (held : List Held) (n : Note) (packet : Option Held) (history : History) → is_repair n ≡ true
    → Holds (IsAtItsEnd held) (open_burst s k history) → Holds (IsAtItsEnd held) (open_burst s k (noted n packet ∷ history))
repairs_keep s k held (note.Repair client n q) packet history own h =
    at_note s k (IsAtItsEnd held) (note.Repair client n q) packet history
    (record { begins = λ first rate join e. cc; changes = λ b is is_open at_end x c at before. let lt = at_end x c at before in omega (arith, lt) }) h
repairs_keep s k held (note.Gone client n) packet history own h =
    at_note s k (IsAtItsEnd held) (note.Gone client n) packet history (record { begins = λ first rate join e. cc; changes = λ b is. absurd (true≢false (sym is)) }) h
repairs_keep s k held n packet history own h = absurd (true≢false (sym own))

forgetting_keeps : (s : Settings) (k : ℕ) (P : Burst → Type 0) (n : Note) (packet : Option Held) (history : History) → is_forgotten n ≡ true
    → Holds P (open_burst s k history) → Holds P (open_burst s k (noted n packet ∷ history))
forgetting_keeps s k P (note.Forgot client) packet history own h =
    at_note s k P (note.Forgot client) packet history (record { begins = λ first rate join e. cc; changes = λ b is. absurd (true≢false (sym is)) }) h
forgetting_keeps s k P n packet history own h = absurd (true≢false (sym own))

-- ---- the whole tick

-- once its runs are over
pub after_runs : (s : Settings) (k : ℕ) (start : History) → Holds (IsOut (hold s start)) (open_burst s k (bursts_served s start))
after_runs s k start =
    let held = hold s start in
    let Out : History → Type 0 = λ history. Holds (IsOut held) (open_burst s k history) in
    in_turn s k start (λ history. Unit {0}) Out (λ n packet history runs other p. tt) (others_keep s k (IsOut held))
    (λ history p. served_out s k held _ (open_burst s k history) history refl (rises_from _ held (held_follow s start))) tt (λ none. subst (Holds (IsOut held)) (sym none) tt)

at_end_of : (held : List Held) (o : Option Burst) → Holds (IsOut held) o → Holds (IsAtItsEnd held) o
at_end_of held None out = tt
at_end_of held (Some b) out = out.at_end

pub runs_went_on : (s : Settings) (events : List Event) (k : ℕ) (b : Burst) → open_burst s k (history_of s (Tick ∷ events)) ≡ Some b → IsAtItsEnd (hold s (history_of s events)) b
runs_went_on s events k b e =
    let begin = start s events in
    let held = hold s begin in
    let runs = ran s events in
    let repaired = repaired_all s events in
    let after_repairs = through is_repair (λ x. Holds (IsAtItsEnd held) (open_burst s k x)) (λ n packet x own y. repairs_keep s k held n packet x own y) runs repaired
    (all_repaired_put s (hold s runs) (pending runs) runs) (at_end_of held (open_burst s k runs) (after_runs s k begin)) in
    let after_all = through is_forgotten (λ x. Holds (IsAtItsEnd held) (open_burst s k x)) (λ n packet x own y. forgetting_keeps s k (IsAtItsEnd held) n packet x own y) repaired (idle_forgotten s repaired)
    (all_forgotten_put s (known repaired) repaired) after_repairs in
    subst (λ (hs : List Held). IsAtItsEnd hs b) (held_at_start s (history_of s events))
    (holds_of (IsAtItsEnd held) (open_burst s k (idle_forgotten s repaired)) b after_all (sym (ap (open_burst s k) (tick_is s events)) ∙ e))
