-- What was true before an Accept, an Update and a Queued.
use Rattle.std.proofs.Common.{◌≡◌, ℕ, ◌+◌, ◌-◌, ◌≤◌, ◌<◌, false, not, ⊎_elim, List, [], ◌∷◌, Option, Some, None, refl, ap, subst, arith, zero-le, length, eqb, leb}
use Rattle.std.specs.Prelude.{Result, Ok, Err, unwrap_or}
use Rattle.std.proofs.lemmas.Bool.{cond_both, ltb-false, leb-false}
use Rattle.rams_model.specs.declared.{fault.TlvFault.TlvFault, held.Held.Held, note.Note.Note}
use Rattle.rams_model.specs.declared.note.Note.TheVariants as note
use Rattle.rams_model.specs.Service.{Settings, History, hold, Burst, next, open_burst, pending, is_pending, pending_of, reserved, rate_of, asked_rate, is_slow, is_too_much, is_full, join_from, begins, changes, on_burst, on_request, verdict, is_early, room, held_answer, number_answer}
use Rattle.rams_model.specs.Formats.{Request, names}
use Rattle.rams_model.specs.Packets.{lo, hi, chosen}
use Rattle.rams_model.specs.Laws.{IsAmong, Rises, IsChoice}
use Rattle.rams_model.proofs.Holding.{held_follow, rises_from}
use Rattle.rams_model.proofs.Rising.{below_hi, lower}
use Rattle.rams_model.proofs.Choosing.{newest_chosen}
use Rattle.rams_model.proofs.Legal.{IsVerdict, IsNumberAnswer}

-- A burst begins: its client has none and is known or can be, at the chosen access point, at a rate that is enough and fits.
pub record Accepted (s : Settings) (history : History) (k first rate join : ℕ) (r : Request) : Type 0 where
  pub none : open_burst s k history ≡ None
  pub room : is_full s k history ≡ false
  pub start : Held
  pub is_chosen : chosen s.channel (hold s history) (unwrap_or r.min_ms 0) r.max_ms ≡ Ok start
  pub number : start.n ≡ first
  pub fast : s.channel.declared + 1500 ≤ rate
  pub within : rate ≤ s.channel.burst
  pub fits : reserved s history + rate + s.channel.depth + s.channel.reserve ≤ s.channel.share
  pub join_is : join ≡ join_from s (hold s history) first rate

-- The open burst gets another rate, which is enough and fits.
pub record Updated (s : Settings) (history : History) (k rate join : ℕ) : Type 0 where
  pub burst : Burst
  pub is_open : open_burst s k history ≡ Some burst
  pub fast : s.channel.declared + 1500 ≤ rate
  pub within : rate ≤ s.channel.burst
  pub fits : reserved s history - burst.rate + rate + s.channel.reserve ≤ s.channel.share
  pub join_is : join ≡ join_from s (hold s history) (next burst) rate

-- what a verdict grants of a request
abbrev Grants : Settings → History → ℕ → Request → Note → Type 0
Grants s history k r (note.Accept client first rate join) = Accepted s history k first rate join r
Grants s history k r (note.Update client rate join) = Updated s history k rate join
Grants s history k r _ = Unit {0}

asked_within : (s : Settings) (bps : Option ℕ) → rate_of bps s.tick s.channel.burst ≤ s.channel.burst
asked_within s None = omega arith
asked_within s (Some bps) = omega arith

grants_begin : (s : Settings) (k : ℕ) (r : Request) (history : History) → open_burst s k history ≡ None → is_full s k history ≡ false → (o : Result Held ℕ)
    → chosen s.channel (hold s history) (unwrap_or r.min_ms 0) r.max_ms ≡ o → Grants s history k r (begins s (hold s history) k (asked_rate s r) history o)
grants_begin s k r history none free (Err code) e = tt
grants_begin s k r history none free (Ok h) e =
    let rate = asked_rate s r in
    let amount = reserved s history + rate + s.channel.depth in
    cond_both (is_slow s rate) _ _ (Grants s history k r) (λ t. tt)
    (λ f. cond_both (is_too_much s amount) _ _ (Grants s history k r) (λ t. tt)
    (λ g. record {
      none = none;
      room = free;
      start = h;
      is_chosen = e;
      number = refl;
      fast = ltb-false rate (s.channel.declared + 1500) f;
      within = asked_within s r.bps;
      fits = ltb-false s.channel.share (amount + s.channel.reserve) g;
      join_is = refl;
    }))

grants_change : (s : Settings) (k : ℕ) (r : Request) (history : History) (b : Burst) → open_burst s k history ≡ Some b
    → Grants s history k r (changes s (hold s history) k (asked_rate s r) history b)
grants_change s k r history b is =
    let rate = asked_rate s r in
    let amount = reserved s history - b.rate + rate in
    cond_both (is_slow s rate) _ _ (Grants s history k r) (λ t. tt)
    (λ f. cond_both (is_too_much s amount) _ _ (Grants s history k r) (λ t. tt)
    (λ g. record {
      burst = b;
      is_open = is;
      fast = ltb-false rate (s.channel.declared + 1500) f;
      within = asked_within s r.bps;
      fits = ltb-false s.channel.share (amount + s.channel.reserve) g;
      join_is = refl;
    }))

grants_on_burst : (s : Settings) (k : ℕ) (r : Request) (history : History) (b : Burst) → open_burst s k history ≡ Some b → (bps : Option ℕ)
    → Grants s history k r (on_burst s (hold s history) k (asked_rate s r) history b bps)
grants_on_burst s k r history b is None = tt
grants_on_burst s k r history b is (Some bps) = cond_both (eqb (asked_rate s r) b.rate) _ _ (Grants s history k r) (λ t. tt) (λ f. grants_change s k r history b is)

grants_on_request : (s : Settings) (k : ℕ) (r : Request) (history : History) (o : Option Burst) → open_burst s k history ≡ o
    → Grants s history k r (on_request s (hold s history) k r history o)
grants_on_request s k r history (Some b) is = grants_on_burst s k r history b is r.bps
grants_on_request s k r history None is =
    cond_both (is_full s k history) _ _ (Grants s history k r) (λ t. tt)
    (λ f. grants_begin s k r history is f (chosen s.channel (hold s history) (unwrap_or r.min_ms 0) r.max_ms) refl)

grants : (s : Settings) (k : ℕ) (history : History) (r : Request) → Grants s history k r (verdict s k history (Ok r))
unfolding verdict
grants s k history r =
    cond_both r.preamble _ _ (Grants s history k r) (λ t. tt)
    (λ f. cond_both (not (names r s.channel.ssrc)) _ _ (Grants s history k r) (λ t. tt) (λ g. grants_on_request s k r history (open_burst s k history) refl))

accepted_by : (s : Settings) (history : History) (k first rate join : ℕ) (request : Result Request TlvFault) → verdict s k history request ≡ note.Accept k first rate join
    → (r : Request) × (request ≡ Ok r) × Accepted s history k first rate join r
unfolding verdict
accepted_by s history k first rate join (Err fault) v = absurd cc
accepted_by s history k first rate join (Ok r) v = (r, refl, subst (Grants s history k r) v (grants s k history r))

updated_by : (s : Settings) (history : History) (k rate join : ℕ) (request : Result Request TlvFault) → verdict s k history request ≡ note.Update k rate join
    → Updated s history k rate join
unfolding verdict
updated_by s history k rate join (Err fault) v = absurd cc
updated_by s history k rate join (Ok r) v = subst (Grants s history k r) v (grants s k history r)

pub accept_grants : (s : Settings) (history : History) (k first rate join : ℕ) → (v : IsVerdict s history k (note.Accept k first rate join))
    → (r : Request) × (v.request ≡ Ok r) × Accepted s history k first rate join r
accept_grants s history k first rate join v = accepted_by s history k first rate join v.request v.is_verdict

pub update_grants : (s : Settings) (history : History) (k rate join : ℕ) → IsVerdict s history k (note.Update k rate join) → Updated s history k rate join
update_grants s history k rate join v = updated_by s history k rate join v.request v.is_verdict

-- what is held rises
pub held_rises : (s : Settings) (history : History) → Rises 0 (hold s history)
held_rises s history = lower 0 (lo (hold s history)) (hold s history) zero-le (rises_from (lo (hold s history)) (hold s history) (held_follow s history))

pub among_below : (n : ℕ) (hs : List Held) (h : Held) → Rises n hs → IsAmong h hs → h.n < hi hs
unfolding hi
among_below n [] h r a = absurd a
among_below n (j ∷ []) h r a = ⊎_elim (λ (same : j ≡ h). let e : j.n ≡ h.n = ap (λ (x : Held). x.n) same in omega (arith, e)) (λ no_one. absurd no_one) a
among_below n (j ∷ i ∷ hs) h r a =
    ⊎_elim (λ (same : j ≡ h). let e : j.n ≡ h.n = ap (λ (x : Held). x.n) same in let lt = below_hi n j (i ∷ hs) r in omega (arith, e, lt))
    (λ later. among_below (j.n + 1) (i ∷ hs) h r.1 later) a

-- where a burst begins is the newest access point that its request may have, and is held
pub accepted_choice : (s : Settings) (history : History) (k first rate join : ℕ) (r : Request) → (a : Accepted s history k first rate join r)
    → IsChoice s.channel (hold s history) (unwrap_or r.min_ms 0) r.max_ms (Ok a.start)
accepted_choice s history k first rate join r a =
    let held = hold s history in
    subst (IsChoice s.channel held (unwrap_or r.min_ms 0) r.max_ms) a.is_chosen (newest_chosen s.channel held (unwrap_or r.min_ms 0) r.max_ms (held_rises s history))

pub accepted_below : (s : Settings) (history : History) (k first rate join : ℕ) (r : Request) → Accepted s history k first rate join r → first < hi (hold s history)
accepted_below s history k first rate join r a =
    let below = among_below 0 (hold s history) a.start (held_rises s history) (accepted_choice s history k first rate join r a).0.among in omega (arith, below, a.number)

-- A repair is queued where it isn't pending, its client is known or can be, and there is room for it.
pub record MayWait (s : Settings) (k n : ℕ) (history : History) : Type 0 where
  pub new : is_pending k n history ≡ false
  pub room : is_full s k history ≡ false
  pub of_client : length (pending_of k history) < 256
  pub in_all : length (pending history) < 4096

may_wait : (s : Settings) (k n : ℕ) (history : History) (low : ℕ) (o : Option Held) → held_answer room s k history low o ≡ note.Queued k n → MayWait s k n history
may_wait s k n history low None e = absurd cc
may_wait s k n history low (Some h) e =
    let P : Note → Type 0 = λ a. a ≡ note.Queued k n → MayWait s k n history in
    cond_both (is_early (open_burst s k history) h.n) _ _ P (λ t q. absurd cc)
    (λ f. cond_both (is_pending k h.n history) _ _ P (λ t q. absurd cc)
    (λ new. cond_both (is_full s k history) _ _ P (λ t q. absurd cc)
    (λ free. cond_both (leb room.of_client (length (pending_of k history))) _ _ P (λ t q. absurd cc)
    (λ few. cond_both (leb room.in_all (length (pending history))) _ _ P (λ t q. absurd cc)
    (λ short q. let same : h.n ≡ n = cc in
    record {
      new = subst (λ (m : ℕ). is_pending k m history ≡ false) same new;
      room = free;
      of_client = leb-false 256 (length (pending_of k history)) few;
      in_all = leb-false 4096 (length (pending history)) short;
    }))))) e

pub waits : (s : Settings) (history : History) (k n : ℕ) → IsNumberAnswer s history k (note.Queued k n) → MayWait s k n history
unfolding number_answer
waits s history k n a = may_wait s k n history a.low _ a.is_number
