-- A tick's history is made of its notes, and each note says which packet it sends.
use Rattle.std.proofs.Common.{◌≡◌, ℕ, ◌+◌, ◌-◌, ◌<◌, ◌≤◌, Bool, true, ◌&&◌, List, [], ◌∷◌, ◌++◌, Option, Some, None, IsSome, refl, ap, sym, ◌∙◌, subst, arith, eqb, leb, filter, append_assoc, append-nil}
use Rattle.std.specs.List.{AllByRecursion as Each}
use Rattle.std.proofs.lemmas.Bool.{cond_both, cond-true, cond-false, eq-eqb, ne_eqb, eqb-true, or_parts}
use Rattle.rams_model.specs.declared.{Held.Held, Note.Note}
use Rattle.rams_model.specs.declared.Cause.TheVariants.{Stopped, Lost, Limit}
use Rattle.rams_model.specs.declared.Note.TheVariants.{Burst as BurstNote, Repair, Gone, End, Forgot}
use Rattle.rams_model.specs.Service.{Settings, noted, History, sequence, next, open_burst, has_open, Wanted, idle, may_take, channel_left, is_before, run, send, is_lost, is_stop, after_run, burst_served, all_served, repaired, all_repaired, all_forgotten, newest_notes}
use Rattle.rams_model.specs.Packets.{lo, from_number, Follows}
use Rattle.rams_model.specs.Service.Bursts as model
use Rattle.rams_model.proofs.Newest.{notes_behind}
use Rattle.channel_cache.specs.packet_ring.{packet_of}
use Rattle.channel_parts.proofs.Knowing.{idle_not_busy}
use Rattle.channel_parts.proofs.Opening.{none_of}

-- What a note of a tick says of the history before it: the packet that it sends is the held one of its number; a burst that ends was open; one who is forgotten has none.
abbrev pub Fits : Settings → List Held → Note → Option Held → History → Type 0
Fits s held (BurstNote client n seq) packet history = (packet ≡ packet_of n held) × IsSome packet
Fits s held (Repair client n seq) packet history = (packet ≡ packet_of n held) × IsSome packet
Fits s held (Gone client n) packet history = Unit {0}
Fits s held (End client cause) packet history = (b : model.Burst) × (open_burst s client history ≡ Some b)
Fits s held (Forgot client) packet history = open_burst s client history ≡ None
Fits s held _ packet history = ⊥

-- The history goes on by notes that fit.
pub data Adds (s : Settings) (held : List Held) (history : History) : History → Type 0 where
  none : Adds s held history history
  plus : (note : Note) (packet : Option Held) (later : History) → Fits s held note packet later → Adds s held history later → Adds s held history (noted note packet ∷ later)

pub then : (s : Settings) (held : List Held) (a b c : History) → Adds s held a b → Adds s held b c → Adds s held a c
then s held a b _ first none = first
then s held a b _ first (plus note packet later fits on) = plus note packet later fits (then s held a b later first on)

one : (s : Settings) (held : List Held) (note : Note) (packet : Option Held) (history : History) → Fits s held note packet history → Adds s held history (noted note packet ∷ history)
one s held note packet history fits = plus note packet history fits none

-- ---- a run sends held packets
abbrev AreFound : List Held → List Held → Type 0
AreFound held hs = Each (λ h. packet_of h.n held ≡ Some h) hs

later_found : (x : Held) (n : ℕ) (hs whole : List Held) → Follows n hs → x.n < n → AreFound whole hs → AreFound (x ∷ whole) hs
later_found x n [] whole follows below found = tt
later_found x n (h ∷ hs) whole follows below found = (
  cond-false (eqb x.n h.n) (Some x) (packet_of h.n whole) (ne_eqb x.n h.n (λ e. omega (arith, e, follows.0))) ∙ found.0,
  later_found x (n + 1) hs whole follows.1 (omega arith) found.1,
)

all_found : (n : ℕ) (hs : List Held) → Follows n hs → AreFound hs hs
all_found n [] follows = tt
all_found n (h ∷ hs) follows =
    (cond-true (eqb h.n h.n) (Some h) (packet_of h.n hs) (eq-eqb h.n h.n refl), later_found h (n + 1) hs hs follows.1 (omega (arith, follows.0)) (all_found (n + 1) hs follows.1))

passed_found : (p : Held → Bool) (whole hs : List Held) → AreFound whole hs → AreFound whole (filter p hs)
passed_found p whole [] found = tt
passed_found p whole (h ∷ hs) found =
    cond_both (p h) (h ∷ filter p hs) (filter p hs) (AreFound whole) (λ t. (found.0, passed_found p whole hs found.1)) (λ f. passed_found p whole hs found.1)

run_found : (whole : List Held) (stop : Option ℕ) (n left : ℕ) (hs : List Held) → AreFound whole hs → AreFound whole (run stop n left hs)
unfolding run
run_found whole stop n left [] found = tt
run_found whole stop n left (h ∷ hs) found =
    cond_both (eqb h.n n && is_before stop n && leb h.wire left) (h ∷ run stop (n + 1) (left - h.wire) hs) [] (AreFound whole)
    (λ t. (found.0, run_found whole stop (n + 1) (left - h.wire) hs found.1)) (λ f. tt)

send_adds : (s : Settings) (held : List Held) (k : ℕ) (hs : List Held) (history : History) → AreFound held hs → Adds s held history (send s k hs history)
unfolding send
send_adds s held k [] history found = none
send_adds s held k (h ∷ hs) history found =
    let seq = sequence s k history in
    then s held history (noted (BurstNote k h.n seq) (Some h) ∷ history) _ (one s held (BurstNote k h.n seq) (Some h) history (sym found.0, refl)) (send_adds s held k hs _ found.1)

after_run_adds : (s : Settings) (held : List Held) (k : ℕ) (o : Option model.Burst) (history : History) → open_burst s k history ≡ o → Adds s held history (after_run s k o history)
after_run_adds s held k None history is = none
after_run_adds s held k (Some b) history is =
    cond_both (is_stop b.stop (next b)) _ _ (Adds s held history) (λ t. one s held (End k Stopped) None history (b, is))
    (λ f. cond_both (eqb b.ticks s.channel.limit) _ _ (Adds s held history) (λ t. one s held (End k Limit) None history (b, is)) (λ g. none))

served_adds : (s : Settings) (held : List Held) (k : ℕ) (o : Option model.Burst) (history : History) → Follows (lo held) held → open_burst s k history ≡ o → Adds s held history (burst_served s held k o history)
served_adds s held k None history follows is = none
served_adds s held k (Some b) history follows is =
    let hs = run b.stop (next b) b.left (from_number (next b) held) in
    let found = run_found held b.stop (next b) b.left (from_number (next b) held) (passed_found (λ h. leb (next b) h.n) held held (all_found (lo held) held follows)) in
    cond_both (is_lost (next b) held) _ _ (Adds s held history) (λ t. one s held (End k Lost) None history (b, is))
    (λ f. then s held history (send s k hs history) _ (send_adds s held k hs history found) (after_run_adds s held k (open_burst s k (send s k hs history)) (send s k hs history) refl))

pub all_served_adds : (s : Settings) (held : List Held) (ks : List ℕ) (history : History) → Follows (lo held) held → Adds s held history (all_served s held ks history)
unfolding all_served
all_served_adds s held [] history follows = none
all_served_adds s held (k ∷ ks) history follows =
    then s held history (burst_served s held k (open_burst s k history) history) _ (served_adds s held k (open_burst s k history) history follows refl) (all_served_adds s held ks _ follows)

repaired_adds : (s : Settings) (held : List Held) (w : Wanted) (o : Option Held) (history : History) → packet_of w.n held ≡ o → Adds s held history (repaired s held w o history)
repaired_adds s held w None history is = one s held (Gone w.client w.n) None history tt
repaired_adds s held w (Some h) history is =
    cond_both (leb h.wire (may_take s held w.client history) && leb h.wire (channel_left s history)) _ history (Adds s held history)
    (λ t. one s held (Repair w.client w.n (sequence s w.client history)) (Some h) history (sym is, refl)) (λ f. none)

pub all_repaired_adds : (s : Settings) (held : List Held) (ws : List Wanted) (history : History) → Adds s held history (all_repaired s held ws history)
unfolding all_repaired
all_repaired_adds s held [] history = none
all_repaired_adds s held (w ∷ ws) history = then s held history _ _ (repaired_adds s held w (packet_of w.n held) history refl) (all_repaired_adds s held ws _)

forgot_open : (s : Settings) (k : ℕ) (history : History) → 1 ≤ s.channel.idle → eqb (idle s k history) s.channel.idle ≡ true → open_burst s k history ≡ None
forgot_open s k history least t =
    let same : idle s k history ≡ s.channel.idle = eqb-true (idle s k history) s.channel.idle t in
    none_of (open_burst s k history) (or_parts (has_open s k history) _ (idle_not_busy s k history (omega (arith, same)))).0

pub all_forgotten_adds : (s : Settings) (held : List Held) (ks : List ℕ) (history : History) → 1 ≤ s.channel.idle → Adds s held history (all_forgotten s ks history)
unfolding all_forgotten
all_forgotten_adds s held [] history least = none
all_forgotten_adds s held (k ∷ ks) history least =
    let step = cond_both (eqb (idle s k history) s.channel.idle) (noted (Forgot k) None ∷ history) history (Adds s held history) (λ t. one s held (Forgot k) None history (forgot_open s k history least t)) (λ f. none) in
    then s held history _ _ step (all_forgotten_adds s held ks _ least)

-- ---- from the oldest note on
abbrev pub Leads : Settings → List Held → List Note → History → History → Type 0
Leads s held [] history end = history ≡ end
Leads s held (note ∷ notes) history end = (packet : Option Held) × Fits s held note packet history × Leads s held notes (noted note packet ∷ history) end

leads_more : (s : Settings) (held : List Held) (notes : List Note) (history mid : History) (note : Note) (packet : Option Held) → Leads s held notes history mid → Fits s held note packet mid
    → Leads s held (notes ++ note ∷ []) history (noted note packet ∷ mid)
leads_more s held [] history mid note packet leads fits =
    (packet, subst (Fits s held note packet) (sym leads) fits, ap (λ (h : History). noted note packet ∷ h) leads)
leads_more s held (n ∷ notes) history mid note packet leads fits = (leads.0, leads.1, leads_more s held notes (noted n leads.0 ∷ history) mid note packet leads.2 fits)

pub record Steps (s : Settings) (held : List Held) (history end : History) : Type 0 where
  pub notes : List Note
  pub leads : Leads s held notes history end
  pub noted_are : newest_notes end [] ≡ newest_notes history [] ++ notes

pub steps : (s : Settings) (held : List Held) (a b : History) → Adds s held a b → Steps s held a b
unfolding newest_notes
steps s held a _ none = record { notes = []; leads = refl; noted_are = sym (append-nil (newest_notes a [])) }
steps s held a _ (plus note packet later fits on) =
    let rest = steps s held a later on in
    record {
      notes = rest.notes ++ note ∷ [];
      leads = leads_more s held rest.notes a later note packet rest.leads fits;
      noted_are = notes_behind later (note ∷ []) ∙ (ap (λ (l : List Note). l ++ note ∷ []) rest.noted_are ∙ append_assoc (newest_notes a []) rest.notes (note ∷ []));
    }

-- the end begins with the history from which its notes lead to it
pub leads_later : (s : Settings) (held : List Held) (notes : List Note) (history end : History) → Leads s held notes history end → (later : History) × (end ≡ later ++ history)
leads_later s held [] history end leads = ([], sym leads)
leads_later s held (note ∷ notes) history end leads =
    let rest = leads_later s held notes (noted note leads.0 ∷ history) end leads.2 in
    (rest.0 ++ noted note leads.0 ∷ [], rest.1 ∙ sym (append_assoc rest.0 (noted note leads.0 ∷ []) history))
