-- Which line a number that a NACK names meets.
use Rattle.std.proofs.Common.{◌≡◌, ℕ, ◌+◌, ◌%◌, ◌≤◌, ◌<◌, Bool, true, false, cond, not, ◌&&◌, ⊎_elim, List, [], ◌∷◌, ◌++◌, length, Option, Some, None, refl, ap, sym, ◌∙◌, subst, arith, eqb, leb}
use Rattle.std.specs.Prelude.{find, is_some}
use Rattle.std.specs.List.{list_any}
use Rattle.std.proofs.lemmas.Bool.{cond-true, cond-false, cases_Bool, and_parts, and_left, or_parts, or_from, not-true, eqb-true, eqb-false, ne_eqb}
use Rattle.rams_model.specs.declared.{Channel.Channel, Held.Held, Note.Note}
use Rattle.rams_model.specs.declared.Note.TheVariants as notes
use Rattle.rams_model.specs.Service.{Settings, noted, History, newest_sender, room, is_before, is_early, repair_note, held_answer, number_answer, open_burst, Wanted, wanted, is_wanted, pending, is_pending, pending_of, is_full}
use Rattle.rams_model.specs.Packets.{lo, hi, Follows}
use Rattle.rams_model.specs.Service.Bursts as model
use Rattle.client_table.specs.declared.{Burst.Burst, Entry.Entry}
use Rattle.reckoning.specs.ext_seq.{IsResolved}
use Rattle.repair_queue.specs.declared.Asked.{Asked}
use Rattle.repair_queue.specs.{asked_of}
use Rattle.repair_queue.specs.declared.Asked.TheVariants as asks
use Rattle.repair_queue.specs.Queue as queues
use Rattle.feedback_core.specs.declared.{visitor.Open.Open, visitor.Visitor.Visitor}
use Rattle.feedback_core.specs.{open_of, entry_under, is_sent_later, IsClient, IsVisit, IsHeldRun, IsAnswered}
use Rattle.feedback_core.proofs.Others.{IsOf}
use Rattle.feedback_core.proofs.Visiting.{IsIdle, idle_visit, is_opened, is_closed}
use Rattle.feedback_core.proofs.Turning.{queued}
use Rattle.feedback_core.proofs.Verdicts.{answered_by, full_is}

-- the packet with these low bits
abbrev has_low : ℕ → Held → Bool
has_low low h = eqb (h.n % 65536) low

record Found (low n : ℕ) (hs : List Held) : Type 0 where
  pub packet : Held
  pub is_found : find (has_low low) hs ≡ Some packet
  pub number : packet.n ≡ n

found_in : (m n low : ℕ) (hs : List Held) → Follows m hs → m ≤ n → n < m + length hs → n % 65536 ≡ low
    → ((i : ℕ) → m ≤ i → i < m + length hs → i % 65536 ≡ low → i ≡ n) → Found low n hs
found_in m n low [] f le lt bits only = absurd (omega arith)
found_in m n low (h ∷ hs) f le lt bits only =
    ⊎_elim
    (λ t. record {
      packet = h;
      is_found = cond-true (has_low low h) (Some h) (find (has_low low) hs) t;
      number = only h.n (omega (arith, f.0)) (omega (arith, f.0)) (eqb-true (h.n % 65536) low t);
    })
    (λ no.
    let other : m ≡ n → ⊥ = λ e. eqb-false (h.n % 65536) low no (ap (λ (i : ℕ). i % 65536) (f.0 ∙ e) ∙ bits) in
    let rest = found_in (m + 1) n low hs f.1 (omega (arith, le, other)) (omega (arith, lt)) bits (λ i from below. only i (omega (arith, from)) (omega (arith, below))) in
    record {
      packet = rest.packet;
      is_found = cond-false (has_low low h) (Some h) (find (has_low low) hs) no ∙ rest.is_found;
      number = rest.number;
    })
    (cases_Bool (has_low low h))

none_in : (m low : ℕ) (hs : List Held) → Follows m hs → ((i : ℕ) → m ≤ i → i < m + length hs → i % 65536 ≡ low → ⊥) → find (has_low low) hs ≡ None
none_in m low [] f none' = refl
none_in m low (h ∷ hs) f none' =
    cond-false (has_low low h) (Some h) (find (has_low low) hs)
    (ne_eqb (h.n % 65536) low (λ e. none' h.n (omega (arith, f.0)) (omega (arith, f.0)) e))
    ∙ none_in (m + 1) low hs f.1 (λ i from below. none' i (omega (arith, from)) (omega (arith, below)))

-- where the interval of what is held was asked for
pub number_unheld : (s : Settings) (held : List Held) (k : ℕ) (history : History) (low from to : ℕ) → IsHeldRun held → from ≡ lo held → to ≡ hi held
    → ((i : ℕ) → IsResolved from to low i → ⊥) → number_answer room s held k history low ≡ notes.Unheld k low
unfolding number_answer
number_unheld s held k history low from to run fe te none' =
    ap (held_answer room s k history low)
    (none_in (lo held) low held run.follows (λ i le lt e. none' i (record { from = omega (arith, le, fe); below = omega (arith, lt, te, run.ends); bits = e })))

pub number_held : (s : Settings) (held : List Held) (k : ℕ) (history : History) (low from to n : ℕ) → IsHeldRun held → from ≡ lo held → to ≡ hi held
    → IsResolved from to low n → ((i : ℕ) → IsResolved from to low i → i ≡ n) → number_answer room s held k history low ≡ repair_note room s k history n
unfolding number_answer
number_held s held k history low from to n run fe te is only =
    let found = found_in (lo held) n low held run.follows (omega (arith, is.from, fe)) (omega (arith, is.below, te, run.ends)) is.bits
    (λ i le lt e. only i (record { from = omega (arith, le, fe); below = omega (arith, lt, te, run.ends); bits = e })) in
    ap (held_answer room s k history low) found.is_found ∙ ap (repair_note room s k history) found.number

-- the open burst will send it
early_of : (s : Settings) (before history : History) (v : Visitor) (queue : List Wanted) (n : ℕ) (o : Option Open) → IsVisit s before history v queue → open_of v.entry ≡ o
    → is_sent_later o n ≡ is_early (open_burst s v.client history) n
early_of s before history v queue n None w e = ap (λ (b : Option model.Burst). is_early b n) (sym (is_closed s before history v queue w e))
early_of s before history v queue n (Some o) w e =
    let is = is_opened s before history v queue o w e in
    ap (λ (b : Burst). leb b.next n && is_before b.stop n) is.burst_is ∙ ap (λ (b : Option model.Burst). is_early b n) (sym is.is_open)

pub early_is : (s : Settings) (before history : History) (v : Visitor) (queue : List Wanted) (n : ℕ) → IsVisit s before history v queue
    → is_early (open_burst s v.client history) n ≡ is_sent_later (open_of v.entry) n
early_is s before history v queue n w = sym (early_of s before history v queue n (open_of v.entry) w refl)

pub note_early : (s : Settings) (k : ℕ) (history : History) (n : ℕ) → is_early (open_burst s k history) n ≡ true → repair_note room s k history n ≡ notes.Early k n
note_early s k history n t = cond-true (is_early (open_burst s k history) n) _ _ t

-- a client that isn't known waits for nothing
not_wanted : (k n : ℕ) (ws : List Wanted) → list_any (λ w. eqb w.client k) ws ≡ false → list_any (is_wanted k n) ws ≡ false
not_wanted k n [] f = refl
not_wanted k n (w ∷ ws) f =
    let parts = or_parts (eqb w.client k) (list_any (λ x. eqb x.client k) ws) f in
    or_from (is_wanted k n w) (list_any (is_wanted k n) ws) (and_left (eqb w.client k) (eqb w.n n) parts.0) (not_wanted k n ws parts.1)

unasked_of : (s : Settings) (k n : ℕ) (history : History) (o : Option Entry) → is_some o ≡ false → IsClient s k history o → is_pending k n history ≡ false
unasked_of s k n history None e c = not_wanted k n (pending history) c.unasked
unasked_of s k n history (Some x) e c = absurd cc

pub note_full : (s : Settings) (before history : History) (v : Visitor) (queue : List Wanted) (n : ℕ) → is_early (open_burst s v.client history) n ≡ false
    → (not (is_some v.entry) && not v.has_place) ≡ true → IsVisit s before history v queue → repair_note room s v.client history n ≡ notes.TableFull v.client n
note_full s before history v queue n f t w =
    let unknown = not-true (is_some v.entry) (and_parts (not (is_some v.entry)) (not v.has_place) t).0 in
    cond-false (is_early (open_burst s v.client history) n) _ _ f
    ∙ cond-false (is_pending v.client n history) _ _ (unasked_of s v.client n history v.entry unknown w.client_is)
    ∙ cond-true (is_full s v.client history) _ _ (full_is s before history queue v w ∙ t)

-- the queue's answer as a note
abbrev pub asked_note : ℕ → ℕ → Asked → Note
asked_note k n asks.Already = notes.Already k n
asked_note k n asks.ClientFull = notes.ClientFull k n
asked_note k n asks.QueueFull = notes.QueueFull k n
asked_note k n asks.Queued = notes.Queued k n

by_lines : (k n : ℕ) (is_there is_full' of_client in_all : Bool) → is_full' ≡ false
    → cond is_there (notes.Already k n) (cond is_full' (notes.TableFull k n) (cond of_client (notes.ClientFull k n) (cond in_all (notes.QueueFull k n) (notes.Queued k n))))
    ≡ asked_note k n (cond is_there asks.Already (cond of_client asks.ClientFull (cond in_all asks.QueueFull asks.Queued)))
by_lines k n true full of_client in_all f = refl
by_lines k n false true of_client in_all f = absurd cc
by_lines k n false false true in_all f = refl
by_lines k n false false false true f = refl
by_lines k n false false false false f = refl

pub note_asked : (s : Settings) (before history : History) (v : Visitor) (queue : List Wanted) (n : ℕ) → is_early (open_burst s v.client history) n ≡ false
    → (not (is_some v.entry) && not v.has_place) ≡ false → IsVisit s before history v queue
    → repair_note room s v.client history n ≡ asked_note v.client n (asked_of queue v.client n)
note_asked s before history v queue n f g w =
    cond-false (is_early (open_burst s v.client history) n) _ _ f
    ∙ by_lines v.client n (is_pending v.client n history) (is_full s v.client history) (leb 256 (length (pending_of v.client history))) (leb 4096 (length (pending history)))
    (full_is s before history queue v w ∙ g)
    ∙ ap (λ (ws : List Wanted). asked_note v.client n (asked_of ws v.client n)) (sym w.queue_is)

-- the answers
pub answer_idle : (s : Settings) (before history : History) (queue : List Wanted) (v : Visitor) (n lawful : Note) → IsOf v.client n → IsIdle n → lawful ≡ n → IsVisit s before history v queue
    → IsAnswered s before history queue v n lawful
answer_idle s before history queue v n lawful of i e w = answered_by s before history queue v n lawful n refl e (idle_visit s n before history v queue of i w)

-- what was asked of the cache
pub record IsNumber (held : List Held) (low from to n : ℕ) : Type 0 where
  pub run : IsHeldRun held
  pub from_is : from ≡ lo held
  pub to_is : to ≡ hi held
  pub resolved : IsResolved from to low n
  pub only : (i : ℕ) → IsResolved from to low i → i ≡ n

lawful_note : (s : Settings) (held : List Held) (k : ℕ) (history : History) (low from to n : ℕ) → IsNumber held low from to n
    → number_answer room s held k history low ≡ repair_note room s k history n
lawful_note s held k history low from to n a = number_held s held k history low from to n a.run a.from_is a.to_is a.resolved a.only

pub answer_early : (s : Settings) (held : List Held) (before history : History) (queue : List Wanted) (v : Visitor) (low from to n : ℕ) → IsNumber held low from to n
    → is_sent_later (open_of v.entry) n ≡ true → IsVisit s before history v queue
    → IsAnswered s before history queue v (notes.Early v.client n) (number_answer room s held v.client history low)
answer_early s held before history queue v low from to n a t w =
    answer_idle s before history queue v (notes.Early v.client n) (number_answer room s held v.client history low) refl tt
    (lawful_note s held v.client history low from to n a ∙ note_early s v.client history n (early_is s before history v queue n w ∙ t)) w

pub answer_full : (s : Settings) (held : List Held) (before history : History) (queue : List Wanted) (v : Visitor) (low from to n : ℕ) → IsNumber held low from to n
    → is_sent_later (open_of v.entry) n ≡ false → (not (is_some v.entry) && not v.has_place) ≡ true → IsVisit s before history v queue
    → IsAnswered s before history queue v (notes.TableFull v.client n) (number_answer room s held v.client history low)
answer_full s held before history queue v low from to n a f t w =
    answer_idle s before history queue v (notes.TableFull v.client n) (number_answer room s held v.client history low) refl tt
    (lawful_note s held v.client history low from to n a ∙ note_full s before history v queue n (early_is s before history v queue n w ∙ f) t w) w

asked_line : (s : Settings) (held : List Held) (before history : History) (queue : List Wanted) (v : Visitor) (low from to n : ℕ) (answer : Asked) → IsNumber held low from to n
    → is_sent_later (open_of v.entry) n ≡ false → (not (is_some v.entry) && not v.has_place) ≡ false → answer ≡ asked_of queue v.client n → IsVisit s before history v queue
    → number_answer room s held v.client history low ≡ asked_note v.client n answer
asked_line s held before history queue v low from to n answer a f g e w =
    lawful_note s held v.client history low from to n a ∙ note_asked s before history v queue n (early_is s before history v queue n w ∙ f) g w ∙ ap (asked_note v.client n) (sym e)

-- the queue refuses
abbrev pub Refuses : Asked → Type 0
Refuses asks.Queued = ⊥
Refuses answer = Unit {0}

refusal_idle : (k n : ℕ) (answer : Asked) → Refuses answer → IsIdle (asked_note k n answer)
refusal_idle k n asks.Already r = tt
refusal_idle k n asks.ClientFull r = tt
refusal_idle k n asks.QueueFull r = tt
refusal_idle k n asks.Queued r = absurd r

refusal_of : (k n : ℕ) (answer : Asked) → IsOf k (asked_note k n answer)
refusal_of k n asks.Already = refl
refusal_of k n asks.ClientFull = refl
refusal_of k n asks.QueueFull = refl
refusal_of k n asks.Queued = refl

refusal_keeps : (answer : Asked) (ws : List Wanted) (k n : ℕ) → Refuses answer → queues.answered answer ws k n ≡ ws
refusal_keeps asks.Already ws k n r = refl
refusal_keeps asks.ClientFull ws k n r = refl
refusal_keeps asks.QueueFull ws k n r = refl
refusal_keeps asks.Queued ws k n r = absurd r

pub answer_refused : (s : Settings) (held : List Held) (before history : History) (queue later : List Wanted) (v : Visitor) (low from to n : ℕ) (answer same : Asked)
    → IsNumber held low from to n → is_sent_later (open_of v.entry) n ≡ false → (not (is_some v.entry) && not v.has_place) ≡ false → answer ≡ asked_of queue v.client n
    → later ≡ queues.answered answer queue v.client n → answer ≡ same → Refuses same → IsVisit s before history v queue
    → IsAnswered s before history later v (asked_note v.client n same) (number_answer room s held v.client history low)
answer_refused s held before history queue later v low from to n answer same a f g e kept is r w =
    let stays : later ≡ queue = kept ∙ ap (λ (x : Asked). queues.answered x queue v.client n) is ∙ refusal_keeps same queue v.client n r in
    subst (λ (ws : List Wanted). IsAnswered s before history ws v (asked_note v.client n same) (number_answer room s held v.client history low)) (sym stays)
    (answer_idle s before history queue v (asked_note v.client n same) (number_answer room s held v.client history low) (refusal_of v.client n same) (refusal_idle v.client n same r)
    (asked_line s held before history queue v low from to n answer a f g e w ∙ ap (asked_note v.client n) is) w)

pub answer_queued : (s : Settings) (held : List Held) (sender : ℕ) (before history : History) (queue later : List Wanted) (v new : Visitor) (low from to n : ℕ) (answer : Asked) (channel : Channel)
    → IsNumber held low from to n → is_sent_later (open_of v.entry) n ≡ false → (not (is_some v.entry) && not v.has_place) ≡ false
    → answer ≡ asked_of queue v.client n → later ≡ queues.answered answer queue v.client n → answer ≡ asks.Queued → channel ≡ s.channel → s.channel.seq0 ≤ 65535
    → new ≡ record v { entry = Some (entry_under v.entry sender channel.seq0) } → newest_sender history ≡ Some sender → IsVisit s before history v queue
    → IsAnswered s before history later new (notes.Queued v.client n) (number_answer room s held v.client history low)
answer_queued s held sender before history queue later v new low from to n answer channel a f g e kept is ce le known from' w =
    let more : later ≡ queue ++ wanted v.client n ∷ [] = kept ∙ ap (λ (x : Asked). queues.answered x queue v.client n) is in
    let known' : new ≡ record v { entry = Some (entry_under v.entry sender s.channel.seq0) } = known ∙ ap (λ (c : Channel). record v { entry = Some (entry_under v.entry sender c.seq0) }) ce in
    answered_by s before history later new (notes.Queued v.client n) (number_answer room s held v.client history low) (notes.Queued v.client n) refl
    (asked_line s held before history queue v low from to n answer a f g e w ∙ ap (asked_note v.client n) is)
    (subst (λ (ws : List Wanted). IsVisit s before (noted (notes.Queued v.client n) None ∷ history) new ws) (sym more)
    (subst (λ (x : Visitor). IsVisit s before (noted (notes.Queued v.client n) None ∷ history) x (queue ++ wanted v.client n ∷ [])) (sym known')
    (queued s n sender before history v queue le from' w)))
