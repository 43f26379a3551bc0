-- A client with an open burst is known: it wasn't forgotten, since it isn't idle, and a BYE of it ends its burst at once.
use Rattle.std.proofs.Common.{◌≡◌, ℕ, ◌≤◌, Bool, true, false, cond, not, ◌&&◌, ◌||◌, ⊎_elim, List, [], ◌∷◌, ◌++◌, Option, None, refl, ap, sym, ◌∙◌, subst, arith, eqb}
use Rattle.std.specs.Prelude.{is_some, IsTrue}
use Rattle.std.specs.List.{list_any}
use Rattle.std.proofs.lemmas.Bool.{both_ways, or_cases, or_left, or_right, and_parts, and_from, not-true, eqb-true, eq-eqb, true≢false}
use Rattle.rams_model.specs.declared.{Event.Event, Held.Held, Note.Note}
use Rattle.rams_model.specs.declared.Cause.TheVariants as cause
use Rattle.rams_model.specs.declared.Note.TheVariants as note
use Rattle.rams_model.specs.Service.{Settings, Message, Heard, feedback, tick, heard_of, Item, began, told, noted, History, known, is_among, bursts, has_open, pending, idle, quiet_ticks, after_message, after_tick, history_of}
use Rattle.rams_model.specs.Laws.{NoneIs, is_accept_of, is_end_of, ends_known, makes_known}
use Rattle.rams_model.proofs.Induction.{onwards, is_alone, whole_answer, is_at_once, between}
use Rattle.rams_model.proofs.Items.{is_of_tick, tick_puts}
use Rattle.rams_model.proofs.LastAccept.{open_step}
use Rattle.rams_model.proofs.Legal.{Allows, IsLegal}
use Rattle.rams_model.proofs.Since.{stands, known_stands}
use Rattle.service_laws.specs.book_laws.{IsMoment, LastAccept}

-- the client was accepted, and neither left nor was forgotten since
abbrev stays_known : ℕ → History → Bool
stays_known k history = stands (is_accept_of k) (ends_known k) history

-- so it was at each packet of a burst that it was sent
abbrev SentWhileKnown : ℕ → History → Type 0
SentWhileKnown k [] = Unit {0}
SentWhileKnown k (noted (note.Burst client n number) packet ∷ history) = (eqb client k ≡ true → stays_known k history ≡ true) × SentWhileKnown k history
SentWhileKnown k (_ ∷ history) = SentWhileKnown k history

record IsKept (s : Settings) (k : ℕ) (history : History) : Type 0 where
  opened : has_open s k history ≡ true → stays_known k history ≡ true
  sent : SentWhileKnown k history

-- ---- one item

not_so : (b : Bool) → (b ≡ true → ⊥) → not b ≡ true
not_so true f = absurd (f refl)
not_so false f = refl

one_more : (s : Settings) (k : ℕ) (i : Item) (history : History) → (ends_known k i ≡ true → has_open s k history ≡ true → ⊥)
    → (has_open s k history ≡ true → stays_known k history ≡ true) → has_open s k (i ∷ history) ≡ true → stays_known k (i ∷ history) ≡ true
unfolding stands
one_more s k i history never p o =
    ⊎_elim (λ m. or_left (is_accept_of k i) (not (ends_known k i) && stays_known k history) m)
    (λ more.
    let both = and_parts (not (is_end_of k i)) (has_open s k history) more in
    or_right (is_accept_of k i) (not (ends_known k i) && stays_known k history)
    (and_from (not (ends_known k i)) (stays_known k history) (not_so (ends_known k i) (λ e. never e both.1)) (p both.1)))
    (or_cases (is_accept_of k i) (not (is_end_of k i) && has_open s k history) (sym (open_step s k i history) ∙ o))

-- an item that sends nothing of a burst, and leaves nobody unknown
plain_item : (s : Settings) (k : ℕ) (i : Item) (history : History) → (ends_known k i ≡ true → ⊥) → (SentWhileKnown k history → SentWhileKnown k (i ∷ history)) → IsKept s k history
    → IsKept s k (i ∷ history)
plain_item s k i history never same r = record { opened = one_more s k i history (λ e o. never e) r.opened; sent = same r.sent }

none : false ≡ true → ⊥
none e = true≢false (sym e)

event_kept : (s : Settings) (k : ℕ) (heard : Heard) (history : History) → IsKept s k history → IsKept s k (began heard ∷ history)
event_kept s k heard history r = plain_item s k (began heard) history none (λ p. p) r

told_kept : (s : Settings) (k client : ℕ) (m : Message) (history : History) → IsKept s k history → IsKept s k (told client m ∷ history)
told_kept s k client m history r = plain_item s k (told client m) history none (λ p. p) r

at_once_kept : (s : Settings) (k : ℕ) (n : Note) (history : History) → is_at_once n ≡ true → IsKept s k history → IsKept s k (noted n None ∷ history)
at_once_kept s k (note.Live n) history e r = plain_item s k (noted (note.Live n) None) history none (λ p. p) r
at_once_kept s k (note.BadFeedback client fault) history e r = plain_item s k (noted (note.BadFeedback client fault) None) history none (λ p. p) r
at_once_kept s k n history e r = absurd (none e)

-- ---- in a tick

burst_kept : (s : Settings) (k client n number : ℕ) (packet : Option Held) (history : History) → has_open s client history ≡ true → IsKept s k history
    → IsKept s k (noted (note.Burst client n number) packet ∷ history)
burst_kept s k client n number packet history has r = record {
  opened = one_more s k (noted (note.Burst client n number) packet) history (λ e o. none e) r.opened;
  sent = (λ t. r.opened (subst (λ (j : ℕ). has_open s j history ≡ true) (eqb-true client k t) has), r.sent);
}

-- who has an open burst isn't idle
not_idle : (s : Settings) (k : ℕ) (history : History) → has_open s k history ≡ true → idle s k history ≡ 0
not_idle s k history o =
    ap (λ (b : Bool). cond b 0 (quiet_ticks s k history)) (or_left (has_open s k history) (list_any (λ w. eqb w.client k) (pending history)) o)

forgot_kept : (s : Settings) (k client : ℕ) (packet : Option Held) (history : History) → 1 ≤ s.channel.idle → idle s client history ≡ s.channel.idle → IsKept s k history
    → IsKept s k (noted (note.Forgot client) packet ∷ history)
forgot_kept s k client packet history least is r = record {
  opened =
      one_more s k (noted (note.Forgot client) packet) history
      (λ e o. let busy = not_idle s client history (subst (λ (j : ℕ). has_open s j history ≡ true) (sym (eqb-true client k e)) o) in omega (arith, least, is, busy)) r.opened;
  sent = r.sent;
}

tick_kept : (s : Settings) (k : ℕ) → 1 ≤ s.channel.idle → (n : Note) (packet : Option Held) (history : History) → is_of_tick n ≡ true → Allows s history n packet → IsLegal s history
    → IsKept s k history → IsKept s k (noted n packet ∷ history)
tick_kept s k least (note.Burst client n number) packet history e a l r = burst_kept s k client n number packet history (ap is_some a.opened.is_open) r
tick_kept s k least (note.Forgot client) packet history e a l r = forgot_kept s k client packet history least a.is_idle r
tick_kept s k least (note.End client why) packet history e a l r = plain_item s k (noted (note.End client why) packet) history none (λ p. p) r
tick_kept s k least (note.Repair client n number) packet history e a l r = plain_item s k (noted (note.Repair client n number) packet) history none (λ p. p) r
tick_kept s k least (note.Gone client n) packet history e a l r = plain_item s k (noted (note.Gone client n) packet) history none (λ p. p) r
tick_kept s k least n packet history e a l r = absurd (none e)

-- ---- in an answer

alone_kept : (s : Settings) (k : ℕ) (n : Note) (packet : Option Held) (history : History) → is_alone n ≡ true → IsKept s k history → IsKept s k (noted n packet ∷ history)
alone_kept s k (note.Bye other) packet history alone r = absurd (none alone)
alone_kept s k (note.Forgot other) packet history alone r = absurd (none alone)
alone_kept s k (note.Burst other n number) packet history alone r = absurd (none alone)
alone_kept s k n packet history alone r = plain_item s k (noted n packet) history none (λ p. p) r

set_kept : (s : Settings) (k client n : ℕ) (history : History) → IsKept s k history → IsKept s k (noted (note.StopAt client n) None ∷ history)
set_kept s k client n history r = plain_item s k (noted (note.StopAt client n) None) history none (λ p. p) r

stopped_kept : (s : Settings) (k client n : ℕ) (history : History) → IsKept s k history → IsKept s k (noted (note.End client cause.Stopped) None ∷ noted (note.StopAt client n) None ∷ history)
stopped_kept s k client n history r =
    plain_item s k (noted (note.End client cause.Stopped) None) (noted (note.StopAt client n) None ∷ history) none (λ p. p) (set_kept s k client n history r)

-- a BYE ends the burst, where one is open
left_kept : (s : Settings) (k client : ℕ) (history : History) → has_open s client history ≡ false → IsKept s k history → IsKept s k (noted (note.Bye client) None ∷ history)
left_kept s k client history shut r = record {
  opened =
      one_more s k (noted (note.Bye client) None) history
      (λ e o. both_ways (has_open s client history) shut (subst (λ (j : ℕ). has_open s j history ≡ true) (sym (eqb-true client k e)) o)) r.opened;
  sent = r.sent;
}

closed_kept : (s : Settings) (k client : ℕ) (history : History) → IsKept s k history → IsKept s k (noted (note.End client cause.Bye) None ∷ noted (note.Bye client) None ∷ history)
closed_kept s k client history r = record {
  opened = λ o.
      let after : History = noted (note.Bye client) None ∷ history in
      let mine = and_parts (not (eqb client k)) (has_open s k after) (sym (open_step s k (noted (note.End client cause.Bye) None) after) ∙ o) in
      one_more s k (noted (note.End client cause.Bye) None) after (λ e q. none e)
      (one_more s k (noted (note.Bye client) None) history (λ e q. both_ways (eqb client k) (not-true (eqb client k) mine.0) e) r.opened) o;
  sent = r.sent;
}

message_kept : (s : Settings) (k client : ℕ) (m : Message) (history : History) → IsLegal s (after_message s client m (told client m ∷ history)) → IsKept s k history
    → IsKept s k (after_message s client m (told client m ∷ history))
message_kept s k client m history l r =
    whole_answer s (IsKept s k) client (λ n packet h alone a q. alone_kept s k n packet h alone q) (λ b n h is lt q. set_kept s k client n h q) (stopped_kept s k client) (left_kept s k client)
    (closed_kept s k client) m history l (told_kept s k client m history r)

-- ---- every history

none_open : (s : Settings) (k : ℕ) → has_open s k [] ≡ false
unfolding bursts
none_open s k = refl

kept_always : (s : Settings) (k : ℕ) → 1 ≤ s.channel.idle → (events : List Event) → IsKept s k (history_of s events)
kept_always s k least events =
    between s (IsKept s k) (λ event before n other at_once r. at_once_kept s k n (began (heard_of s.channel event) ∷ history_of s before) at_once (event_kept s k (heard_of s.channel event) (history_of s before) r))
    (λ client ms history r. event_kept s k (feedback client ms) history r) (λ client m history l r. message_kept s k client m history l r)
    (λ before l r.
    let start : History = began tick ∷ history_of s before in
    onwards is_of_tick s (IsKept s k) (tick_kept s k least) start (after_tick s start) (tick_puts s start) l (event_kept s k tick (history_of s before) r))
    (record { opened = λ o. absurd (both_ways (has_open s k []) (none_open s k) o); sent = tt }) events

-- whom an Accept made known, and nobody since unknown, is known
known_since : (k : ℕ) (history : History) → stays_known k history ≡ true → stands (makes_known k) (ends_known k) history ≡ true
unfolding stands
known_since k [] e = absurd (none e)
known_since k (i ∷ history) e =
    ⊎_elim (λ m. or_left (makes_known k i) (not (ends_known k i) && stands (makes_known k) (ends_known k) history) (accept_makes i m))
    (λ more.
    let both = and_parts (not (ends_known k i)) (stays_known k history) more in
    or_right (makes_known k i) (not (ends_known k i) && stands (makes_known k) (ends_known k) history)
    (and_from (not (ends_known k i)) (stands (makes_known k) (ends_known k) history) both.0 (known_since k history both.1)))
    (or_cases (is_accept_of k i) (not (ends_known k i) && stays_known k history) e)
  where
    accept_makes : (i : Item) → is_accept_of k i ≡ true → makes_known k i ≡ true
    accept_makes (noted (note.Accept client first rate join) packet) m = m
    accept_makes (noted n packet) m = absurd (none m)
    accept_makes (began heard) m = absurd (none m)
    accept_makes (told client message) m = absurd (none m)

pub open_known : (s : Settings) (events : List Event) (k : ℕ) → 1 ≤ s.channel.idle → IsTrue (has_open s k (history_of s events)) → IsTrue (is_among k (known (history_of s events)))
open_known s events k least o =
    known_stands k (history_of s events) ∙ known_since k (history_of s events) ((kept_always s k least events).opened o)

-- ---- each packet of a burst

sent_part : (k : ℕ) (later history : History) → SentWhileKnown k (later ++ history) → SentWhileKnown k history
sent_part k [] history p = p
sent_part k (began heard ∷ later) history p = sent_part k later history p
sent_part k (told client message ∷ later) history p = sent_part k later history p
sent_part k (noted (note.Burst client n number) packet ∷ later) history p = sent_part k later history p.1
sent_part k (noted n packet ∷ later) history p = sent_part k later history p

-- nobody became unknown since the last Accept
none_since : (k : ℕ) (since : History) (i : Item) (before : History) → NoneIs (is_accept_of k) since → stays_known k (since ++ i ∷ before) ≡ true → NoneIs (ends_known k) since
unfolding stands
none_since k [] i before last e = tt
none_since k (j ∷ since) i before last e =
    let more = ap (λ (b : Bool). b || (not (ends_known k j) && stays_known k (since ++ i ∷ before))) (sym last.0) ∙ e in
    let both = and_parts (not (ends_known k j)) (stays_known k (since ++ i ∷ before)) more in
    (not-true (ends_known k j) both.0, none_since k since i before last.1 both.1)

pub stayed_known : (s : Settings) (k n number : ℕ) (packet : Option Held) (before : History) → 1 ≤ s.channel.idle → IsMoment s (noted (note.Burst k n number) packet ∷ before)
    → (a : LastAccept before k) → NoneIs (ends_known k) a.since
stayed_known s k n number packet before least m a =
    let all = subst (SentWhileKnown k) m.splits (kept_always s k least m.events).sent in
    let known = (sent_part k m.later (noted (note.Burst k n number) packet ∷ before) all).0 (eq-eqb k k refl) in
    none_since k a.since (noted (note.Accept k a.first a.rate a.join) a.packet) a.before a.last (subst (λ (h : History). stays_known k h ≡ true) a.splits known)
