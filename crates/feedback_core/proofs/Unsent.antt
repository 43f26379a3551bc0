-- A client that isn't known has no SSRC, and was sent nothing since it last was known.
use Rattle.std.proofs.Common.{◌≡◌, ℕ, ◌+◌, ◌≤◌, Bool, true, false, cond, not, ◌&&◌, ⊎_elim, List, [], ◌∷◌, Option, Some, None, refl, ap, sym, ◌∙◌, subst, eqb}
use Rattle.std.specs.Prelude.{Contains, is_some}
use Rattle.std.proofs.lemmas.Bool.{cond-true, cond-false, cases_Bool, or_parts, or_cases, and_parts, both_ways, eqb-true, true≢false}
use Rattle.std.proofs.lemmas.List.Elements.{All-from_recursion, All-contains}
use Rattle.rams_model.specs.declared.{Event.Event, Held.Held, Note.Note}
use Rattle.rams_model.specs.declared.Note.TheVariants as note
use Rattle.rams_model.specs.Service.{Settings, Message, bye, Heard, tick, heard_of, Item, began, told, noted, History, known, is_among, sendings, ssrc, has_open, wanted, pending, after_message, after_tick, history_of}
use Rattle.rams_model.specs.Laws.{makes_known, ends_known, is_accept_of, is_end_of}
use Rattle.rams_model.proofs.Legal.{IsLegal, Allows, newest_told, in_tick}
use Rattle.rams_model.proofs.Legality.{in_tick_from_runs}
use Rattle.rams_model.proofs.Items.{is_note, is_of_tick, message_puts, tick_puts}
use Rattle.rams_model.proofs.Induction.{onwards, is_at_once, between}
use Rattle.rams_model.proofs.LastAccept.{open_step}
use Rattle.rams_model.proofs.Since.{known_step}
use Rattle.channel_parts.proofs.Knowing.{still_known, made_known, forgotten_rests, OfKnown, pending_known}
use Rattle.channel_parts.proofs.Opening.{AreKnown, open_known}

-- what is true of a client that isn't known
module _ (P : ℕ → History → Type 0) (k : ℕ) (history : History) where
  -- an item that makes the client known, or ends that
  pub still_unknown : (i : Item) → ends_known k i ≡ false → is_among k (known (i ∷ history)) ≡ false → (makes_known k i ≡ false) × (is_among k (known history) ≡ false)
  still_unknown i stays out =
      let parts = or_parts (makes_known k i) (not (ends_known k i) && is_among k (known history)) (sym (known_step k i history) ∙ out) in
      (parts.0, ap (λ (b : Bool). not b && is_among k (known history)) (sym stays) ∙ parts.1)

unnamed_end : (k client : ℕ) (i : Item) (history : History) → ends_known k i ≡ eqb client k → makes_known k i ≡ false → is_among k (known (i ∷ history)) ≡ false
    → (is_among k (known history) ≡ false → ssrc k history ≡ None) → cond (eqb client k) None (ssrc k history) ≡ None
unnamed_end k client i history ends makes out rest =
    ⊎_elim (λ t. cond-true (eqb client k) None (ssrc k history) t)
    (λ f. cond-false (eqb client k) None (ssrc k history) f ∙ rest (still_unknown (λ j h. Unit {0}) k history i (ends ∙ f) out).1) (cases_Bool (eqb client k))

pub unnamed : (k : ℕ) (history : History) → is_among k (known history) ≡ false → ssrc k history ≡ None
unfolding ssrc known
unnamed k [] out = refl
unnamed k (began heard ∷ history) out = unnamed k history out
unnamed k (told client message ∷ history) out = unnamed k history out
unnamed k (noted (note.Accept client first rate join) packet ∷ history) out =
    let rest = still_unknown (λ j h. Unit {0}) k history (noted (note.Accept client first rate join) packet) refl out in
    cond-false (eqb client k) _ _ rest.0 ∙ unnamed k history rest.1
unnamed k (noted (note.Queued client n) packet ∷ history) out =
    let rest = still_unknown (λ j h. Unit {0}) k history (noted (note.Queued client n) packet) refl out in
    cond-false (eqb client k) _ _ rest.0 ∙ unnamed k history rest.1
unnamed k (noted (note.Bye client) packet ∷ history) out = unnamed_end k client (noted (note.Bye client) packet) history refl refl out (unnamed k history)
unnamed k (noted (note.Forgot client) packet ∷ history) out = unnamed_end k client (noted (note.Forgot client) packet) history refl refl out (unnamed k history)
unnamed k (noted n packet ∷ history) out = unnamed k history out

-- each client that isn't known was sent nothing
abbrev AreUnsent : History → Type 0
AreUnsent history = (k : ℕ) → is_among k (known history) ≡ false → sendings k history ≡ 0

unsent_end : (k client : ℕ) (i : Item) (history : History) → ends_known k i ≡ eqb client k → is_among k (known (i ∷ history)) ≡ false → AreUnsent history
    → cond (eqb client k) 0 (sendings k history) ≡ 0
unsent_end k client i history ends out are =
    ⊎_elim (λ t. cond-true (eqb client k) 0 (sendings k history) t)
    (λ f. cond-false (eqb client k) 0 (sendings k history) f ∙ are k (still_unknown (λ j h. Unit {0}) k history i (ends ∙ f) out).1) (cases_Bool (eqb client k))

-- a packet is sent to a known client alone
unsent_sent : (k client : ℕ) (history : History) → is_among client (known history) ≡ true → is_among k (known history) ≡ false → AreUnsent history
    → cond (eqb client k) (sendings k history + 1) (sendings k history) ≡ 0
unsent_sent k client history is out are =
    ⊎_elim
    (λ t. absurd (both_ways (is_among k (known history)) out (subst (λ (j : ℕ). is_among j (known history) ≡ true) (eqb-true client k t) is)))
    (λ f. cond-false (eqb client k) (sendings k history + 1) (sendings k history) f ∙ are k out) (cases_Bool (eqb client k))

waits_known : (s : Settings) (k n : ℕ) (history : History) → 1 ≤ s.channel.idle → IsLegal s history → Contains (pending history) (wanted k n) → is_among k (known history) ≡ true
waits_known s k n history some l there =
    All-contains (OfKnown history) (pending history) (wanted k n) (All-from_recursion (OfKnown history) (pending history) (pending_known s history some l)) there

unsent_note : (s : Settings) (n : Note) (packet : Option Held) (history : History) → 1 ≤ s.channel.idle → IsLegal s history → Allows s history n packet
    → (in_tick history ≡ true → AreKnown s history) → AreUnsent history → AreUnsent (noted n packet ∷ history)
unfolding known sendings
unsent_note s (note.Burst client n number) packet history some l a are unsent k out =
    unsent_sent k client history (are (in_tick_from_runs history a.running) client (ap is_some a.opened.is_open)) out unsent
unsent_note s (note.Repair client n number) packet history some l a are unsent k out =
    unsent_sent k client history (waits_known s client n history some l a.waits) out unsent
unsent_note s (note.Bye client) packet history some l a are unsent k out = unsent_end k client (noted (note.Bye client) packet) history refl out unsent
unsent_note s (note.Forgot client) packet history some l a are unsent k out = unsent_end k client (noted (note.Forgot client) packet) history refl out unsent
unsent_note s (note.Accept client first rate join) packet history some l a are unsent k out =
    unsent k (still_unknown (λ j h. Unit {0}) k history (noted (note.Accept client first rate join) packet) refl out).1
unsent_note s (note.Queued client n) packet history some l a are unsent k out =
    unsent k (still_unknown (λ j h. Unit {0}) k history (noted (note.Queued client n) packet) refl out).1
unsent_note s n packet history some l a are unsent k out = unsent k out

-- in a tick no client that is sent to becomes unknown before it is forgotten
known_note : (s : Settings) (n : Note) (packet : Option Held) (history : History) → 1 ≤ s.channel.idle → Allows s history n packet → newest_told history ≡ None → AreKnown s history
    → AreKnown s (noted n packet ∷ history)
known_note s n packet history some a free are k e =
    ⊎_elim (λ m. made_known k (noted n packet) history (accept_makes n m))
    (λ b. let was = and_parts (not (is_end_of k (noted n packet))) (has_open s k history) b in
    ⊎_elim (λ t. absurd (stays n a t was.1)) (λ f. still_known k (noted n packet) history f (are k was.1)) (cases_Bool (ends_known k (noted n packet))))
    (or_cases (is_accept_of k (noted n packet)) (not (is_end_of k (noted n packet)) && has_open s k history) (sym (open_step s k (noted n packet) history) ∙ e))
  where
    accept_makes : (n : Note) → is_accept_of k (noted n packet) ≡ true → makes_known k (noted n packet) ≡ true
    accept_makes (note.Accept client first rate join) m = m
    accept_makes n m = absurd cc

    stays : (n : Note) → Allows s history n packet → ends_known k (noted n packet) ≡ true → has_open s k history ≡ true → ⊥
    stays (note.Bye client) a t o = let told' : Some (client, bye a.packet) ≡ None = sym a.is_answer ∙ free in absurd cc
    stays (note.Forgot client) a t o =
        both_ways (has_open s k history) (subst (λ (j : ℕ). has_open s j history ≡ false) (eqb-true client k t) (forgotten_rests s client history some a).0) o
    stays n a t o = absurd cc

record IsGoing (s : Settings) (history : History) : Type 0 where
  pub free : newest_told history ≡ None
  pub known : AreKnown s history
  pub unsent : AreUnsent history

going : (s : Settings) → 1 ≤ s.channel.idle → (n : Note) (packet : Option Held) (history : History) → Allows s history n packet → IsLegal s history → IsGoing s history
    → IsGoing s (noted n packet ∷ history)
going s some n packet history a l g = record {
  free = g.free;
  known = known_note s n packet history some a g.free g.known;
  unsent = unsent_note s n packet history some l a (λ t. g.known) g.unsent;
}

-- while a message is answered nothing is sent
message_unsent : (s : Settings) (k : ℕ) (m : Message) (history : History) → 1 ≤ s.channel.idle → IsLegal s (after_message s k m (told k m ∷ history)) → AreUnsent history
    → AreUnsent (after_message s k m (told k m ∷ history))
unfolding known sendings
message_unsent s k m history some l are =
    let asked = told k m ∷ history in
    (onwards is_note s (λ h. (in_tick h ≡ false) × AreUnsent h)
    (λ n packet h is a legal r. (r.0, unsent_note s n packet h some legal a (λ t. absurd (both_ways (in_tick h) r.0 t)) r.1))
    asked (after_message s k m asked) (message_puts s k m asked) l (refl, are)).1

tick_unsent : (s : Settings) (history : History) → 1 ≤ s.channel.idle → IsLegal s (after_tick s (began tick ∷ history)) → AreKnown s history → AreUnsent history
    → AreUnsent (after_tick s (began tick ∷ history))
unfolding known sendings
tick_unsent s history some l is are =
    let start = began tick ∷ history in
    (onwards is_of_tick s (IsGoing s) (λ n packet h of_tick a legal g. going s some n packet h a legal g) start (after_tick s start) (tick_puts s start) l
    (record { free = refl; known = begun_known s history is; unsent = are })).unsent
  where
    begun_known : (s : Settings) (history : History) → AreKnown s history → AreKnown s (began tick ∷ history)
    begun_known s history is k e =
        let b = and_parts (not (is_end_of k (began tick))) (has_open s k history) (sym (open_step s k (began tick) history) ∙ e) in is k b.1

begun_unsent : (s : Settings) (heard : Heard) (history : History) → AreUnsent history → AreUnsent (began heard ∷ history)
unfolding known sendings
begun_unsent s heard history are = are

once_unsent : (s : Settings) (n : Note) (history : History) → is_at_once n ≡ true → AreUnsent history → AreUnsent (noted n None ∷ history)
unfolding known sendings
once_unsent s (note.Live n) history is are = are
once_unsent s (note.BadFeedback client fault) history is are = are
once_unsent s n history is are = absurd (true≢false (sym is))

are_unsent : (s : Settings) (events : List Event) → 1 ≤ s.channel.idle → AreUnsent (history_of s events)
unfolding known sendings
are_unsent s events some =
    between s AreUnsent
    (λ event before n other is are. let heard = heard_of s.channel event in
    once_unsent s n (began heard ∷ history_of s before) is (begun_unsent s heard (history_of s before) are))
    (λ client ms history are. are) (λ client m history l are. message_unsent s client m history some l are)
    (λ before l are. tick_unsent s (history_of s before) some l (open_known s before some) are) (λ k out. refl) events

pub unsent : (s : Settings) (events : List Event) (k : ℕ) → 1 ≤ s.channel.idle → is_among k (known (history_of s events)) ≡ false → sendings k (history_of s events) ≡ 0
unsent s events k some out = are_unsent s events some k out
