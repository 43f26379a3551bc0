-- Between two events only known clients have an open burst.
use Rattle.std.proofs.Common.{◌≡◌, ℕ, ◌<◌, ◌≤◌, Bool, true, false, not, ◌&&◌, ⊎_elim, List, ◌∷◌, Option, Some, None, refl, ap, sym, ◌∙◌, subst, eqb}
use Rattle.std.specs.Prelude.{filter, is_some}
use Rattle.std.proofs.lemmas.Bool.{cases_Bool, or_cases, and_parts, not-true, both_ways, eqb-true, true≢false}
use Rattle.std.proofs.lemmas.Map.Views.{any-filter_same}
use Rattle.rams_model.specs.declared.{Event.Event, Held.Held, Note.Note}
use Rattle.rams_model.specs.declared.Cause.TheVariants as cause
use Rattle.rams_model.specs.declared.Note.TheVariants as note
use Rattle.rams_model.specs.Service.{Settings, Message, Heard, tick, heard_of, Item, began, told, noted, History, known, opened, is_among, Burst, next, bursts, open_burst, has_open, after_message, after_tick, history_of}
use Rattle.rams_model.specs.Laws.{makes_known, ends_known, is_accept_of, is_end_of}
use Rattle.rams_model.proofs.Legal.{is_tick, Allows, IsLegal}
use Rattle.rams_model.proofs.Items.{is_of_tick, tick_puts}
use Rattle.rams_model.proofs.Induction.{onwards, is_alone, whole_answer, is_at_once, between}
use Rattle.rams_model.proofs.LastAccept.{open_step, opened_open}
use Rattle.channel_parts.proofs.Ordered.{rise_passed, known_rise, opened_rise, same_rise}
use Rattle.channel_parts.proofs.Knowing.{still_known, made_known, forgotten_rests}

-- each client with an open burst is known
abbrev pub AreKnown : Settings → History → Type 0
AreKnown s history = (k : ℕ) → has_open s k history ≡ true → is_among k (known history) ≡ true

accept_makes : (k : ℕ) (i : Item) → is_accept_of k i ≡ true → makes_known k i ≡ true
accept_makes k (noted (note.Accept client first rate join) packet) e = e
accept_makes k i e = absurd cc

-- an item with which no client goes that has an open burst
kept : (s : Settings) (i : Item) (history : History) → ((k : ℕ) → ends_known k i ≡ true → has_open s k history ≡ true → ⊥) → AreKnown s history → AreKnown s (i ∷ history)
kept s i history stays are k e =
    ⊎_elim (λ a. made_known k i history (accept_makes k i a))
    (λ b. let was = and_parts (not (is_end_of k i)) (has_open s k history) b in
    ⊎_elim (λ t. absurd (stays k t was.1)) (λ f. still_known k i history f (are k was.1)) (cases_Bool (ends_known k i)))
    (or_cases (is_accept_of k i) (not (is_end_of k i) && has_open s k history) (sym (open_step s k i history) ∙ e))

-- a note that is no Bye lets no client go that has an open burst
stays : (s : Settings) (history : History) (n : Note) (packet : Option Held) → 1 ≤ s.channel.idle → Allows s history n packet → ((client : ℕ) → n ≡ note.Bye client → ⊥)
    → (k : ℕ) → ends_known k (noted n packet) ≡ true → has_open s k history ≡ true → ⊥
stays s history (note.Bye client) packet some a free k e o = free client refl
stays s history (note.Forgot client) packet some a free k e o =
    let rests = forgotten_rests s client history some a in
    both_ways (has_open s k history) (subst (λ (j : ℕ). has_open s j history ≡ false) (eqb-true client k e) rests.0) o
stays s history n packet some a free k e o = absurd cc

-- a client that leaves has no open burst then
left : (s : Settings) (k : ℕ) (history : History) → AreKnown s history → has_open s k history ≡ false → AreKnown s (noted (note.Bye k) None ∷ history)
left s k history are none =
    kept s (noted (note.Bye k) None) history (λ j e o. both_ways (has_open s j history) (subst (λ (i : ℕ). has_open s i history ≡ false) (eqb-true k j e) none) o) are

ended : (s : Settings) (k : ℕ) (history : History) → AreKnown s history → AreKnown s (noted (note.End k cause.Bye) None ∷ noted (note.Bye k) None ∷ history)
unfolding bursts
ended s k history are j e =
    let parts = and_parts (not (eqb k j)) (has_open s j history) (sym (open_step s j (noted (note.End k cause.Bye) None) (noted (note.Bye k) None ∷ history)) ∙ e) in
    still_known j (noted (note.End k cause.Bye) None) (noted (note.Bye k) None ∷ history) refl
    (still_known j (noted (note.Bye k) None) history (not-true (eqb k j) parts.0) (are j parts.1))

pub message_kept : (s : Settings) (k : ℕ) (m : Message) (history : History) → 1 ≤ s.channel.idle → IsLegal s (after_message s k m (told k m ∷ history)) → AreKnown s history
    → AreKnown s (after_message s k m (told k m ∷ history))
unfolding bursts known
message_kept s k m history some l are =
    whole_answer s (AreKnown s) k
    (λ n packet before alone a known'. kept s (noted n packet) before (stays s before n packet some a (λ client bye. true≢false (sym alone ∙ ap (λ (x : Note). is_alone x) bye))) known') set
    (λ n before known'. kept s (noted (note.End k cause.Stopped) None) (noted (note.StopAt k n) None ∷ before) (λ j e o. absurd cc) (kept s (noted (note.StopAt k n) None) before (λ j e o. absurd cc) known'))
    (λ before none known'. left s k before known' none) (ended s k) m history l are
  where
    set : (b : Burst) (n : ℕ) (before : History) → open_burst s k before ≡ Some b → next b < n → AreKnown s before → AreKnown s (noted (note.StopAt k n) None ∷ before)
    set b n before is lt known' = kept s (noted (note.StopAt k n) None) before (λ j e o. absurd cc) known'

tick_kept : (s : Settings) (history : History) → 1 ≤ s.channel.idle → IsLegal s (after_tick s (began tick ∷ history)) → AreKnown s (began tick ∷ history)
    → AreKnown s (after_tick s (began tick ∷ history))
tick_kept s history some l are =
    let start = began tick ∷ history in
    onwards is_of_tick s (AreKnown s)
    (λ n packet before is a legal known'. kept s (noted n packet) before
    (stays s before n packet some a (λ client bye. true≢false (sym is ∙ ap (λ (x : Note). is_of_tick x) bye))) known')
    start (after_tick s start) (tick_puts s start) l are

tick_begun : (s : Settings) (history : History) → AreKnown s history → AreKnown s (began tick ∷ history)
tick_begun s history are = kept s (began tick) history (λ k e o. absurd cc) are

begun_kept : (s : Settings) (heard : Heard) (history : History) → is_tick heard ≡ false → AreKnown s history → AreKnown s (began heard ∷ history)
unfolding bursts known
begun_kept s tick history other are = absurd (true≢false other)
begun_kept s heard history other are = are

once_kept : (s : Settings) (n : Note) (history : History) → is_at_once n ≡ true → AreKnown s history → AreKnown s (noted n None ∷ history)
unfolding bursts known
once_kept s (note.Live n) history is are = are
once_kept s (note.BadFeedback client fault) history is are = are
once_kept s n history is are = absurd (true≢false (sym is))

pub open_known : (s : Settings) (events : List Event) → 1 ≤ s.channel.idle → AreKnown s (history_of s events)
unfolding bursts known
open_known s events some =
    between s (AreKnown s)
    (λ event before n other is are. let heard = heard_of s.channel event in
    once_kept s n (began heard ∷ history_of s before) is (begun_kept s heard (history_of s before) other are))
    (λ client ms history are. are) (λ client m history l are. message_kept s client m history some l are)
    (λ before l are. tick_kept s (history_of s before) some l (tick_begun s (history_of s before) are)) (λ k e. absurd cc) events

pub none_of : {A : Type 0} (o : Option A) → is_some o ≡ false → o ≡ None
none_of None e = refl
none_of (Some x) e = absurd cc

pub unknown_closed_by : (s : Settings) (history : History) (k : ℕ) → AreKnown s history → is_among k (known history) ≡ false → open_burst s k history ≡ None
unknown_closed_by s history k are out =
    ⊎_elim (λ t. absurd (both_ways (is_among k (known history)) out (are k t))) (λ f. none_of (open_burst s k history) f) (cases_Bool (has_open s k history))

pub unknown_closed : (s : Settings) (events : List Event) (k : ℕ) → 1 ≤ s.channel.idle → is_among k (known (history_of s events)) ≡ false → open_burst s k (history_of s events) ≡ None
unknown_closed s events k some out = unknown_closed_by s (history_of s events) k (open_known s events some) out

absorbs : (a b : Bool) → (a ≡ true → b ≡ true) → a ≡ (a && b)
absorbs true b f = sym (f refl)
absorbs false b f = refl

pub opened_filter : (s : Settings) (events : List Event) → 1 ≤ s.channel.idle → opened (history_of s events) ≡ filter (λ k. has_open s k (history_of s events)) (known (history_of s events))
opened_filter s events some =
    let history = history_of s events in
    let test : ℕ → Bool = λ k. has_open s k history in
    same_rise (opened history) (filter test (known history)) (opened_rise history) (rise_passed test (known history) (known_rise history))
    (λ i. opened_open s i history ∙ absorbs (test i) (is_among i (known history)) (open_known s events some i)
    ∙ sym (any-filter_same (λ (j : ℕ). eqb j i) test (test i) (λ j t. ap test (eqb-true j i t)) (known history)))
