-- A burst that has sent nothing yet: its client is sent nothing else, so the number that its Accept named is the client's next one.
use Rattle.std.proofs.Common.{◌≡◌, ℕ, ◌+◌, ◌%◌, ◌<◌, ◌≤◌, ◌≢◌, true, false, ⊎_elim, List, [], ◌∷◌, ◌++◌, length, Option, Some, None, refl, ap, sym, ◌∙◌, subst, arith, eqb, ltb}
use Rattle.std.specs.Prelude.{Contains, not}
use Rattle.std.proofs.lemmas.Bool.{cond_both, both_ways, and_from, or_cases, cases_Bool, not_from_false, eqb-true, lt-ltb, true≢false}
use Rattle.std.proofs.lemmas.List.Elements.{Contains-append_right}
use Rattle.rams_model.specs.declared.{Event.Event, Held.Held, Note.Note}
use Rattle.rams_model.specs.declared.Cause.TheVariants as cause
use Rattle.rams_model.specs.declared.Note.TheVariants as note
use Rattle.rams_model.specs.Service.{Settings, Message, Heard, live, tick, heard_of, began, told, noted, History, arrivals, hold, known, opened, sendings, sequence, Burst, next, bursts, newest_open, open_burst, has_open, pending, is_before, after_message, is_lost, bursts_served, repairs_sent, idle_forgotten, after_tick, history_of}
use Rattle.rams_model.specs.Packets.{hi, has_number}
use Rattle.rams_model.proofs.OpenBurst.{open_sent, other_bursts, Holds, holds_of, Keeps, at_note, at_end_note, at_tick}
use Rattle.rams_model.proofs.Legal.{is_tick, is_of_runs, Sends, Allows, IsLegal}
use Rattle.rams_model.proofs.Turns.{none_open}
use Rattle.rams_model.proofs.Items.{is_repair, is_forgotten, all_served_put, all_repaired_put, all_forgotten_put}
use Rattle.rams_model.proofs.Granting.{accept_grants, update_grants, accepted_below}
use Rattle.service_laws.specs.book_laws.{IsMoment}
use Rattle.rams_model.proofs.Induction.{through, onwards, legal_before, is_alone, whole_answer, is_at_once, between}
use Rattle.service_laws.proofs.book_laws.HeldPackets.{AreSmall, small_held, hi_grows, all_small}
use Rattle.service_laws.proofs.book_laws.Members.{is_first}
use Rattle.service_laws.proofs.book_laws.NackTable.{before_stop}
use Rattle.service_laws.proofs.tick_laws.Runs.{IsOut, after_runs}

-- The burst has sent nothing; its first packet is below the end of what is held and before the stop, and this number was told to its client.
abbrev Fresh : ℕ → ℕ → Burst → Type 0
Fresh top number b = (b.first < top) × (is_before b.stop b.first ≡ true) × (b.last.first ≡ Some number)

-- between events
abbrev GoodBurst : ℕ → ℕ → Burst → Type 0
GoodBurst top number b = (1500 ≤ b.rate) × (b.sent ≡ [] → Fresh top number b)

abbrev Good : Settings → ℕ → History → Type 0
Good s k history = Holds (GoodBurst (hi (hold s history)) (sequence s k history)) (open_burst s k history)

-- What is sent to the client keeps this: the first sending of a burst has the number that the client was told, and no repair comes before it.
abbrev pub Numbered : Settings → ℕ → History → Type 0
Numbered s k [] = Unit {0}
Numbered s k (noted (note.Burst client n number) packet ∷ history) =
    ((b : Burst) → client ≡ k → open_burst s k history ≡ Some b → b.sent ≡ [] → b.last.first ≡ Some number) × Numbered s k history
Numbered s k (noted (note.Repair client n number) packet ∷ history) =
    ((b : Burst) → client ≡ k → open_burst s k history ≡ Some b → b.sent ≢ []) × Numbered s k history
Numbered s k (_ ∷ history) = Numbered s k history

abbrev Sound : Settings → ℕ → History → Type 0
Sound s k history = Good s k history × Numbered s k history

-- ---- the answers to messages

keeps_good : (s : Settings) (k : ℕ) (n : Note) (packet : Option Held) (history : History) → is_alone n ≡ true → Allows s history n packet
    → Keeps s k (GoodBurst (hi (hold s history)) (sequence s k history)) n packet history
keeps_good s k (note.Accept client first rate join) packet history alone a = record {
  begins = λ f r j is. let first_is : first ≡ f = cc in let rate_is : rate ≡ r = cc in
      let granted = (accept_grants s history client first rate join a).2 in
      let below = accepted_below s history client first rate join _ granted in
      (omega (arith, granted.fast, rate_is), λ none. (omega (arith, below, first_is), refl, refl));
  changes = λ b own is g. g;
}
keeps_good s k (note.Update client rate join) packet history alone a =
    record { begins = λ f r j is. absurd cc; changes = λ b own is g. let fast = (update_grants s history client rate join a).fast in (omega (arith, fast), g.1) }
keeps_good s k (note.StopAt client m) packet history alone a = absurd (true≢false (sym alone))
keeps_good s k (note.Burst client m q) packet history alone a = absurd (true≢false (sym alone))
keeps_good s k n packet history alone a = record { begins = λ f r j is. absurd cc; changes = λ b own is g. g }

alone_sound : (s : Settings) (k : ℕ) (n : Note) (packet : Option Held) (history : History) → is_alone n ≡ true → Allows s history n packet → Sound s k history → Sound s k (noted n packet ∷ history)
unfolding sendings arrivals
alone_sound s k (note.Burst client m q) packet history alone a w = absurd (true≢false (sym alone))
alone_sound s k (note.Repair client m q) packet history alone a w = absurd (true≢false (sym alone))
alone_sound s k (note.Bye client) packet history alone a w = absurd (true≢false (sym alone))
alone_sound s k (note.Forgot client) packet history alone a w = absurd (true≢false (sym alone))
alone_sound s k n packet history alone a w =
    (at_note s k (GoodBurst (hi (hold s history)) (sequence s k history)) n packet history (keeps_good s k n packet history alone a) w.0, w.1)

-- a stop stands above the next packet
some_is : (b d : Burst) → Some b ≡ Some d → b ≡ d
some_is b d e = cc

set_sound : (s : Settings) (k c : ℕ) (b : Burst) (n : ℕ) (history : History) → open_burst s c history ≡ Some b → next b < n → Sound s k history
    → Sound s k (noted (note.StopAt c n) None ∷ history)
unfolding sendings arrivals
set_sound s k c b n history e lt w = (
  at_note s k (GoodBurst (hi (hold s history)) (sequence s k history)) (note.StopAt c n) None history
      (record {
        begins = λ first rate join is. absurd cc;
        changes = λ d own o g.
            let here : open_burst s k history ≡ Some b = subst (λ (j : ℕ). open_burst s j history ≡ Some b) (eqb-true c k own) e in
            let first : b.first ≡ d.first = ap (λ (x : Burst). x.first) (some_is b d (sym here ∙ o)) in
            (g.0, λ none. let fresh = g.1 none in (fresh.0, lt-ltb d.first n (omega (arith, first, lt)), fresh.2));
      })
      w.0,
  w.1,
)

stopped_sound : (s : Settings) (k c n : ℕ) (history : History) → Sound s k history → Sound s k (noted (note.End c cause.Stopped) None ∷ noted (note.StopAt c n) None ∷ history)
unfolding sendings arrivals
stopped_sound s k c n history w =
    let set = noted (note.StopAt c n) None ∷ history in (
      at_end_note s k c cause.Stopped (GoodBurst (hi (hold s history)) (sequence s k history)) None set
          (λ f. subst (λ (bs : List Burst). Holds (GoodBurst (hi (hold s history)) (sequence s k history)) (newest_open bs)) (sym (other_bursts s k (note.StopAt c n) None history f)) w.0),
      w.1,
    )

-- the numbers of a client that left begin anew, but it has no open burst then
gone_good : (s : Settings) (k c : ℕ) (history : History) → (eqb c k ≡ true → open_burst s k history ≡ None) → Good s k history → Good s k (noted (note.Bye c) None ∷ history)
unfolding bursts sendings arrivals
gone_good s k c history none g =
    cond_both (eqb c k) 0 (sendings k history) (λ n. Holds (GoodBurst (hi (hold s history)) ((s.channel.seq0 + n) % 65536)) (open_burst s k history))
    (λ t. subst (Holds _) (sym (none t)) tt) (λ f. g)

left_sound : (s : Settings) (k c : ℕ) (history : History) → has_open s c history ≡ false → Sound s k history → Sound s k (noted (note.Bye c) None ∷ history)
left_sound s k c history none w =
    (gone_good s k c history (λ t. none_open (open_burst s k history) (subst (λ (j : ℕ). has_open s j history ≡ false) (eqb-true c k t) none)) w.0, w.1)

closed_sound : (s : Settings) (k c : ℕ) (history : History) → Sound s k history → Sound s k (noted (note.End c cause.Bye) None ∷ noted (note.Bye c) None ∷ history)
unfolding sendings arrivals
closed_sound s k c history w =
    let left = noted (note.Bye c) None ∷ history in
    (at_end_note s k c cause.Bye (GoodBurst (hi (hold s left)) (sequence s k left)) None left (λ f. gone_good s k c history (λ t. absurd (both_ways (eqb c k) f t)) w.0), w.1)

message_sound : (s : Settings) (k c : ℕ) (m : Message) (history : History) → IsLegal s (after_message s c m (told c m ∷ history)) → Sound s k history
    → Sound s k (after_message s c m (told c m ∷ history))
unfolding bursts sendings arrivals
message_sound s k c m history l w =
    whole_answer s (Sound s k) c (alone_sound s k) (set_sound s k c) (stopped_sound s k c) (left_sound s k c) (closed_sound s k c) m history l w

-- ---- a tick

-- While the bursts are served: its budget has room for a packet.
abbrev ReadyBurst : ℕ → ℕ → Burst → Type 0
ReadyBurst top number b = (1500 ≤ b.rate) × (b.sent ≡ [] → Fresh top number b × (1500 ≤ b.left))

abbrev Ready : Settings → ℕ → ℕ → History → Type 0
Ready s top k history = Holds (ReadyBurst top (sequence s k history)) (open_burst s k history) × Numbered s k history

-- after it was served: it has sent something
abbrev ServedBurst : Burst → Type 0
ServedBurst b = (1500 ≤ b.rate) × (b.sent ≢ [])

abbrev Served : Settings → ℕ → History → Type 0
Served s k history = Holds ServedBurst (open_burst s k history) × Numbered s k history

ready_served : (top number : ℕ) (o : Option Burst) → Holds ServedBurst o → Holds (ReadyBurst top number) o
ready_served top number None w = tt
ready_served top number (Some b) w = (w.0, λ none. absurd (w.1 none))

good_served : (top number : ℕ) (o : Option Burst) → Holds ServedBurst o → Holds (GoodBurst top number) o
good_served top number None w = tt
good_served top number (Some b) w = (w.0, λ none. absurd (w.1 none))

-- what a burst is sent, it has sent
now_sent : (s : Settings) (k m number : ℕ) (packet : Option Held) (history : History) (a : Sends s history k m number packet) → 1500 ≤ a.opened.burst.rate
    → Holds ServedBurst (open_burst s k (noted (note.Burst k m number) packet ∷ history))
now_sent s k m number packet history a le =
    subst (λ (p : Option Held). Holds ServedBurst (open_burst s k (noted (note.Burst k m number) p ∷ history))) (sym a.packet_is)
    (subst (Holds ServedBurst) (sym (open_sent s k m number a.h history a.opened.burst a.opened.is_open)) (le, λ none. cc))

run_ready : (s : Settings) (top k : ℕ) (n : Note) (packet : Option Held) (history : History) → is_of_runs n ≡ true → Allows s history n packet → Ready s top k history
    → Ready s top k (noted n packet ∷ history)
unfolding sendings
run_ready s top k (note.Burst client m number) packet history is a w = (
  cond_both (eqb client k) (sendings k history + 1) (sendings k history)
      (λ c. Holds (ReadyBurst top ((s.channel.seq0 + c) % 65536)) (open_burst s k (noted (note.Burst client m number) packet ∷ history)))
      (λ t. let same = eqb-true client k t in
      let here = subst (λ (j : ℕ). open_burst s j history ≡ Some a.opened.burst) same a.opened.is_open in
      let rate = (holds_of (ReadyBurst top (sequence s k history)) (open_burst s k history) a.opened.burst w.0 here).0 in
      ready_served top _ (open_burst s k (noted (note.Burst client m number) packet ∷ history))
      (subst (λ (j : ℕ). Holds ServedBurst (open_burst s j (noted (note.Burst client m number) packet ∷ history))) same (now_sent s client m number packet history a rate)))
      (λ f. subst (λ (bs : List Burst). Holds (ReadyBurst top (sequence s k history)) (newest_open bs)) (sym (other_bursts s k (note.Burst client m number) packet history f)) w.0),
  (
    λ b own o none.
        let named = ((holds_of (ReadyBurst top (sequence s k history)) (open_burst s k history) b w.0 o).1 none).0.2 in
        named ∙ ap Some (sym (a.number_is ∙ ap (λ (j : ℕ). sequence s j history) own)),
    w.1,
  ),
)
run_ready s top k (note.End client why) packet history is a w = (at_end_note s k client why (ReadyBurst top (sequence s k history)) packet history (λ f. w.0), w.1)
run_ready s top k n packet history is a w = absurd (true≢false (sym is))

-- where a packet of this number is held
record Found (n : ℕ) (hs : List Held) : Type 0 where
  packet : Held
  among : Contains hs packet
  number : packet.n ≡ n
  small : packet.wire ≤ 1500

found : (n : ℕ) (hs : List Held) → AreSmall hs → has_number n hs ≡ true → Found n hs
found n [] small e = absurd (true≢false (sym e))
found n (h ∷ hs) small e =
    ⊎_elim (λ t. record { packet = h; among = is_first h hs; number = eqb-true h.n n t; small = small.0 })
    (λ l. let f = found n hs small.1 l in record { packet = f.packet; among = Contains-append_right (h ∷ []) hs f.packet f.among; number = f.number; small = f.small })
    (or_cases (eqb h.n n) (has_number n hs) e)

unlost : (n : ℕ) (held : List Held) → is_lost n held ≡ false → n < hi held → has_number n held ≡ true
unlost n held e lt =
    ⊎_elim (λ t. t) (λ f. absurd (both_ways (is_lost n held) e (and_from (not (has_number n held)) (ltb n (hi held)) (not_from_false (has_number n held) f) (lt-ltb n (hi held) lt))))
    (cases_Bool (has_number n held))

-- The first run of a burst sends at least its first packet: it would be held, before the stop, and fit.
has_begun : (held : List Held) (number : ℕ) (o : Option Burst) → AreSmall held → Holds (ReadyBurst (hi held) number) o → Holds (IsOut held) o → Holds ServedBurst o
has_begun held number None small r out = tt
has_begun held number (Some b) small r out = (
  r.0,
  λ none.
      let f = r.1 none in
      let none_sent : length b.sent ≡ 0 = ap (λ (l : List ℕ). length l) none in
      let first : b.first ≡ next b = omega (arith, none_sent) in
      let h = found (next b) held small (unlost (next b) held (out.unlost none) (omega (arith, f.0.0, first))) in
      let large = out.at_end h.packet h.among h.number (before_stop b.stop (next b) (subst (λ (n : ℕ). is_before b.stop n ≡ true) first f.0.1)) in
      omega (arith, large, h.small, f.1),
)

-- the repairs come after that, and change no burst's first sending
each_repair : (s : Settings) (k : ℕ) (n : Note) (packet : Option Held) (history : History) → is_repair n ≡ true → Served s k history → Served s k (noted n packet ∷ history)
unfolding bursts
each_repair s k (note.Repair client m q) packet history is w = (
  at_note s k ServedBurst (note.Repair client m q) packet history (record { begins = λ f r j is. absurd cc; changes = λ b own is g. (g.0, g.1) }) w.0,
  (λ b same e. (holds_of ServedBurst (open_burst s k history) b w.0 e).1, w.1),
)
each_repair s k (note.Gone client m) packet history is w = w
each_repair s k n packet history is w = absurd (true≢false (sym is))

each_forgotten : (s : Settings) (k : ℕ) (n : Note) (packet : Option Held) (history : History) → is_forgotten n ≡ true → Served s k history → Served s k (noted n packet ∷ history)
unfolding bursts
each_forgotten s k (note.Forgot client) packet history is w = w
each_forgotten s k n packet history is w = absurd (true≢false (sym is))

tick_sound : (s : Settings) (k : ℕ) (history : History) → AreSmall (hold s history) → IsLegal s (after_tick s (began tick ∷ history)) → Sound s k history
    → Sound s k (after_tick s (began tick ∷ history))
unfolding after_tick sendings arrivals
tick_sound s k history small l w =
    let start = began tick ∷ history in
    let top = hi (hold s history) in
    let number = sequence s k history in
    let served = bursts_served s start in
    let repairs = repairs_sent s served in
    let after = idle_forgotten s repairs in
    let sent = all_repaired_put s (hold s served) (pending served) served in
    let forgotten = all_forgotten_put s (known repairs) repairs in
    let ready = at_tick s k (GoodBurst top number) (ReadyBurst top number) history (λ b g. (g.0, λ none. (g.1 none, omega (arith, g.0)))) w.0 in
    let runs = onwards is_of_runs s (Ready s top k) (λ n packet h is a legal r. run_ready s top k n packet h is a r) start served (all_served_put s (hold s start) (opened start) start)
    (legal_before s is_repair served repairs sent (legal_before s is_forgotten repairs after forgotten l)) (ready, w.1) in
    let begun : Served s k served = (has_begun (hold s start) (sequence s k served) (open_burst s k served) small runs.0 (after_runs s k start), runs.1) in
    let done = through is_forgotten (Served s k) (each_forgotten s k) repairs after forgotten (through is_repair (Served s k) (each_repair s k) served repairs sent begun) in
    (good_served (hi (hold s after)) (sequence s k after) (open_burst s k after) done.0, done.1)

-- a live packet moves the end of what is held no further down
higher : (low top number : ℕ) (o : Option Burst) → low ≤ top → Holds (GoodBurst low number) o → Holds (GoodBurst top number) o
higher low top number None le g = tt
higher low top number (Some b) le g = (g.0, λ none. let f = g.1 none in (omega (arith, f.0, le), f.1, f.2))

begun_sound : (s : Settings) (k : ℕ) (heard : Heard) (history : History) → is_tick heard ≡ false → Sound s k history → Sound s k (began heard ∷ history)
unfolding bursts sendings arrivals
begun_sound s k tick history other w = absurd (true≢false other)
begun_sound s k (live a) history other w =
    (higher (hi (hold s history)) (hi (hold s (began (live a) ∷ history))) (sequence s k history) (open_burst s k history) (hi_grows s a history) w.0, w.1)
begun_sound s k heard history other w = w

once_sound : (s : Settings) (k : ℕ) (n : Note) (history : History) → is_at_once n ≡ true → Sound s k history → Sound s k (noted n None ∷ history)
unfolding bursts sendings arrivals
once_sound s k (note.Live n) history is w = w
once_sound s k (note.BadFeedback client fault) history is w = w
once_sound s k n history is w = absurd (true≢false (sym is))

sound_history : (s : Settings) (k : ℕ) (events : List Event) → Sound s k (history_of s events)
unfolding bursts sendings arrivals
sound_history s k events =
    between s (Sound s k)
    (λ event before n other is w. let heard = heard_of s.channel event in
    once_sound s k n (began heard ∷ history_of s before) is (begun_sound s k heard (history_of s before) other w))
    (λ client ms history w. w) (λ client m history l w. message_sound s k client m history l w)
    (λ before l w. tick_sound s k (history_of s before) (small_held s (history_of s before) (all_small s before)) l w) (tt, tt) events

pub numbered_part : (s : Settings) (k : ℕ) (later history : History) → Numbered s k (later ++ history) → Numbered s k history
numbered_part s k [] history n = n
numbered_part s k (began heard ∷ later) history n = numbered_part s k later history n
numbered_part s k (told client message ∷ later) history n = numbered_part s k later history n
numbered_part s k (noted (note.Burst client m number) packet ∷ later) history n = numbered_part s k later history n.1
numbered_part s k (noted (note.Repair client m number) packet ∷ later) history n = numbered_part s k later history n.1
numbered_part s k (noted note packet ∷ later) history n = numbered_part s k later history n

pub numbered_moment : (s : Settings) (k : ℕ) (history : History) → IsMoment s history → Numbered s k history
numbered_moment s k history m = numbered_part s k m.later history (subst (Numbered s k) m.splits (sound_history s k m.events).1)
