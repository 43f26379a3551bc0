-- The answer to a number that a NACK names is the note of the first line of the table that applies.
use Rattle.std.proofs.Common.{◌≡◌, ℕ, ◌+◌, ◌%◌, ◌<◌, ◌≤◌, Bool, true, false, inl, inr, ⊎_elim, List, [], ◌∷◌, ◌++◌, length, Option, Some, None, refl, ap, sym, ◌∙◌, subst, arith, eqb, leb, append_assoc}
use Rattle.std.specs.Prelude.{find, IsSomeAnd, IfSome}
use Rattle.std.proofs.lemmas.Bool.{cond_both, both_ways, and_parts, and_from, eqb-true, eqb-false, eq-eqb, ltb-true, lt-ltb, leb-true, leb-false, le-leb, ne_eqb, cond-true, cond-false, true≢false}
use Rattle.rams_model.specs.declared.{Event.Event, Held.Held, Note.Note}
use Rattle.rams_model.specs.declared.Note.TheVariants.{Unheld, Early, Already, TableFull, ClientFull, QueueFull, Queued, ForeignNack}
use Rattle.rams_model.specs.Service.{Settings, nack, began, told, noted, History, arrivals, hold, Burst, next, open_burst, pending, pending_of, is_pending, is_full, is_before, is_early, room, held_answer, number_answer, after_numbers, after_nack, history_of}
use Rattle.rams_model.specs.Laws.{Rises, IsAmong}
use Rattle.service_laws.specs.book_laws.{AreNotes, items_of, IsFirst, Line, unheld, early, already, table_full, client_full, queue_full, queued, table, IsNamed, Names, WillSend, Applies, Gives, line_of, IsByTable, IsNumberAnswer, IsForeignNack, AreAnswers, IsNackAnswered}
use Rattle.rams_model.proofs.Legal as legal
use Rattle.rams_model.proofs.Legal.{Allows, IsForeign}
use Rattle.rams_model.proofs.Rising.{at_least}
use Rattle.rams_model.proofs.Granting.{held_rises}
use Rattle.service_laws.proofs.book_laws.FirstLines.{first_here, first_later}
use Rattle.service_laws.proofs.book_laws.Answering.{is_answered, are_whole}
use Rattle.service_laws.proofs.book_laws.RequestTable.{is_full_so, isn't_full_so}
use Rattle.service_laws.proofs.book_laws.RequestAnswers.{answered_by}

-- the first of these lines that applies gives the note
record ByLines (s : Settings) (k : ℕ) (history : History) (low : ℕ) (lines : List Line) (note : Note) : Type 0 where
  line : Line
  first : IsFirst (Applies s k history low) lines line
  gives : Gives s k history low line note

here : (s : Settings) (k : ℕ) (history : History) (low : ℕ) (line : Line) (lines : List Line) (note : Note) → Applies s k history low line
    → Gives s k history low line note → ByLines s k history low (line ∷ lines) note
here s k history low line lines note a g = record { line = line; first = first_here (Applies s k history low) line lines a; gives = g }

skip : (s : Settings) (k : ℕ) (history : History) (low : ℕ) (line : Line) (lines : List Line) (note : Note) → ¬ Applies s k history low line
    → ByLines s k history low lines note → ByLines s k history low (line ∷ lines) note
skip s k history low line lines note n b = record { line = b.line; first = first_later (Applies s k history low) line lines b.line n b.first; gives = b.gives }

-- what is found first, and that nothing is
none_found : (test : Held → Bool) (hs : List Held) (h : Held) → find test hs ≡ None → IsAmong h hs → test h ≡ true → ⊥
none_found test [] h e a t = a
none_found test (k ∷ ks) h e a t =
    cond_both (test k) (Some k) (find test ks) (λ (o : Option Held). o ≡ None → ⊥) (λ u o. cc)
    (λ u o. ⊎_elim (λ (same : k ≡ h). both_ways (test k) u (subst (λ (x : Held). test x ≡ true) (sym same) t)) (λ later. none_found test ks h o later t) a) e

record IsFound (test : Held → Bool) (hs : List Held) (h : Held) : Type 0 where
  among : IsAmong h hs
  passes : test h ≡ true
  least : (other : Held) → IsAmong other hs → test other ≡ true → h.n ≤ other.n

first_found : (test : Held → Bool) (n : ℕ) (hs : List Held) (h : Held) → Rises n hs → find test hs ≡ Some h → IsFound test hs h
first_found test n [] h r e = absurd cc
first_found test n (k ∷ ks) h r e =
    cond_both (test k) (Some k) (find test ks) (λ (o : Option Held). o ≡ Some h → IsFound test (k ∷ ks) h)
    (λ t o. let same : k ≡ h = cc in
    subst (IsFound test (k ∷ ks)) same (record {
      among = inl refl;
      passes = t;
      least = λ other a u.
          ⊎_elim (λ (is : k ≡ other). subst (λ (x : Held). k.n ≤ x.n) is (omega arith)) (λ later. let le = at_least (k.n + 1) other ks r.1 later in omega (arith, le)) a;
    }))
    (λ f o. let rest = first_found test (k.n + 1) ks h r.1 o in
    record {
      among = inr rest.among;
      passes = rest.passes;
      least = λ other a u.
          ⊎_elim (λ (is : k ≡ other). absurd (both_ways (test k) f (subst (λ (x : Held). test x ≡ true) (sym is) u))) (λ later. rest.least other later u) a;
    })
    e

-- the packet that has the low bits
named : (s : Settings) (history : History) (low : ℕ) (h : Held) → find (λ x. eqb (x.n % 65536) low) (hold s history) ≡ Some h → IsNamed (hold s history) low h.n
named s history low h e =
    let f = first_found (λ x. eqb (x.n % 65536) low) 0 (hold s history) h (held_rises s history) e in
    record {
      packet = h;
      among = f.among;
      number = refl;
      bits = eqb-true (h.n % 65536) low f.passes;
      least = λ other a is. f.least other a (eq-eqb (other.n % 65536) low is);
    }

-- a number is named by its low bits alone
one_named : (held : List Held) (low one other : ℕ) → IsNamed held low one → IsNamed held low other → one ≡ other
one_named held low one other i j =
    let up = i.least j.packet j.among (ap (λ (n : ℕ). n % 65536) j.number ∙ j.bits) in
    let down = j.least i.packet i.among (ap (λ (n : ℕ). n % 65536) i.number ∙ i.bits) in
    omega (arith, up, down, i.number, j.number)

not_named : (held : List Held) (low n : ℕ) (P : ℕ → Type 0) → IsNamed held low n → ¬ P n → ¬ Names held low P
not_named held low n P is no_one names = no_one (subst P (one_named held low names.0 n names.1 is) names.2)

-- what the burst will send
pub before_stop : (stop : Option ℕ) (n : ℕ) → is_before stop n ≡ true → IfSome stop (λ m. n < m)
before_stop None n e = tt
before_stop (Some m) n e = ltb-true n m e

pub is_before_stop : (stop : Option ℕ) (n : ℕ) → IfSome stop (λ m. n < m) → is_before stop n ≡ true
is_before_stop None n lt = refl
is_before_stop (Some m) n lt = lt-ltb n m lt

early_so : (o : Option Burst) (n : ℕ) → is_early o n ≡ true → IsSomeAnd o (WillSend n)
early_so None n e = absurd (true≢false (sym e))
early_so (Some b) n e = let tests = and_parts (leb (next b) n) (is_before b.stop n) e in (leb-true (next b) n tests.0, before_stop b.stop n tests.1)

not_early : (o : Option Burst) (n : ℕ) → is_early o n ≡ false → ¬ IsSomeAnd o (WillSend n)
not_early None n e w = w
not_early (Some b) n e w =
    both_ways (is_early (Some b) n) e (and_from (leb (next b) n) (is_before b.stop n) (le-leb (next b) n w.0) (is_before_stop b.stop n w.1))

held_lines : (s : Settings) (k : ℕ) (history : History) (low : ℕ) (o : Option Held) → find (λ x. eqb (x.n % 65536) low) (hold s history) ≡ o
    → ByLines s k history low table (held_answer room s k history low o)
held_lines s k history low None e =
    here s k history low unheld (early ∷ already ∷ table_full ∷ client_full ∷ queue_full ∷ queued ∷ []) (Unheld k low)
    (λ h a is. none_found (λ x. eqb (x.n % 65536) low) (hold s history) h e a (eq-eqb (h.n % 65536) low is)) refl
held_lines s k history low (Some h) e =
    let is = named s history low h e in
    let wait = length (pending_of k history) in
    let all = length (pending history) in
    skip s k history low unheld (early ∷ already ∷ table_full ∷ client_full ∷ queue_full ∷ queued ∷ []) _ (λ m. m is.packet is.among (ap (λ (n : ℕ). n % 65536) is.number ∙ is.bits))
    (cond_both (is_early (open_burst s k history) h.n) _ _ (ByLines s k history low (early ∷ already ∷ table_full ∷ client_full ∷ queue_full ∷ queued ∷ []))
    (λ t. here s k history low early (already ∷ table_full ∷ client_full ∷ queue_full ∷ queued ∷ []) (Early k h.n) (h.n, is, early_so (open_burst s k history) h.n t) (h.n, is, refl))
    (λ f. skip s k history low early (already ∷ table_full ∷ client_full ∷ queue_full ∷ queued ∷ []) _
    (not_named (hold s history) low h.n (λ n. IsSomeAnd (open_burst s k history) (WillSend n)) is (not_early (open_burst s k history) h.n f))
    (cond_both (is_pending k h.n history) _ _ (ByLines s k history low (already ∷ table_full ∷ client_full ∷ queue_full ∷ queued ∷ []))
    (λ t. here s k history low already (table_full ∷ client_full ∷ queue_full ∷ queued ∷ []) (Already k h.n) (h.n, is, t) (h.n, is, refl))
    (λ g. skip s k history low already (table_full ∷ client_full ∷ queue_full ∷ queued ∷ []) _
    (not_named (hold s history) low h.n (λ n. is_pending k n history ≡ true) is (both_ways (is_pending k h.n history) g))
    (cond_both (is_full s k history) _ _ (ByLines s k history low (table_full ∷ client_full ∷ queue_full ∷ queued ∷ []))
    (λ t. here s k history low table_full (client_full ∷ queue_full ∷ queued ∷ []) (TableFull k h.n) (is_full_so s k history t) (h.n, is, refl))
    (λ i. skip s k history low table_full (client_full ∷ queue_full ∷ queued ∷ []) _ (isn't_full_so s k history i)
    (cond_both (leb 256 wait) _ _ (ByLines s k history low (client_full ∷ queue_full ∷ queued ∷ []))
    (λ t. here s k history low client_full (queue_full ∷ queued ∷ []) (ClientFull k h.n) (leb-true 256 wait t) (h.n, is, refl))
    (λ j. skip s k history low client_full (queue_full ∷ queued ∷ []) _ (λ m. omega (arith, m, leb-false 256 wait j))
    (cond_both (leb 4096 all) _ _ (ByLines s k history low (queue_full ∷ queued ∷ []))
    (λ t. here s k history low queue_full (queued ∷ []) (QueueFull k h.n) (leb-true 4096 all t) (h.n, is, refl))
    (λ l. skip s k history low queue_full (queued ∷ []) _ (λ m. omega (arith, m, leb-false 4096 all l))
    (here s k history low queued [] (Queued k h.n) tt (h.n, is, refl))))))))))))

line_given : (s : Settings) (k : ℕ) (history : History) (low : ℕ) (line : Line) (note : Note) → Gives s k history low line note → line_of note ≡ Some line
line_given s k history low unheld note g = ap line_of g
line_given s k history low early note g = ap line_of g.2
line_given s k history low already note g = ap line_of g.2
line_given s k history low table_full note g = ap line_of g.2
line_given s k history low client_full note g = ap line_of g.2
line_given s k history low queue_full note g = ap line_of g.2
line_given s k history low queued note g = ap line_of g.2

number_lines : (s : Settings) (k : ℕ) (history : History) (low : ℕ) → IsByTable s k history low (number_answer room s (hold s history) k history low)
unfolding number_answer
number_lines s k history low =
    let note = number_answer room s (hold s history) k history low in
    let b = held_lines s k history low (find (λ x. eqb (x.n % 65536) low) (hold s history)) refl in
    record { line = b.line; is_line = line_given s k history low b.line note b.gives; first = b.first; gives = b.gives }

by_number : (s : Settings) (k : ℕ) (history : History) (note : Note) → legal.IsNumberAnswer s history k note → IsNumberAnswer s k history note
by_number s k history note a = record {
  sender = a.sender;
  numbers = a.numbers;
  answers = is_answered history k (nack s.channel.ssrc a.sender a.numbers) a.is_answer;
  low = a.low;
  among = a.among;
  by_table = subst (IsByTable s k history a.low) a.is_number (number_lines s k history a.low);
}

pub nack_answer_true : (s : Settings) (note : Note) (line : Line) (packet : Option Held) (history : History) → line_of note ≡ Some line → Allows s history note packet
    → (k : ℕ) × IsNumberAnswer s k history note
nack_answer_true s (Unheld k low) line packet history e a = (k, by_number s k history (Unheld k low) a)
nack_answer_true s (Early k n) line packet history e a = (k, by_number s k history (Early k n) a)
nack_answer_true s (Already k n) line packet history e a = (k, by_number s k history (Already k n) a)
nack_answer_true s (TableFull k n) line packet history e a = (k, by_number s k history (TableFull k n) a)
nack_answer_true s (ClientFull k n) line packet history e a = (k, by_number s k history (ClientFull k n) a)
nack_answer_true s (QueueFull k n) line packet history e a = (k, by_number s k history (QueueFull k n) a)
nack_answer_true s (Queued k n) line packet history e a = (k, by_number s k history (Queued k n) a)
nack_answer_true s note line packet history e a = absurd cc

pub foreign_true : (s : Settings) (k : ℕ) (history : History) → IsForeign s history k → IsForeignNack s k history
foreign_true s k history f = record {
  media = f.media;
  sender = f.sender;
  numbers = f.numbers;
  answers = is_answered history k (nack f.media f.sender f.numbers) f.is_answer;
  foreign = eqb-false f.media s.channel.ssrc f.foreign;
}

-- The notes that answer some numbers.
record Answered (s : Settings) (held : List Held) (k : ℕ) (lows : List ℕ) (history : History) : Type 0 where
  notes : List Note
  after : after_numbers s held k lows history ≡ items_of notes ++ history
  items : AreNotes (items_of notes)
  answers : AreAnswers s k lows notes history

one_more_note : (items : History) (note : Note) → AreNotes items → AreNotes (items ++ noted note None ∷ [])
one_more_note [] note n = tt
one_more_note (noted other packet ∷ items) note n = one_more_note items note n
one_more_note (told client message ∷ items) note n = absurd n
one_more_note (began heard ∷ items) note n = absurd n

in_order : (s : Settings) (held : List Held) (k : ℕ) (lows : List ℕ) (history : History) → hold s history ≡ held → Answered s held k lows history
unfolding after_numbers arrivals
in_order s held k [] history e = record { notes = []; after = refl; items = tt; answers = tt }
in_order s held k (low ∷ lows) history e =
    let note = number_answer room s held k history low in
    let rest = in_order s held k lows (noted note None ∷ history) e in
    record {
      notes = note ∷ rest.notes;
      after = rest.after ∙ sym (append_assoc (items_of rest.notes) (noted note None ∷ []) history);
      items = one_more_note (items_of rest.notes) note rest.items;
      answers = (subst (λ (hs : List Held). IsByTable s k history low (number_answer room s hs k history low)) e (number_lines s k history low), rest.answers);
    }

pub nack_answered : (s : Settings) (events : List Event) (k media sender : ℕ) (numbers : List ℕ) (later before : History)
    → history_of s events ≡ later ++ told k (nack media sender numbers) ∷ before → IsNackAnswered s k media numbers (told k (nack media sender numbers) ∷ before) later
nack_answered s events k media sender numbers later before e =
    let m = nack media sender numbers in
    let history = told k m ∷ before in
    let whole = are_whole s events k m later before e in
    record {
      own = λ same.
          let a = in_order s (hold s history) k numbers history refl in
          let after : after_numbers s (hold s history) k numbers history ≡ after_nack s k media numbers history =
          sym (cond-true (eqb media s.channel.ssrc) _ _ (eq-eqb media s.channel.ssrc same))
          in
          (a.notes, answered_by s k m before later a.notes whole a.items (sym a.after ∙ after), a.answers);
      foreign = λ ne.
          answered_by s k m before later (ForeignNack k ∷ []) whole tt
          (sym (cond-false (eqb media s.channel.ssrc) (after_numbers s (hold s history) k numbers history) (noted (ForeignNack k) None ∷ history) (ne_eqb media s.channel.ssrc ne)));
    }
