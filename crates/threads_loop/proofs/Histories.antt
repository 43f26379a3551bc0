-- A history whose lists are those that were dealt: an interleaving of them, whose trace and book these are.
use Rattle.std.proofs.Common.{◌≡◌, ℕ, zero, suc, ◌+◌, ◌≤◌, ◌<◌, Bool, true, false, cond, ltb, List, [], ◌∷◌, ◌++◌, map, length, reverse, codes, refl, sym, ap, subst, ◌∙◌, arith, append_assoc, append-nil, All}
use Rattle.std.specs.Prelude.{◌==◌, if◌then◌else◌}
use Rattle.std.specs.List.{AllByRecursion as Each}
use Rattle.std.proofs.lemmas.Bool.{eqb-true, eqb-false, eq-eqb, lt-ltb, le-ltb, ltb-true, ltb-false}
use Rattle.std.proofs.lemmas.List.{length-map, length-reverse, reverse-append}
use Rattle.std.proofs.lemmas.List.Elements.{All-nil, All-cons}
use Rattle.rams_model.specs.declared.{Event.Event, Status.TheVariants.Done}
use Rattle.rams_model.specs.declared.Event.TheVariants as event
use Rattle.rams_model.specs.Service.{Settings, answer}
use Rattle.rams_model.specs.Texts.{answer_text}
use Rattle.channel_book.specs.declared.Entry.{Entry}
use Rattle.channel_book.specs.{LegalFrom, IsLegal, calls_by}
use Rattle.server_hub.specs.declared.HubEvent.{HubEvent}
use Rattle.server_hub.specs.{served, after_event}
use Rattle.trace_loop.specs.trace_book.trace_serving.{ended, done}
use Rattle.trace_loop.specs.trace_book.{event_text, first_line, trace_text}
use Rattle.trace_loop.specs.journal_book.{HasLine, Opens, IsJournal, RunsWriteJournals, event_line, event_lines, journal_of, text_for}
use Rattle.threads_loop.specs.declared.writing.Part.TheVariants.{Trace, Book}
use Rattle.threads_loop.specs.{list_of, dealt, hub_event, Interleaves, part_text, written_text}

abbrev pub event_in : Entry → Event
event_in e = e.event

-- ---- each entry is of the list of its event

-- the events of a list are of that list
all_dealt : (workers list : ℕ) (events : List Event) → Each (λ x. list_of workers x ≡ list) (dealt workers list events)
all_dealt workers list [] = tt
all_dealt workers list (x ∷ events) = by (list_of workers x == list) refl (all_dealt workers list events)
  where
    by : (b : Bool) → (list_of workers x == list) ≡ b → Each (λ y. list_of workers y ≡ list) (dealt workers list events) → Each (λ y. list_of workers y ≡ list) (if b then x ∷ dealt workers list events else dealt workers list events)
    by true is rest = (eqb-true (list_of workers x) list is, rest)
    by false is rest = rest

-- what holds of the events of each list holds of each entry
each_entry : (P : ℕ → Event → Type 0) (entries : List Entry) → ((list : ℕ) → Each (P list) (map event_in (calls_by list entries))) → Each (λ (e : Entry). P e.list e.event) entries
each_entry P [] each = tt
each_entry P (e ∷ later) each = (head (eq-eqb e.list e.list refl) (each e.list), each_entry P later (λ list. rest list (e.list == list) (each list)))
  where
    head : (e.list == e.list) ≡ true → Each (P e.list) (map event_in (calls_by e.list (e ∷ later))) → P e.list e.event
    head own all =
        let seen : Each (P e.list) (map event_in (if true then e ∷ calls_by e.list later else calls_by e.list later)) =
        subst (λ (b : Bool). Each (P e.list) (map event_in (if b then e ∷ calls_by e.list later else calls_by e.list later))) own all in
        seen.0

    rest : (list : ℕ) (b : Bool) → Each (P list) (map event_in (if b then e ∷ calls_by list later else calls_by list later)) → Each (P list) (map event_in (calls_by list later))
    rest list true all = all.1
    rest list false all = all

-- where each entry is of its event's list, the events of a list are those of its calls
listed : (workers list : ℕ) (entries : List Entry) → Each (λ (e : Entry). list_of workers e.event ≡ e.list) entries → dealt workers list (map event_in entries) ≡ map event_in (calls_by list entries)
listed workers list [] each = refl
listed workers list (e ∷ later) each = by (e.list == list) (ap (λ (n : ℕ). n == list) each.0) (listed workers list later each.1)
  where
    by : (b : Bool) → (list_of workers e.event == list) ≡ b → dealt workers list (map event_in later) ≡ map event_in (calls_by list later)
        → (if list_of workers e.event == list then e.event ∷ dealt workers list (map event_in later) else dealt workers list (map event_in later))
        ≡ map event_in (if b then e ∷ calls_by list later else calls_by list later)
    by true is rest = rw is (ap (λ l. e.event ∷ l) rest)
    by false is rest = rw is rest

module _ (workers : ℕ) (came : List Event) (entries : List Entry) (lists : (list : ℕ) → map event_in (calls_by list entries) ≡ dealt workers list came) where
  own_lists : Each (λ (e : Entry). list_of workers e.event ≡ e.list) entries
  own_lists = each_entry (λ list x. list_of workers x ≡ list) entries (λ list. subst (Each (λ x. list_of workers x ≡ list)) (sym (lists list)) (all_dealt workers list came))

  pub interleaves : Interleaves workers came (map event_in entries)
  interleaves = record { lists = λ list. listed workers list entries own_lists ∙ lists list }

-- ---- as many events

-- how many of the events are of the lists below a number
abbrev below : ℕ → ℕ → List Event → ℕ
below workers zero events = 0
below workers (suc n) events = length (dealt workers n events) + below workers n events

below_more : (workers n : ℕ) (x : Event) (events : List Event) → below workers n (x ∷ events) ≡ below workers n events + cond (ltb (list_of workers x) n) 1 0
below_more workers zero x events =
    let none : cond (ltb (list_of workers x) 0) 1 0 ≡ 0 = ap {B = ℕ} (λ b. cond b 1 0) (le-ltb (list_of workers x) 0 (omega arith)) in
    ap (λ n. 0 + n) (sym none)
below_more workers (suc n) x events = by (list_of workers x == n) refl (below_more workers n x events)
  where
    more : (a n : ℕ) → n ≤ a → (a ≡ n → ⊥) → suc n ≤ a
    more a n le apart = omega (arith, le, apart)

    sides : (b : Bool) → ltb (list_of workers x) n ≡ b → (list_of workers x ≡ n → ⊥) → ltb (list_of workers x) (suc n) ≡ b
    sides true is apart = lt-ltb (list_of workers x) (suc n) (omega (arith, ltb-true (list_of workers x) n is))
    sides false is apart = le-ltb (list_of workers x) (suc n) (more (list_of workers x) n (ltb-false (list_of workers x) n is) apart)

    by : (b : Bool) → (list_of workers x == n) ≡ b → below workers n (x ∷ events) ≡ below workers n events + cond (ltb (list_of workers x) n) 1 0
        → length (if b then x ∷ dealt workers n events else dealt workers n events) + below workers n (x ∷ events)
        ≡ (length (dealt workers n events) + below workers n events) + cond (ltb (list_of workers x) (suc n)) 1 0
    by true is rest =
        let same = eqb-true (list_of workers x) n is in
        let inside : ltb (list_of workers x) (suc n) ≡ true = lt-ltb (list_of workers x) (suc n) (omega (arith, same)) in
        let outside : ltb (list_of workers x) n ≡ false = le-ltb (list_of workers x) n (omega (arith, same)) in
        omega (arith, rest, ap {B = ℕ} (λ b. cond b 1 0) inside, ap {B = ℕ} (λ b. cond b 1 0) outside)
    by false is rest =
        let apart = eqb-false (list_of workers x) n is in
        omega (arith, rest, ap {B = ℕ} (λ b. cond b 1 0) (sides (ltb (list_of workers x) n) refl apart))

list_within : (workers : ℕ) (x : Event) → 0 < workers → list_of workers x < workers + 2
list_within workers (event.Live bytes) some = omega (arith, some)
list_within workers (event.Feedback client bytes) some = omega (arith, some)
list_within workers event.Tick some = omega (arith, some)

all_below : (workers : ℕ) (events : List Event) → 0 < workers → below workers (workers + 2) events ≡ length events
all_below workers [] some = none_below (workers + 2)
  where
    none_below : (n : ℕ) → below workers n [] ≡ 0
    none_below zero = refl
    none_below (suc n) = ap (λ k. 0 + k) (none_below n)
all_below workers (x ∷ events) some =
    omega (arith, below_more workers (workers + 2) x events, all_below workers events some, ap {B = ℕ} (λ b. cond b 1 0) (lt-ltb (list_of workers x) (workers + 2) (list_within workers x some)))

same_below : (workers n : ℕ) (xs ys : List Event) → Interleaves workers xs ys → below workers n ys ≡ below workers n xs
same_below workers zero xs ys i = refl
same_below workers (suc n) xs ys i = omega (arith, ap length (i.lists n), same_below workers n xs ys i)

-- an interleaving has as many events
pub as_many : (workers : ℕ) (came events : List Event) → 0 < workers → Interleaves workers came events → length events ≡ length came
as_many workers came events some i = sym (all_below workers events some) ∙ same_below workers (workers + 2) came events i ∙ all_below workers came some

-- ---- its lines

-- what holds of each event that came holds of each of a list
each_dealt : (P : Event → Type 0) (workers list : ℕ) (events : List Event) → Each P events → Each P (dealt workers list events)
each_dealt P workers list [] each = tt
each_dealt P workers list (x ∷ events) each = by (list_of workers x == list) (each_dealt P workers list events each.1)
  where
    by : (b : Bool) → Each P (dealt workers list events) → Each P (if b then x ∷ dealt workers list events else dealt workers list events)
    by true rest = (each.0, rest)
    by false rest = rest

each_append : (P : Event → Type 0) (xs ys : List Event) → Each P xs → Each P ys → Each P (xs ++ ys)
each_append P [] ys a b = b
each_append P (x ∷ xs) ys a b = (a.0, each_append P xs ys a.1 b)

each_reverse : (P : Event → Type 0) (xs : List Event) → Each P xs → Each P (reverse xs)
each_reverse P [] each = tt
each_reverse P (x ∷ xs) each = subst (Each P) (sym (reverse-append (x ∷ []) xs)) (each_append P (reverse xs) (x ∷ []) (each_reverse P xs each.1) (each.0, tt))

lines_all : (id : ℕ) (entries : List Entry) → Each (λ (e : Entry). HasLine (hub_event id e.event)) entries → All HasLine (map (hub_event id) (map event_in entries))
lines_all id [] each = All-nil HasLine
lines_all id (e ∷ later) each = All-cons HasLine (hub_event id e.event) (map (hub_event id) (map event_in later)) each.0 (lines_all id later each.1)

-- ---- its trace and its book

trace_part : (s : Settings) (number : ℕ) (entries : List Entry) → part_text s Trace number entries ≡ event_lines (map (hub_event s.channel.id) (map event_in entries))
unfolding part_text
trace_part s number [] = refl
trace_part s number (e ∷ later) = ap (λ t. event_line (hub_event s.channel.id e.event) ++ t) (trace_part s (number + 1) later)

-- an event of the one channel, and what is written for it
one_text : (s : Settings) (before : List Event) (number : ℕ) (e : Event) → event_text number (hub_event s.channel.id e) (served s before ∷ []) ≡ answer_text s number (answer s before e)
one_text s before number (event.Live bytes) = rw (eq-eqb s.channel.id s.channel.id refl) refl
one_text s before number (event.Feedback client bytes) = rw (eq-eqb s.channel.id s.channel.id refl) refl
one_text s before number event.Tick = append-nil (answer_text s number (answer s before event.Tick))

-- an event of the one channel comes to it
pub one_after : (s : Settings) (before : List Event) (e : Event) → after_event (hub_event s.channel.id e) (served s before ∷ []) ≡ served s (e ∷ before) ∷ []
one_after s before (event.Live bytes) = rw (eq-eqb s.channel.id s.channel.id refl) refl
one_after s before (event.Feedback client bytes) = rw (eq-eqb s.channel.id s.channel.id refl) refl
one_after s before event.Tick = refl

book_part : (s : Settings) (before : List Event) (count : ℕ) (entries : List Entry) → LegalFrom s before entries
    → part_text s Book (count + 1) entries ≡ text_for count (served s before ∷ []) (map (hub_event s.channel.id) (map event_in entries))
unfolding part_text text_for
book_part s before count [] legal = refl
book_part s before count (e ∷ later) legal =
    let events = map (hub_event s.channel.id) (map event_in later) in
    ap (λ t. answer_text s (count + 1) e.answer ++ t) (book_part s (e.event ∷ before) (count + 1) later legal.1)
    ∙ ap (λ a. answer_text s (count + 1) a ++ text_for (count + 1) (served s (e.event ∷ before) ∷ []) events) legal.0
    ∙ ap (λ t. t ++ text_for (count + 1) (served s (e.event ∷ before) ∷ []) events) (sym (one_text s before (count + 1) e.event))
    ∙ ap (λ cs. event_text (count + 1) (hub_event s.channel.id e.event) (served s before ∷ []) ++ text_for (count + 1) cs events) (sym (one_after s before e.event))

-- What is written of a history.
pub record IsWrittenSo (s : Settings) (head trace : List ℕ) (entries : List Entry) : Type 0 where
  pub done_so : (trace_text trace).status ≡ Done
  pub text : written_text s head entries ≡ trace ++ (trace_text trace).text

module _ (workers : ℕ) (s : Settings) (head : List ℕ) (came : List Event) (entries : List Entry) (lists : (list : ℕ) → map event_in (calls_by list entries) ≡ dealt workers list (reverse came))
    (some : 0 < workers) (few : length came ≤ 200000) (spelled : Each (λ e. HasLine (hub_event s.channel.id e)) came) (opens : Opens head (served s [] ∷ [])) (legal : IsLegal s entries) (runs : RunsWriteJournals) where
  abbrev hub_events : List HubEvent
  hub_events = map (hub_event s.channel.id) (map event_in entries)

  abbrev trace_of : List ℕ
  trace_of = journal_of head hub_events

  have_lines : All HasLine hub_events
  have_lines =
      lines_all s.channel.id entries (each_entry (λ list x. HasLine (hub_event s.channel.id x)) entries
      (λ list. subst (Each (λ x. HasLine (hub_event s.channel.id x))) (sym (lists list)) (each_dealt (λ x. HasLine (hub_event s.channel.id x)) workers list (reverse came) (each_reverse (λ x. HasLine (hub_event s.channel.id x)) came spelled))))

  count : length hub_events ≡ length entries
  count = length-map (map event_in entries) (hub_event s.channel.id) ∙ length-map entries event_in

  is_journal : IsJournal head (served s [] ∷ []) hub_events
  is_journal = record {
    opens = opens;
    lines = have_lines;
    few = omega (arith, few, as_many workers (reverse came) (map event_in entries) some (interleaves workers (reverse came) entries lists), length-map entries event_in, count, length-reverse came);
  }

  book : trace_text trace_of ≡ ended Done (first_line ++ (text_for 0 (served s [] ∷ []) hub_events ++ (done (length hub_events)).text))
  book = runs head (served s [] ∷ []) hub_events is_journal

  pub written_so : IsWrittenSo s head trace_of entries
  unfolding journal_of
  written_so = record {
    done_so = ap (λ o. o.status) book;
    text =
        let lines = event_lines hub_events in
        let rest = text_for 0 (served s [] ∷ []) hub_events ++ (done (length hub_events)).text in
        ap (λ t. head ++ (t ++ (codes "end\nrams-book 1\n" ++ (part_text s Book 1 entries ++ (done (length entries)).text)))) (trace_part s 1 entries)
        ∙ ap (λ t. head ++ (lines ++ (codes "end\nrams-book 1\n" ++ (t ++ (done (length entries)).text)))) (book_part s [] 0 entries legal)
        ∙ ap (λ n. head ++ (lines ++ (codes "end\nrams-book 1\n" ++ (text_for 0 (served s [] ∷ []) hub_events ++ (done n).text)))) (sym count)
        ∙ ap (λ t. head ++ t) (sym (append_assoc lines (codes "end\n") (first_line ++ rest)))
        ∙ sym (append_assoc head (lines ++ codes "end\n") (first_line ++ rest))
        ∙ ap (λ t. (head ++ (lines ++ codes "end\n")) ++ t) (sym (ap (λ o. o.text) book));
  }
