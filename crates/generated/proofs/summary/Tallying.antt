-- The tally of one answer more.
use Rattle.std.proofs.Common.{◌≡◌, ℕ, ◌+◌, List, [], ◌∷◌, length, suc, refl, ap, ◌∙◌, arith}
use Rattle.std.specs.List.{flat_map, count_by}
use Rattle.std.proofs.lemmas.List.Concat.{flat_map-cons}
use Rattle.std.proofs.lemmas.List.Sums.{sum_by-append}
use Rattle.rams_model.specs.declared.{Order.Order, Event.Event, LiveNote.LiveNote, Note.Note, Note.TheVariants.Live}
use Rattle.rams_model.specs.Service.{Answered, answered, Settings, answer, book}
use Rattle.generated.specs.declared.summary.counts.Counts.{Counts}
use Rattle.generated.specs.summary.Counts.{Tallied, took, accept, again, refuse, burst, repair, end, counts_of, size_of, bytes_of, tally_of}
use Rattle.generated.specs.summary.Steps.{flag, with_note, sum_of}
use Rattle.generated.specs.summary.Text.{answers_in}
use Rattle.generated.proofs.summary.Counting.{counts_append}

-- the notes and the orders of answers
abbrev notes_of : List Answered → List Note
notes_of answers = flat_map (λ a. a.notes) answers

abbrev orders_of : List Answered → List Order
orders_of answers = flat_map (λ a. a.orders) answers

abbrev with_answer : Tallied → Answered → Tallied
with_answer t a = record { answers = t.answers + 1; notes = sum_of (counts_of a.notes) t.notes; bytes = t.bytes + bytes_of a.orders }

pub tally_more : (a : Answered) (answers : List Answered) → tally_of (a ∷ answers) ≡ with_answer (tally_of answers) a
tally_more a answers =
    let count : length (a ∷ answers) ≡ length answers + 1 = omega arith in
    let notes = ap counts_of (flat_map-cons (λ (x : Answered). x.notes) a answers) ∙ counts_append a.notes (notes_of answers) in
    let sizes = ap bytes_of (flat_map-cons (λ (x : Answered). x.orders) a answers) ∙ sum_by-append size_of a.orders (orders_of answers) in
    let bytes : bytes_of (orders_of (a ∷ answers)) ≡ bytes_of (orders_of answers) + bytes_of a.orders = omega (arith, sizes) in
    cc

-- one note more
one_note : (c : Counts) (note : Note) → sum_of (counts_of (note ∷ [])) c ≡ with_note c note
unfolding counts_of
one_note c note =
    let a : count_by took (note ∷ []) + c.took ≡ c.took + flag (took note) = omega arith in
    let b : count_by accept (note ∷ []) + c.accept ≡ c.accept + flag (accept note) = omega arith in
    let d : count_by again (note ∷ []) + c.again ≡ c.again + flag (again note) = omega arith in
    let e : count_by refuse (note ∷ []) + c.refuse ≡ c.refuse + flag (refuse note) = omega arith in
    let f : count_by burst (note ∷ []) + c.burst ≡ c.burst + flag (burst note) = omega arith in
    let g : count_by repair (note ∷ []) + c.repair ≡ c.repair + flag (repair note) = omega arith in
    let h : count_by end (note ∷ []) + c.end ≡ c.end + flag (end note) = omega arith in
    cc

-- the answer to a live packet more
pub tally_live : (note : LiveNote) (answers : List Answered)
    → tally_of (answered (Live note ∷ []) [] ∷ answers) ≡ (let t = tally_of answers in record { answers = t.answers + 1; notes = with_note t.notes (Live note); bytes = t.bytes })
tally_live note answers =
    let t = tally_of answers in
    let none : t.bytes + 0 ≡ t.bytes = omega arith in
    tally_more (answered (Live note ∷ []) []) answers
    ∙ ap (λ (c : Counts). record { answers = t.answers + 1; notes = c; bytes = t.bytes + 0 }) (one_note t.notes (Live note))
    ∙ ap (λ (n : ℕ). record { answers = t.answers + 1; notes = with_note t.notes (Live note); bytes = n }) none

pub length_book : (s : Settings) (events : List Event) → length (book s events) ≡ length events
unfolding book
length_book s [] = refl
length_book s (event ∷ events) = ap suc (length_book s events)

-- One event more has one answer more.
pub answers_more : (s : Settings) (event : Event) (events : List Event) → answers_in s (event ∷ events) ≡ answer s events event ∷ answers_in s events
unfolding book
answers_more s event events = refl
