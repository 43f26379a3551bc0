-- The notes of an answer ask for as many datagrams as it has, so that each has its line.
use Rattle.std.proofs.Common.{◌≡◌, ℕ, ◌+◌, Bool, true, false, not, cond, List, [], ◌∷◌, ◌++◌, map, length, take, drop, Option, Some, None, Result, Ok, Err, option_to_list, refl, sym, ap, subst, ◌∙◌, arith, length-append, length-drop, take-append-drop}
use Rattle.std.specs.Prelude.{flat_map}
use Rattle.std.proofs.lemmas.Bool.{cond_both, true≢false}
use Rattle.rams_model.specs.declared.{Order.Order, TlvFault.TlvFault, Held.Held, Cause.Cause, Note.Note}
use Rattle.rams_model.specs.declared.Cause.TheVariants.{Stopped, Lost, Limit, Bye}
use Rattle.rams_model.specs.declared.Note.TheVariants as note
use Rattle.rams_model.specs.Service.{Settings, began, told, noted, History, hold, Burst, open_burst, reserved, is_slow, is_too_much, is_full, join_from, asked_rate, begins, on_request, verdict, packet_order, again_order, update_order, end_order, order_of, newest_notes, newest_orders, Answered, history_of}
use Rattle.rams_model.specs.Formats.{Request, names}
use Rattle.rams_model.specs.Texts.{note_line, order_count, end_order_count, order_line, notes_text}
use Rattle.rams_model.proofs.Legal.{Allows, IsLegal}
use Rattle.rams_model.proofs.Legality.{legal_history}
use Rattle.server_hub.specs.{answer_to}
use Rattle.trace_loop.specs.journal_book.{WritesItsDatagrams, AnswersWriteTheirDatagrams}

-- the client of an open burst is told of it once more
is_told_more : Note → Bool
is_told_more (note.Update client rate join) = true
is_told_more (note.Again client) = true
is_told_more _ = false

abbrev IsNotTold : Note → Type 0
IsNotTold n = is_told_more n ≡ false

no_start : (s : Settings) (held : List Held) (k rate : ℕ) (history : History) (choice : Result Held ℕ) → IsNotTold (begins s held k rate history choice)
unfolding is_told_more
no_start s held k rate history (Err code) = refl
no_start s held k rate history (Ok h) =
    let accept = note.Accept k h.n rate (join_from s held h.n rate) in
    let large = is_too_much s (reserved s history + rate + s.channel.depth) in
    cond_both (is_slow s rate) (note.Refuse k 403) (cond large (note.Refuse k 501) accept) IsNotTold (λ t. refl) (λ f. cond_both large (note.Refuse k 501) accept IsNotTold (λ t. refl) (λ g. refl))

-- without a burst the client isn't
without_burst : (s : Settings) (k : ℕ) (history : History) (r : Request) → IsNotTold (on_request s (hold s history) k r history None)
unfolding is_told_more
without_burst s k history r = cond_both (is_full s k history) (note.Refuse k 503) _ IsNotTold (λ t. refl) (λ f. no_start s (hold s history) k (asked_rate s r) history _)

told_open : (s : Settings) (k : ℕ) (history : History) (r : Result Request TlvFault) → is_told_more (verdict s k history r) ≡ true → (b : Burst) × (open_burst s k history ≡ Some b)
unfolding verdict is_told_more
told_open s k history (Err fault) e = absurd cc
told_open s k history (Ok r) e = by (open_burst s k history) refl
  where
    none : (o : Option Burst) → o ≡ None → IsNotTold (cond r.preamble (note.Refuse k 512) (cond (not (names r s.channel.ssrc)) (note.Refuse k 509) (on_request s (hold s history) k r history o)))
    none o is =
        let rest = on_request s (hold s history) k r history o in
        cond_both r.preamble (note.Refuse k 512) (cond (not (names r s.channel.ssrc)) (note.Refuse k 509) rest) IsNotTold (λ t. refl)
        (λ f. cond_both (not (names r s.channel.ssrc)) (note.Refuse k 509) rest IsNotTold (λ t. refl) (λ g. subst (λ (x : Option Burst). IsNotTold (on_request s (hold s history) k r history x)) (sym is) (without_burst s k history r)))

    by : (o : Option Burst) → open_burst s k history ≡ o → (b : Burst) × (open_burst s k history ≡ Some b)
    by None is = absurd (true≢false (sym e ∙ none (open_burst s k history) is))
    by (Some b) is = (b, is)

-- how many datagrams there are where there may be one
abbrev count : Option Order → ℕ
count o = length (option_to_list o)

end_count : (k : ℕ) (b : Burst) (why : Cause) → count (end_order k why (Some b)) ≡ end_order_count why
end_count k b Stopped = refl
end_count k b Lost = refl
end_count k b Limit = refl
end_count k b Bye = refl

-- a note that may come asks for the datagrams that it has
note_count : (s : Settings) (history : History) (n : Note) (packet : Option Held) → Allows s history n packet → count (order_of s history n packet) ≡ order_count n
unfolding order_of is_told_more
note_count s history (note.Accept k first rate join) packet a = refl
note_count s history (note.Update k rate join) packet a =
    let b = told_open s k history a.request (ap is_told_more a.is_verdict) in ap (λ (o : Option Burst). count (update_order s k rate join o)) b.1
note_count s history (note.Again k) packet a =
    let b = told_open s k history a.request (ap is_told_more a.is_verdict) in ap (λ (o : Option Burst). count (again_order k o)) b.1
note_count s history (note.Refuse k code) packet a = refl
note_count s history (note.Burst k n number) packet a = ap (λ (p : Option Held). count (packet_order k n number p)) a.packet_is
note_count s history (note.Repair k n number) packet a = ap (λ (p : Option Held). count (packet_order k n number p)) a.packet_is
note_count s history (note.End k why) packet a = ap (λ (o : Option Burst). count (end_order k why o)) a.opened.is_open ∙ end_count k a.opened.burst why
note_count s history _ packet a = refl

-- how many datagrams some notes ask for
asked_for : List Note → ℕ
asked_for [] = 0
asked_for (n ∷ notes) = order_count n + asked_for notes

newest_count : (s : Settings) (history : History) (notes : List Note) (orders : List Order) → IsLegal s history → asked_for notes ≡ length orders
    → asked_for (newest_notes history notes) ≡ length (newest_orders s history orders)
unfolding newest_notes newest_orders asked_for
newest_count s [] notes orders legal same = same
newest_count s (began heard ∷ history) notes orders legal same = same
newest_count s (told client message ∷ history) notes orders legal same = newest_count s history notes orders legal same
newest_count s (noted n packet ∷ history) notes orders legal same =
    let own = option_to_list (order_of s history n packet) in
    let one = note_count s history n packet legal.0 in
    newest_count s history (n ∷ notes) (own ++ orders) legal.1 (let all : order_count n + asked_for notes ≡ length (own ++ orders) = omega (arith, one, same, length-append own orders) in all)

-- the notes, each with its datagrams
dealt : List Note → List Order → List (Note × List Order)
dealt [] orders = []
dealt (n ∷ notes) orders = (n, take (order_count n) orders) ∷ dealt notes (drop (order_count n) orders)

dealt_notes : (notes : List Note) (orders : List Order) → map (λ x. x.0) (dealt notes orders) ≡ notes
unfolding dealt
dealt_notes [] orders = refl
dealt_notes (n ∷ notes) orders = ap (λ (ns : List Note). n ∷ ns) (dealt_notes notes (drop (order_count n) orders))

none_left : (orders : List Order) → 0 ≡ length orders → [] ≡ orders
none_left [] e = refl
none_left (o ∷ orders) e = absurd cc

dealt_orders : (notes : List Note) (orders : List Order) → asked_for notes ≡ length orders → flat_map (λ x. x.1) (dealt notes orders) ≡ orders
unfolding dealt asked_for
dealt_orders [] orders same = none_left orders same
dealt_orders (n ∷ notes) orders same =
    let left = length-drop (order_count n) orders in
    let all : order_count n + asked_for notes ≡ length orders = same in
    ap (λ (os : List Order). take (order_count n) orders ++ os) (dealt_orders notes (drop (order_count n) orders) (omega (arith, all, left)))
    ∙ take-append-drop (order_count n) orders

dealt_text : (s : Settings) (number : ℕ) (notes : List Note) (orders : List Order)
    → notes_text s number notes orders ≡ flat_map (λ x. note_line number s.channel.id x.0 ++ flat_map (order_line s number) x.1) (dealt notes orders)
unfolding dealt notes_text
dealt_text s number [] orders = refl
dealt_text s number (n ∷ notes) orders =
    ap (λ (bs : List ℕ). (note_line number s.channel.id n ++ flat_map (order_line s number) (take (order_count n) orders)) ++ bs) (dealt_text s number notes (drop (order_count n) orders))

answer_writes : (s : Settings) (number : ℕ) (a : Answered) → asked_for a.notes ≡ length a.orders → WritesItsDatagrams s number a
answer_writes s number a same = record {
  entries = dealt a.notes a.orders;
  notes = dealt_notes a.notes a.orders;
  orders = dealt_orders a.notes a.orders same;
  text = dealt_text s number a.notes a.orders;
}

pub answers_write_their_datagrams : AnswersWriteTheirDatagrams
unfolding asked_for
answers_write_their_datagrams number e c =
    let history = history_of c.settings (e ∷ c.events) in
    answer_writes c.settings number (answer_to e c) (newest_count c.settings history [] [] (legal_history c.settings (e ∷ c.events)) refl)
