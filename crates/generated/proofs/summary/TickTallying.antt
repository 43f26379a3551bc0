-- The tally of one tick's answer more, by its sums.
use Rattle.std.proofs.Common.{◌≡◌, ℕ, ◌+◌, true, cond, List, [], ◌∷◌, refl, ap, sym, ◌∙◌, arith}
use Rattle.std.specs.Prelude.{sum_by}
use Rattle.std.specs.List.{AllByRecursion as Each, count_by}
use Rattle.std.proofs.lemmas.List.Sums.{sum_by-cons}
use Rattle.rams_model.specs.declared.{Order.Order, Note.Note, Order.TheVariants.Rtx, Order.TheVariants.Info}
use Rattle.rams_model.specs.declared.Note.TheVariants as note
use Rattle.rams_model.specs.Formats.{wire_size}
use Rattle.rams_model.specs.Service.{Answered, wire_sizes}
use Rattle.rams_model.proofs.Items.{is_of_tick}
use Rattle.tick_draft.specs.{sends, sends_of_burst, ends_burst, sums_in}
use Rattle.generated.specs.declared.summary.counts.Counts.{Counts}
use Rattle.generated.specs.summary.Counts.{Tallied, took, accept, again, refuse, burst, repair, end, counts_of, size_of, bytes_of, tally_of}
use Rattle.generated.specs.summary.Steps.{flag, sum_of, with_sums, with_tick}
use Rattle.generated.proofs.summary.Tallying.{tally_more}

-- what a note of a tick is counted as
record IsCounted (n : Note) : Type 0 where
  no_took : flag (took n) ≡ 0
  no_accept : flag (accept n) ≡ 0
  no_again : flag (again n) ≡ 0
  no_refuse : flag (refuse n) ≡ 0
  of_burst : flag (burst n) ≡ flag (sends_of_burst n)
  of_both : flag (burst n) + flag (repair n) ≡ flag (sends n)
  of_end : flag (end n) ≡ flag (ends_burst n)

counted : (n : Note) → is_of_tick n ≡ true → IsCounted n
counted (note.Burst client n seq) is = record { no_took = refl; no_accept = refl; no_again = refl; no_refuse = refl; of_burst = refl; of_both = refl; of_end = refl }
counted (note.Repair client n seq) is = record { no_took = refl; no_accept = refl; no_again = refl; no_refuse = refl; of_burst = refl; of_both = refl; of_end = refl }
counted (note.End client cause) is = record { no_took = refl; no_accept = refl; no_again = refl; no_refuse = refl; of_burst = refl; of_both = refl; of_end = refl }
counted (note.Gone client n) is = record { no_took = refl; no_accept = refl; no_again = refl; no_refuse = refl; of_burst = refl; of_both = refl; of_end = refl }
counted (note.Forgot client) is = record { no_took = refl; no_accept = refl; no_again = refl; no_refuse = refl; of_burst = refl; of_both = refl; of_end = refl }
counted n is = absurd cc

record AreCounted (notes : List Note) : Type 0 where
  no_took : count_by took notes ≡ 0
  no_accept : count_by accept notes ≡ 0
  no_again : count_by again notes ≡ 0
  no_refuse : count_by refuse notes ≡ 0
  of_burst : count_by burst notes ≡ count_by sends_of_burst notes
  of_both : count_by burst notes + count_by repair notes ≡ count_by sends notes
  of_end : count_by end notes ≡ count_by ends_burst notes

all_counted : (notes : List Note) → Each (λ (n : Note). is_of_tick n ≡ true) notes → AreCounted notes
all_counted [] are = record { no_took = refl; no_accept = refl; no_again = refl; no_refuse = refl; of_burst = refl; of_both = refl; of_end = refl }
all_counted (n ∷ notes) are =
    let one = counted n are.0 in
    let more = all_counted notes are.1 in
    let bursts = sum_by-cons (λ (m : Note). cond (burst m) 1 0) n notes in
    record {
      no_took = omega (arith, sum_by-cons (λ (m : Note). cond (took m) 1 0) n notes, one.no_took, more.no_took);
      no_accept = omega (arith, sum_by-cons (λ (m : Note). cond (accept m) 1 0) n notes, one.no_accept, more.no_accept);
      no_again = omega (arith, sum_by-cons (λ (m : Note). cond (again m) 1 0) n notes, one.no_again, more.no_again);
      no_refuse = omega (arith, sum_by-cons (λ (m : Note). cond (refuse m) 1 0) n notes, one.no_refuse, more.no_refuse);
      of_burst = omega (arith, bursts, sum_by-cons (λ (m : Note). cond (sends_of_burst m) 1 0) n notes, one.of_burst, more.of_burst);
      of_both = omega (arith, bursts, sum_by-cons (λ (m : Note). cond (repair m) 1 0) n notes, sum_by-cons (λ (m : Note). cond (sends m) 1 0) n notes, one.of_both, more.of_both);
      of_end = omega (arith, sum_by-cons (λ (m : Note). cond (end m) 1 0) n notes, sum_by-cons (λ (m : Note). cond (ends_burst m) 1 0) n notes, one.of_end, more.of_end);
    }

-- the bytes of the packets, and of all orders
same_bytes : (orders : List Order) → sum_by (λ size. size) (wire_sizes orders) ≡ bytes_of orders
same_bytes [] = refl
same_bytes (Rtx client n seq packet ∷ orders) =
    omega (arith, sum_by-cons (λ (size : ℕ). size) (wire_size packet) (wire_sizes orders), sum_by-cons size_of (Rtx client n seq packet) orders, same_bytes orders)
same_bytes (Info client info ∷ orders) = omega (arith, sum_by-cons size_of (Info client info) orders, same_bytes orders)

abbrev counts_by : ℕ → ℕ → ℕ → ℕ → ℕ → ℕ → ℕ → Counts
counts_by a b c d e f g = record { took = a; accept = b; again = c; refuse = d; burst = e; repair = f; end = g }

same_counts : (a b c d e f g h i j k l m n : ℕ) → a ≡ h → b ≡ i → c ≡ j → d ≡ k → e ≡ l → f ≡ m → g ≡ n → counts_by a b c d e f g ≡ counts_by h i j k l m n
same_counts a b c d e f g h i j k l m n p q r s t u v = cc

tick_counts : (c : Counts) (a : Answered) → AreCounted a.notes → sum_of (counts_of a.notes) c ≡ with_sums c (sums_in a)
unfolding counts_of
tick_counts c a are =
    same_counts _ _ _ _ _ _ _ _ _ _ _ _ _ _ (omega (arith, are.no_took)) (omega (arith, are.no_accept)) (omega (arith, are.no_again)) (omega (arith, are.no_refuse)) (omega (arith, are.of_burst)) (omega (arith, are.of_burst, are.of_both)) (omega (arith, are.of_end))

abbrev tallied_by : ℕ → ℕ → Counts → Tallied
tallied_by answers bytes notes = record { answers = answers; notes = notes; bytes = bytes }

pub tally_tick : (a : Answered) (answers : List Answered) → Each (λ (n : Note). is_of_tick n ≡ true) a.notes → tally_of (a ∷ answers) ≡ with_tick (tally_of answers) (sums_in a)
tally_tick a answers are =
    let t = tally_of answers in
    tally_more a answers
    ∙ (ap (tallied_by (t.answers + 1) (t.bytes + bytes_of a.orders)) (tick_counts t.notes a (all_counted a.notes are))
    ∙ ap (λ (n : ℕ). tallied_by (t.answers + 1) (t.bytes + n) (with_sums t.notes (sums_in a))) (sym (same_bytes a.orders)))
