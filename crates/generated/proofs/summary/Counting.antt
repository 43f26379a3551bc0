-- Counts of joined lists of notes.
use Rattle.std.proofs.Common.{◌≡◌, ℕ, ◌+◌, ◌≤◌, cond, List, [], ◌∷◌, ◌++◌, ◌<◌, length, take, get_or, refl, ap, sym, ◌∙◌, subst, arith}
use Rattle.std.proofs.lemmas.List.{take_more, length-take-le}
use Rattle.std.proofs.lemmas.List.Sums.{sum_by_push, sum_by-append, count_by-le-length}
use Rattle.rams_model.specs.declared.Note.{Note}
use Rattle.generated.specs.declared.summary.counts.Counts.{Counts}
use Rattle.generated.specs.summary.Counts.{took, accept, again, refuse, burst, repair, end, counts_of}
use Rattle.generated.specs.summary.Steps.{with_note, sum_of, AreAtMost}

pub counts_none : counts_of [] ≡ record { took = 0; accept = 0; again = 0; refuse = 0; burst = 0; repair = 0; end = 0 }
unfolding counts_of
counts_none = refl

pub counts_push : (notes : List Note) (note : Note) → counts_of (notes ++ note ∷ []) ≡ with_note (counts_of notes) note
unfolding counts_of
counts_push notes note =
    let a = sum_by_push (λ n. cond (took n) 1 0) notes note in
    let b = sum_by_push (λ n. cond (accept n) 1 0) notes note in
    let c = sum_by_push (λ n. cond (again n) 1 0) notes note in
    let d = sum_by_push (λ n. cond (refuse n) 1 0) notes note in
    let e = sum_by_push (λ n. cond (burst n) 1 0) notes note in
    let f = sum_by_push (λ n. cond (repair n) 1 0) notes note in
    let g = sum_by_push (λ n. cond (end n) 1 0) notes note in
    cc

pub counts_append : (notes more : List Note) → counts_of (notes ++ more) ≡ sum_of (counts_of notes) (counts_of more)
unfolding counts_of
counts_append notes more =
    let a = sum_by-append (λ n. cond (took n) 1 0) notes more in
    let b = sum_by-append (λ n. cond (accept n) 1 0) notes more in
    let c = sum_by-append (λ n. cond (again n) 1 0) notes more in
    let d = sum_by-append (λ n. cond (refuse n) 1 0) notes more in
    let e = sum_by-append (λ n. cond (burst n) 1 0) notes more in
    let f = sum_by-append (λ n. cond (repair n) 1 0) notes more in
    let g = sum_by-append (λ n. cond (end n) 1 0) notes more in
    cc

pub counts_few : (notes : List Note) → AreAtMost (length notes) (counts_of notes)
unfolding counts_of
counts_few notes = record {
  took = count_by-le-length took notes;
  accept = count_by-le-length accept notes;
  again = count_by-le-length again notes;
  refuse = count_by-le-length refuse notes;
  burst = count_by-le-length burst notes;
  repair = count_by-le-length repair notes;
  end = count_by-le-length end notes;
}

pub at_most : (less most : ℕ) (c : Counts) → less ≤ most → AreAtMost less c → AreAtMost most c
at_most less most c more few = record {
  took = omega (arith, few.took, more);
  accept = omega (arith, few.accept, more);
  again = omega (arith, few.again, more);
  refuse = omega (arith, few.refuse, more);
  burst = omega (arith, few.burst, more);
  repair = omega (arith, few.repair, more);
  end = omega (arith, few.end, more);
}

-- Each count of some of the notes is at most their number.
pub counts_of_some : (c : Counts) (notes : List Note) (i most : ℕ) → c ≡ counts_of (take i notes) → i ≤ length notes → i ≤ most → AreAtMost most c
counts_of_some c notes i most is within more =
    let few = subst (λ (d : Counts). AreAtMost (length (take i notes)) d) (sym is) (counts_few (take i notes)) in
    at_most (length (take i notes)) most c (omega (arith, length-take-le i notes within, more)) few

-- one note further
pub counts_more : (c d : Counts) (notes : List Note) (i : ℕ) (note : Note) → c ≡ counts_of (take i notes) → i < length notes → d ≡ with_note c (get_or notes i note) → d ≡ counts_of (take (i + 1) notes)
counts_more c d notes i note is within more =
    more ∙ ap (λ (x : Counts). with_note x (get_or notes i note)) is ∙ sym (counts_push (take i notes) (get_or notes i note)) ∙ ap counts_of (sym (take_more notes i note within))
