-- How a piece of a journal is read, part by part.
use Rattle.std.proofs.Common.{◌≡◌, ℕ, ◌+◌, ◌≤◌, Bool, List, ◌++◌, length, take, drop, Option, None, Some, sym, ap, subst, ◌∙◌, arith, length-append, length-drop, append_assoc, append-nil, take-add, take-append-drop, take_all}
use Rattle.std.specs.Prelude.{MatchOption}
use Rattle.std.proofs.Math.Seq.{take-append_seam}
use Rattle.trace_loop.specs.declared.Stop.{Stop}
use Rattle.serve_loop.specs.{StopsIn}
use Rattle.takeover.specs.standby.{Seen, end_of, first_part}
use Rattle.takeover.proofs.standby.Pieces.{first_front}
use Rattle.takeover.specs.standby.standby_book.{followed_text}
use Rattle.takeover.specs.takeover_loop.{IsOver, left_text}
use Rattle.takeover.proofs.takeover_loop.Lines.{StopsIn-more, followed_grows, over_more, size_grows}
use Rattle.takeover.proofs.takeover_loop.Pieces.{ends_same}

pub first_taken : (rest : List ℕ) (count : ℕ) → count ≡ length (first_part rest) → take count rest ≡ first_part rest
first_taken rest count is =
    ap (λ n. take n rest) is ∙ ap (take (length (first_part rest))) (sym (first_front rest)) ∙ take-append_seam (first_part rest) (drop (length (first_part rest)) rest)

pub first_fits : (rest : List ℕ) → length (first_part rest) ≤ length rest
first_fits rest = let whole = ap length (first_front rest) in omega (arith, whole, length-append (first_part rest) (drop (length (first_part rest)) rest))

module _ (bytes piece rest : List ℕ) (at count : ℕ) (within : at ≤ length piece) (rest_is : rest ≡ drop at piece) (count_is : count ≡ length (first_part rest)) where
  -- the bytes so far
  abbrev pub so_far : List ℕ
  so_far = bytes ++ take at piece

  pub part_next : so_far ++ first_part rest ≡ bytes ++ take (at + count) piece
  part_next =
      append_assoc bytes (take at piece) (first_part rest)
      ∙ ap (λ (l : List ℕ). bytes ++ l) (ap (λ (l : List ℕ). take at piece ++ l) (sym (first_taken rest count count_is) ∙ ap (take count) rest_is) ∙ sym (take-add at count piece))

  pub part_fits : at + count ≤ length piece
  part_fits = let size = ap length rest_is ∙ length-drop at piece in let first = first_fits rest in omega (arith, size, first, count_is, within)

  pub behind_part : bytes ++ piece ≡ (so_far ++ first_part rest) ++ drop (at + count) piece
  behind_part =
      ap (λ (l : List ℕ). bytes ++ l) (sym (take-append-drop (at + count) piece)) ∙ sym (append_assoc bytes (take (at + count) piece) (drop (at + count) piece))
      ∙ ap (λ (l : List ℕ). l ++ drop (at + count) piece) (sym part_next)

  pub part_stops : (held holds : Option (List ℕ)) (waits : List ℕ) (stop : Stop) → StopsIn held holds (followed_text (so_far ++ first_part rest)) waits stop → StopsIn held holds (followed_text (bytes ++ piece)) waits stop
  part_stops held holds waits stop s =
      let g = followed_grows (so_far ++ first_part rest) (drop (at + count) piece) in
      subst (λ (t : List ℕ). StopsIn held holds t waits stop) (sym (ap followed_text behind_part ∙ g.1)) (StopsIn-more held holds (followed_text (so_far ++ first_part rest)) g.0 waits stop s)

  pub part_ends : (held holds : Option (List ℕ)) (v : Seen) (waits : List ℕ) (begun : Bool) → IsOver held holds v waits begun (so_far ++ first_part rest) × (end_of (so_far ++ first_part rest) ≡ None → ⊥)
      → IsOver held holds v waits begun (bytes ++ piece) × (end_of (bytes ++ piece) ≡ None → ⊥)
  part_ends held holds v waits begun over =
      subst (λ (l : List ℕ). IsOver held holds v waits begun l × (end_of l ≡ None → ⊥)) (sym behind_part) (over_more held holds v waits begun (so_far ++ first_part rest) (drop (at + count) piece) over)

  -- the room for the part, and for what is left then
  pub part_needs : (sink : ℕ → Type 0) (waits : List ℕ) (room : ℕ) → sink (length waits + left_text (bytes ++ piece) so_far + room) → sink (length waits + left_text (so_far ++ first_part rest) so_far + (left_text (bytes ++ piece) (so_far ++ first_part rest) + room))
  part_needs sink waits room h =
      let first = size_grows so_far (first_part rest) in
      let whole = size_grows (so_far ++ first_part rest) (drop (at + count) piece) in
      let same = ap (λ (l : List ℕ). length (followed_text l)) behind_part in
      let size : length waits + left_text (bytes ++ piece) so_far + room ≡ length waits + left_text (so_far ++ first_part rest) so_far + (left_text (bytes ++ piece) (so_far ++ first_part rest) + room) = omega (arith, first, whole, same) in
      subst sink size h

  pub part_leaves : (sink : ℕ → Type 0) (waits : List ℕ) (room : ℕ) → sink (length waits + (left_text (bytes ++ piece) (so_far ++ first_part rest) + room)) → sink (length waits + left_text (bytes ++ piece) (bytes ++ take (at + count) piece) + room)
  part_leaves sink waits room h =
      let same = ap (λ (l : List ℕ). left_text (bytes ++ piece) l) part_next in
      let size : length waits + (left_text (bytes ++ piece) (so_far ++ first_part rest) + room) ≡ length waits + left_text (bytes ++ piece) (bytes ++ take (at + count) piece) + room = omega (arith, same) in
      subst sink size h

  pub part_over_room : (sink : ℕ → Type 0) (waits : List ℕ) (room : ℕ) → (end_of (so_far ++ first_part rest) ≡ None → ⊥) → sink (length waits + (left_text (bytes ++ piece) (so_far ++ first_part rest) + room)) → sink (length waits + room)
  part_over_room sink waits room ended h =
      let same = ap (λ (l : List ℕ). length (followed_text l)) behind_part ∙ ends_same (so_far ++ first_part rest) (drop (at + count) piece) ended in
      let size : length waits + (left_text (bytes ++ piece) (so_far ++ first_part rest) + room) ≡ length waits + room = omega (arith, same) in
      subst sink size h

-- before the first part, and behind the last
pub none_taken : (bytes piece : List ℕ) → bytes ++ take 0 piece ≡ bytes
none_taken bytes piece = append-nil bytes

pub all_taken : (bytes piece : List ℕ) (at : ℕ) → length piece ≤ at → bytes ++ take at piece ≡ bytes ++ piece
all_taken bytes piece at less = ap (λ (l : List ℕ). bytes ++ l) (take_all at piece less)

pub room_begins : (sink : ℕ → Type 0) (waits bytes piece : List ℕ) (room : ℕ) → sink (length waits + left_text (bytes ++ piece) bytes + room) → sink (length waits + left_text (bytes ++ piece) (bytes ++ take 0 piece) + room)
room_begins sink waits bytes piece room h = subst (λ (l : List ℕ). sink (length waits + left_text (bytes ++ piece) l + room)) (sym (none_taken bytes piece)) h

pub room_ends : (sink : ℕ → Type 0) (waits bytes piece : List ℕ) (at room : ℕ) → length piece ≤ at → sink (length waits + left_text (bytes ++ piece) (bytes ++ take at piece) + room) → sink (length waits + room)
room_ends sink waits bytes piece at room less h =
    let same = ap (λ (l : List ℕ). length (followed_text l)) (all_taken bytes piece at less) in
    let size : length waits + left_text (bytes ++ piece) (bytes ++ take at piece) + room ≡ length waits + room = omega (arith, same) in
    subst sink size h

-- what an option tells
pub some_of : {A : Type 0} (o : Option A) (x : A) (P : Type 0) (Q : A → Type 0) → o ≡ Some x → MatchOption o P Q → Q x
some_of o x P Q is h = subst (λ (p : Option _). MatchOption p P Q) is h

pub none_of : {A : Type 0} (o : Option A) (P : Type 0) (Q : A → Type 0) → o ≡ None → MatchOption o P Q → P
none_of o P Q is h = subst (λ (p : Option _). MatchOption p P Q) is h
