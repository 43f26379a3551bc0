-- The bytes of the packets of a block.
use Rattle.std.proofs.Common.{◌≡◌, ℕ, ◌+◌, ◌-◌, ◌*◌, ◌/◌, ◌%◌, ◌^◌, ◌<◌, ◌≤◌, suc, List, [], ◌++◌, length, take, drop, replicate, sym, ap, ◌∙◌, arith, append_assoc, length-append}
use Rattle.std.specs.List.{range_with_len}
use Rattle.std.proofs.lemmas.List.{length-replicate, append-nil}
use Rattle.std.proofs.lemmas.List.Concat.{flat_map-cons}
use Rattle.std.proofs.Math.Seq.{take-append_seam, drop-append_seam}
use Rattle.rams_model.specs.Formats.{header, spelling}
use Rattle.generated.specs.trace_gen.{stepped, state, draws_before, size, numbered, text, texts_from}
use Rattle.generated.proofs.trace_gen.Drawing.{state_more}

-- header and payload
abbrev payload : ℕ → List ℕ
payload n = replicate n 0 ++ []

pub packet_length : (i n : ℕ) → length (spelling (numbered i n)) ≡ 12 + length (payload n)
unfolding header spelling
packet_length i n = omega arith

text_length : (seed b j : ℕ) → length (text seed b j) ≡ 12 + size seed b j
text_length seed b j =
    let n = size seed b j in
    let zeros = length-replicate {A = ℕ} n 0 in
    let behind = length-append {A = ℕ} (replicate n 0) [] in
    omega (arith, zeros, behind, packet_length (10 * b + j) n)

spelled : (i n : ℕ) (zeros : List ℕ) → zeros ≡ replicate n 0 → header (numbered i n) ++ zeros ≡ spelling (numbered i n)
unfolding header spelling
spelled i n zeros are = let whole : zeros ≡ payload n = are ∙ sym (append-nil (replicate n 0)) in ap (λ (l : List ℕ). header (numbered i n) ++ l) whole

pub put_together : (old front written zeros all : List ℕ) (i n : ℕ) → front ≡ header (numbered i n) → written ≡ old ++ front → all ≡ written ++ zeros → zeros ≡ replicate n 0
    → all ≡ old ++ spelling (numbered i n)
put_together old front written zeros all i n front_is written_is all_is zeros_are =
    all_is
    ∙ ap (λ (l : List ℕ). l ++ zeros) (written_is ∙ ap (λ (h : List ℕ). old ++ h) front_is)
    ∙ append_assoc old (header (numbered i n)) zeros
    ∙ ap (λ (l : List ℕ). old ++ l) (spelled i n zeros zeros_are)

-- the first, and those behind it
first_text : (seed b j : ℕ) → j < 10 → texts_from seed b j (10 - j) ≡ text seed b j ++ texts_from seed b (j + 1) (10 - (j + 1))
first_text seed b j more =
    let e : 10 - j ≡ suc (10 - (j + 1)) = omega (arith, more) in
    ap (λ (n : ℕ). texts_from seed b j n) e ∙ flat_map-cons (text seed b) j (range_with_len (j + 1) (10 - (j + 1)))

-- a packet by its draw
module _ (seed b j i n before after : ℕ) (i_is : i ≡ 10 * b + j) (drawn_to : before ≡ state seed (draws_before b + j)) (steps : after ≡ stepped before) (n_is : n ≡ 100 + after / 2 ^ 33 % 1300) where
  later : after ≡ state seed (draws_before b + j + 1)
  later = steps ∙ ap stepped drawn_to ∙ sym (state_more seed (draws_before b + j))

  size_is : n ≡ size seed b j
  size_is = n_is ∙ ap (λ (s : ℕ). 100 + s / 2 ^ 33 % 1300) later

  pub text_is : spelling (numbered i n) ≡ text seed b j
  text_is = ap (λ (k : ℕ). spelling (numbered k n)) i_is ∙ ap (λ (k : ℕ). spelling (numbered (10 * b + j) k)) size_is

  -- It is put behind others, and those that are left lead to the same end.
  pub one_more : (old new all : List ℕ) → j < 10 → new ≡ old ++ spelling (numbered i n) → old ++ texts_from seed b j (10 - j) ≡ all
      → (after ≡ state seed (draws_before b + (j + 1))) × (new ++ texts_from seed b (j + 1) (10 - (j + 1)) ≡ all)
  one_more old new all more put leads =
      let rest = texts_from seed b (j + 1) (10 - (j + 1)) in
      let same : draws_before b + j + 1 ≡ draws_before b + (j + 1) = omega arith in (
        later ∙ ap (state seed) same,
        ap (λ (l : List ℕ). l ++ rest) (put ∙ ap (λ (l : List ℕ). old ++ l) text_is)
            ∙ append_assoc old (text seed b j) rest
            ∙ ap (λ (l : List ℕ). old ++ l) (sym (first_text seed b j more))
            ∙ leads,
      )

  -- It is the first of what is ready.
  pub fits : (ready : List ℕ) → j < 10 → ready ≡ texts_from seed b j (10 - j) → 12 + n ≤ length ready
  fits ready more is =
      let both = length-append (text seed b j) (texts_from seed b (j + 1) (10 - (j + 1))) in
      omega (arith, ap length (is ∙ first_text seed b j more), both, text_length seed b j, size_is)

  long : 12 + n ≡ length (text seed b j)
  long = omega (arith, text_length seed b j, size_is)

  pub first_is : (ready : List ℕ) → j < 10 → ready ≡ texts_from seed b j (10 - j) → take (12 + n) ready ≡ text seed b j
  first_is ready more is =
      ap (take (12 + n)) (is ∙ first_text seed b j more)
      ∙ ap (λ (k : ℕ). take k (text seed b j ++ texts_from seed b (j + 1) (10 - (j + 1)))) long
      ∙ take-append_seam (text seed b j) (texts_from seed b (j + 1) (10 - (j + 1)))

  pub rest_is : (ready : List ℕ) → j < 10 → ready ≡ texts_from seed b j (10 - j) → drop (12 + n) ready ≡ texts_from seed b (j + 1) (10 - (j + 1))
  rest_is ready more is =
      ap (drop (12 + n)) (is ∙ first_text seed b j more)
      ∙ ap (λ (k : ℕ). drop k (text seed b j ++ texts_from seed b (j + 1) (10 - (j + 1)))) long
      ∙ drop-append_seam (text seed b j) (texts_from seed b (j + 1) (10 - (j + 1)))
