-- Where a piece of some bytes ends, and a line.
use Rattle.std.proofs.Common.{◌≡◌, ℕ, zero, suc, ◌+◌, ◌-◌, ◌<◌, ◌&&◌, Bool, Option, None, Some, sym, true, false, eqb, List, [], ◌∷◌, length, take, drop, refl, ap, ◌∙◌, arith, add-one}
use Rattle.std.proofs.lemmas.Bool.{false_from_ne_true, eqb-true, and_parts}
use Rattle.std.proofs.lemmas.List.Splits.{slice_split-cons_yes, slice_split-cons_no}
use Rattle.std.specs.Prelude.{MatchOption, unwrap_or}
use Rattle.std.specs.Borrow.{Bor}
use Rattle.std.specs.Cmp.Lexicographic.{pointwise}
use Rattle.std.specs.List.{onto_first}
use Rattle.memchr.specs.Find.{is_byte, Passes, Nowhere, NoneBefore}
use Rattle.converters.specs.description_loop.sdp_config.{lines_in, bare, pieces_of}
use Rattle.converters.specs.description_loop.sdp_config.Lines.{begins_with}

-- without a mark there is one piece
pub pieces_whole : (mark : ℕ) (bytes : List ℕ) → Nowhere (Passes (is_byte mark) bytes) 0 (length bytes) → pieces_of mark bytes ≡ bytes ∷ []
pieces_whole mark [] h = refl
pieces_whole mark (b ∷ bytes) h =
    slice_split-cons_no (λ c. eqb c mark) b bytes (false_from_ne_true (eqb b mark) (h 0 (omega arith) (omega arith)))
    ∙ ap (onto_first b) (pieces_whole mark bytes (λ k low high. h (suc k) (omega arith) (omega arith)))

-- what is known behind the first byte, where it isn't one
later : (test : ℕ) (b : ℕ) (bytes : List ℕ) (at : ℕ) → NoneBefore (Passes (is_byte test) (b ∷ bytes)) 0 (length (b ∷ bytes)) (suc at) → NoneBefore (Passes (is_byte test) bytes) 0 (length bytes) at
later test b bytes at h = record {
  low = omega arith;
  high = let within = h.high in omega arith;
  before = λ k low high. h.before (suc k) (omega arith) (omega arith);
}

-- the first mark ends the first piece
pieces_of-at : (mark : ℕ) (bytes : List ℕ) (at : ℕ) → NoneBefore (Passes (is_byte mark) bytes) 0 (length bytes) at × Passes (is_byte mark) bytes at
    → pieces_of mark bytes ≡ take at bytes ∷ pieces_of mark (drop (suc at) bytes)
pieces_of-at mark [] at h = let none = h.0.high in absurd (omega arith)
pieces_of-at mark (b ∷ bytes) zero h = slice_split-cons_yes (λ c. eqb c mark) b bytes h.1
pieces_of-at mark (b ∷ bytes) (suc at) h =
    slice_split-cons_no (λ c. eqb c mark) b bytes (false_from_ne_true (eqb b mark) (h.0.before 0 (omega arith) (omega arith)))
    ∙ ap (onto_first b) (pieces_of-at mark bytes at (later mark b bytes at h.0, h.1))

pub pieces_at : (mark : ℕ) (bytes : List ℕ) (at : ℕ) → NoneBefore (Passes (is_byte mark) bytes) 0 (length bytes) at × Passes (is_byte mark) bytes at
    → pieces_of mark bytes ≡ take at bytes ∷ pieces_of mark (drop (at + 1) bytes)
pieces_at mark bytes at h = rw add-one (pieces_of-at mark bytes at h)

-- a byte that ends no line goes onto the first one
pub lines-other : (b : ℕ) (bytes : List ℕ) → eqb b 10 ≡ false → (eqb b 13 && begins_with 10 bytes) ≡ false → lines_in (b ∷ bytes) ≡ onto_first b (lines_in bytes)
unfolding lines_in
lines-other b bytes feed return = rw (feed, return) refl

pub lines-feed : (b : ℕ) (bytes : List ℕ) → eqb b 10 ≡ true → lines_in (b ∷ bytes) ≡ [] ∷ lines_in bytes
unfolding lines_in
lines-feed b bytes feed = rw feed refl

-- a CR in front of a line feed
pub lines-return : (b : ℕ) (bytes : List ℕ) → eqb b 10 ≡ false → (eqb b 13 && begins_with 10 bytes) ≡ true → lines_in (b ∷ bytes) ≡ lines_in bytes
unfolding lines_in
lines-return b bytes feed return = rw (feed, return) refl

pub lines-none : lines_in [] ≡ []
unfolding lines_in
lines-none = refl

pub no_return : (b : ℕ) (t : Bool) → t ≡ false → (eqb b 13 && t) ≡ false
no_return b t h = by (eqb b 13)
  where
    by : (r : Bool) → (r && t) ≡ false
    by true = h
    by false = refl

-- without a line feed there is one line
pub lines_whole : (text : List ℕ) → 0 < length text → Nowhere (Passes (is_byte 10) text) 0 (length text) → lines_in text ≡ text ∷ lines_in []
lines_whole [] some h = absurd (omega arith)
lines_whole (b ∷ []) some h =
    lines-other b [] (false_from_ne_true (eqb b 10) (h 0 (omega arith) (omega arith))) (no_return b false refl)
    ∙ rw lines-none refl
lines_whole (b ∷ c ∷ text) some h =
    let next = false_from_ne_true (eqb c 10) (h 1 (omega arith) (omega arith)) in
    lines-other b (c ∷ text) (false_from_ne_true (eqb b 10) (h 0 (omega arith) (omega arith))) (no_return b (eqb c 10) next)
    ∙ ap (onto_first b) (lines_whole (c ∷ text) (omega arith) (λ k low high. h (suc k) (omega arith) (omega arith)))

-- a line that ends at its second byte
pub two : (b : ℕ) (text : List ℕ) → eqb b 10 ≡ false → (t : Bool) → eqb b 13 ≡ t → lines_in (b ∷ 10 ∷ text) ≡ bare (b ∷ []) ∷ lines_in text
two b text feed true e = lines-return b (10 ∷ text) feed (rw e refl) ∙ lines-feed 10 text refl ∙ rw e refl
two b text feed false e = lines-other b (10 ∷ text) feed (rw e refl) ∙ ap (onto_first b) (lines-feed 10 text refl) ∙ rw e refl

-- the first line feed ends the first line
lines_of-at : (text : List ℕ) (at : ℕ) → NoneBefore (Passes (is_byte 10) text) 0 (length text) at × Passes (is_byte 10) text at
    → lines_in text ≡ bare (take at text) ∷ lines_in (drop (suc at) text)
lines_of-at [] at h = let none = h.0.high in absurd (omega arith)
lines_of-at (b ∷ text) zero h = lines-feed b text h.1
lines_of-at (b ∷ []) (suc at) h = let none = h.0.high in absurd (omega arith)
lines_of-at (b ∷ c ∷ text) (suc zero) h =
    let feed : c ≡ 10 = eqb-true c 10 h.1 in
    rw feed (two b text (false_from_ne_true (eqb b 10) (h.0.before 0 (omega arith) (omega arith))) (eqb b 13) refl)
lines_of-at (b ∷ c ∷ text) (suc (suc at)) h =
    let next = false_from_ne_true (eqb c 10) (h.0.before 1 (omega arith) (omega arith)) in
    lines-other b (c ∷ text) (false_from_ne_true (eqb b 10) (h.0.before 0 (omega arith) (omega arith))) (no_return b (eqb c 10) next)
    ∙ ap (onto_first b) (lines_of-at (c ∷ text) (suc at) (later 10 b (c ∷ text) (suc at) h.0, h.1))

pub lines_at : (text : List ℕ) (at : ℕ) → NoneBefore (Passes (is_byte 10) text) 0 (length text) at × Passes (is_byte 10) text at
    → lines_in text ≡ bare (take at text) ∷ lines_in (drop (at + 1) text)
lines_at text at h = rw add-one (lines_of-at text at h)

-- no text, no lines
pub no_lines : (text : List ℕ) → length text ≡ 0 → lines_in text ≡ []
no_lines [] h = lines-none
no_lines (b ∷ text) h = absurd (omega arith)

-- the CR at the end of a line
pub bare-return : (line : List ℕ) → pointwise eqb (drop (length line - 1) line) (13 ∷ []) ≡ true → bare line ≡ take (length line - 1) line
bare-return [] h = absurd cc
bare-return (b ∷ []) h = let is = and_parts (eqb b 13) true h in rw is.0 refl
bare-return (b ∷ c ∷ line) h =
    let e : length (b ∷ c ∷ line) - 1 ≡ suc (length (c ∷ line) - 1) = omega arith in
    rw e (ap (λ (l : List ℕ). b ∷ l) (bare-return (c ∷ line) (rw e at h)))

pub bare-other : (line : List ℕ) → pointwise eqb (drop (length line - 1) line) (13 ∷ []) ≡ false → bare line ≡ line
bare-other [] h = refl
bare-other (b ∷ []) h = by (eqb b 13) refl h
  where
    by : (t : Bool) → eqb b 13 ≡ t → (t && true) ≡ false → bare (b ∷ []) ≡ b ∷ []
    by true e h = absurd cc
    by false e h = rw e refl
bare-other (b ∷ c ∷ line) h =
    let e : length (b ∷ c ∷ line) - 1 ≡ suc (length (c ∷ line) - 1) = omega arith in
    ap (λ (l : List ℕ). b ∷ l) (bare-other (c ∷ line) (rw e at h))

-- `strip_suffix` gives the line without it
pub bare_is : (line : List ℕ) (r : Option (Bor (List ℕ))) (x : Bor (List ℕ))
    → MatchOption r (pointwise eqb (drop (length line - 1) line) (13 ∷ []) ≡ false) (λ x. (pointwise eqb (drop (length line - 1) line) (13 ∷ []) ≡ true) × (x.now ≡ take (length line - 1) line) × (length x.now + 1 ≡ length line))
    → x.now ≡ line → (unwrap_or r x).now ≡ bare line
bare_is line None x h e = e ∙ sym (bare-other line h)
bare_is line (Some y) x h e = h.1 ∙ sym (bare-return line h.0)

-- a text has a line
pub some_lines : (text : List ℕ) → 0 < length text → 0 < length (lines_in text)
some_lines [] h = absurd (omega arith)
some_lines (b ∷ text) h = by (eqb b 10) refl (eqb b 13 && begins_with 10 text) refl
  where
    onto : (ls : List (List ℕ)) → 0 < length (onto_first b ls)
    onto [] = omega arith
    onto (l ∷ ls) = omega arith

    begun : (more : List ℕ) → begins_with 10 more ≡ true → 0 < length (lines_in more)
    begun [] e = absurd cc
    begun (c ∷ more) e = rw (lines-feed c more e) (omega arith)

    by : (t : Bool) → eqb b 10 ≡ t → (r : Bool) → (eqb b 13 && begins_with 10 text) ≡ r → 0 < length (lines_in (b ∷ text))
    by true e r f = rw (lines-feed b text e) (omega arith)
    by false e true f = let both = and_parts (eqb b 13) (begins_with 10 text) f in rw (lines-return b text e f) (begun text both.1)
    by false e false f = rw (lines-other b text e f) (onto (lines_in text))
