-- What stands behind a text.
use Rattle.std.proofs.Common.{◌≡◌, ℕ, ◌+◌, ◌&&◌, Bool, true, false, eqb, List, [], ◌∷◌, ◌++◌, length, take, drop, Option, None, Some, refl, sym, ap, ◌∙◌, eq-eqb}
use Rattle.std.proofs.lemmas.Bool.{and_parts}
use Rattle.std.specs.Cmp.Lexicographic.{pointwise}
use Rattle.std.specs.Prelude.{MatchOption, option_and_then, bytes_eq}
use Rattle.std.specs.Borrow.{Bor}
use Rattle.converters.specs.description_loop.sdp_config.{behind}
use Rattle.converters.specs.description_loop.sdp_config.Attributes.{is_some_and}

-- a line that doesn't begin so
pub behind_none : (text line : List ℕ) → pointwise eqb (take (length text) line) text ≡ false → behind text line ≡ None
behind_none [] line h = absurd cc
behind_none (c ∷ text) [] h = refl
behind_none (c ∷ text) (b ∷ line) h = by (eqb b c) refl (behind_none text line) h
  where
    by : (t : Bool) → eqb b c ≡ t → (pointwise eqb (take (length text) line) text ≡ false → behind text line ≡ None)
        → (t && pointwise eqb (take (length text) line) text) ≡ false → behind (c ∷ text) (b ∷ line) ≡ None
    by true e ih h = rw e (ih h)
    by false e ih h = rw e refl

-- a line that does
pub behind_some : (text line : List ℕ) → pointwise eqb (take (length text) line) text ≡ true → behind text line ≡ Some (drop (length text) line)
behind_some [] line h = refl
behind_some (c ∷ text) [] h = absurd cc
behind_some (c ∷ text) (b ∷ line) h =
    let parts = and_parts (eqb b c) (pointwise eqb (take (length text) line) text) h in
    rw parts.0 (behind_some text line parts.1)

-- one text behind another
pub behind_both : (front text line : List ℕ) → behind (front ++ text) line ≡ option_and_then (behind text) (behind front line)
behind_both [] text line = refl
behind_both (c ∷ front) text [] = refl
behind_both (c ∷ front) text (b ∷ line) = by (eqb b c) refl (behind_both front text line)
  where
    by : (t : Bool) → eqb b c ≡ t → behind (front ++ text) line ≡ option_and_then (behind text) (behind front line)
        → behind ((c ∷ front) ++ text) (b ∷ line) ≡ option_and_then (behind text) (behind (c ∷ front) (b ∷ line))
    by true e ih = rw e ih
    by false e ih = rw e refl

-- what stands behind a text in a line that is it and more
pub behind_itself : (text rest : List ℕ) → behind text (text ++ rest) ≡ Some rest
behind_itself [] rest = refl
behind_itself (c ∷ text) rest = rw (eq-eqb c c refl) (behind_itself text rest)

-- `strip_prefix` gives it
pub stripped : (text line : List ℕ) (r : Option (Bor (List ℕ)))
    → MatchOption r (pointwise eqb (take (length text) line) text ≡ false) (λ x. (pointwise eqb (take (length text) line) text ≡ true) × (x.now ≡ drop (length text) line) × (length x.now + length text ≡ length line))
    → MatchOption r (behind text line ≡ None) (λ rest. behind text line ≡ Some rest.now)
stripped text line None h = behind_none text line h
stripped text line (Some x) h = behind_some text line h.0 ∙ ap Some (sym h.1)

-- nothing stands behind two texts where nothing does behind the first
pub none_behind : (front text line : List ℕ) (r : Option (Bor (List ℕ))) → behind front line ≡ None → r ≡ None
    → MatchOption r (behind (front ++ text) line ≡ None) (λ rest. behind (front ++ text) line ≡ Some rest.now)
none_behind front text line r h e = rw e (behind_both front text line ∙ ap (option_and_then (behind text)) h)

-- and else what does behind the second
pub rest_behind : (front text same line rest : List ℕ) (r : Option (Bor (List ℕ))) → same ≡ text → behind front line ≡ Some rest
    → MatchOption r (behind same rest ≡ None) (λ x. behind same rest ≡ Some x.now)
    → MatchOption r (behind (front ++ text) line ≡ None) (λ x. behind (front ++ text) line ≡ Some x.now)
rest_behind front text same line rest None e h is = behind_both front text line ∙ ap (option_and_then (behind text)) h ∙ ap (λ (t : List ℕ). behind t rest) (sym e) ∙ is
rest_behind front text same line rest (Some x) e h is = behind_both front text line ∙ ap (option_and_then (behind text)) h ∙ ap (λ (t : List ℕ). behind t rest) (sym e) ∙ is

-- a line is a text and another where the other stands behind the first
pub equal_behind : (front text line : List ℕ) → bytes_eq line (front ++ text) ≡ is_some_and (λ rest. bytes_eq rest text) (behind front line)
equal_behind [] text line = refl
equal_behind (c ∷ front) text [] = refl
equal_behind (c ∷ front) text (b ∷ line) = by (eqb b c) refl (equal_behind front text line)
  where
    by : (t : Bool) → eqb b c ≡ t → bytes_eq line (front ++ text) ≡ is_some_and (λ rest. bytes_eq rest text) (behind front line)
        → bytes_eq (b ∷ line) ((c ∷ front) ++ text) ≡ is_some_and (λ rest. bytes_eq rest text) (behind (c ∷ front) (b ∷ line))
    by true e ih = rw e ih
    by false e ih = rw e refl
