-- A last word of hexadecimal digits, whose end isn't looked for.
use Rattle.std.proofs.Common.{◌≡◌, ℕ, Bool, true, false, List, [], ◌∷◌, Option, Some, None, if◌then◌else◌, refl, sym, ap, ◌∙◌, append-nil, option_map}
use Rattle.rams_model.specs.Texts.{words_of, text_of, is_hex, hex_in, one, whole, ◌>>=◌}
use Rattle.trace_lines.specs.{last_hex_in}
use Rattle.trace_lines.proofs.Joins.{some_words, text_of-words_of, word_last}
use Rattle.trace_lines.proofs.Spaces.{in_hex}

-- a word in front of others, where it is hexadecimal digits
abbrev if_hex : Bool → List ℕ → List (List ℕ) → Option (List ℕ × List (List ℕ))
if_hex t word rest = option_map (λ a. (a, rest)) (if t then Some word else None)

pub last_hex_is : (bytes : List ℕ) → last_hex_in (words_of bytes) ≡ hex_in bytes
last_hex_is bytes = by (is_hex bytes) refl
  where
    one_word : (word : List ℕ) (words : List (List ℕ)) → words_of bytes ≡ word ∷ words → is_hex bytes ≡ false → last_hex_in (word ∷ words) ≡ None
    one_word word [] e other =
        let same : word ≡ bytes = sym (append-nil word) ∙ (ap text_of (sym e) ∙ text_of-words_of bytes) in
        rw (same, other) refl
    one_word word (next ∷ words) e other = ended (is_hex word)
      where
        ended : (t : Bool) → (if_hex t word (next ∷ words) >>= (λ hex. whole hex.0 hex.1)) ≡ None
        ended true = refl
        ended false = refl

    by : (t : Bool) → is_hex bytes ≡ t → last_hex_in (words_of bytes) ≡ hex_in bytes
    by true hex = rw (word_last bytes (in_hex bytes hex), hex) refl
    by false other =
        let some = some_words bytes in
        rw (some.2, other) (one_word some.0 some.1 some.2 other)

-- what is made of the word
pub hex_ends : {A : Type 0} (f : List ℕ → A) (words : List (List ℕ)) → (one hex_in words >>= (λ hex. whole (f hex.0) hex.1)) ≡ option_map f (last_hex_in words)
hex_ends f [] = refl
hex_ends {A} f (word ∷ []) = by (is_hex word)
  where
    by : (t : Bool) → (if_hex t word [] >>= (λ hex. whole (f hex.0) hex.1)) ≡ option_map f (if_hex t word [] >>= (λ hex. whole hex.0 hex.1))
    by true = refl
    by false = refl
hex_ends {A} f (word ∷ next ∷ words) = by (is_hex word)
  where
    by : (t : Bool) → (if_hex t word (next ∷ words) >>= (λ hex. whole (f hex.0) hex.1)) ≡ option_map f (if_hex t word (next ∷ words) >>= (λ hex. whole hex.0 hex.1))
    by true = refl
    by false = refl
