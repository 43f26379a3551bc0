-- Words with single spaces between them.
use Rattle.std.proofs.Common.{◌≡◌, ℕ, Bool, true, false, ◌==◌, not, eqb, List, [], ◌∷◌, ◌++◌, refl, sym, ap, ◌∙◌, append-nil}
use Rattle.std.proofs.lemmas.Bool.{and_parts, eqb-true}
use Rattle.std.specs.List.{list_all}
use Rattle.rams_model.specs.Texts.{words_of, text_of, spaced_words, onto_first}
use Rattle.trace_lines.proofs.Cuts.{words_of-other, words_of-space}

-- no space stands in the word
abbrev pub has_no_space : List ℕ → Bool
has_no_space word = list_all (λ b. not (b == 32)) word

other : (b : ℕ) → not (b == 32) ≡ true → ¬ (eqb b 32 ≡ true)
other b h e = cc

-- a word in front of a space
pub word_first : (word rest : List ℕ) → has_no_space word ≡ true → words_of (word ++ 32 ∷ rest) ≡ word ∷ words_of rest
word_first [] rest h = words_of-space 32 rest refl
word_first (b ∷ word) rest h =
    let parts = and_parts (not (b == 32)) (has_no_space word) h in
    words_of-other b (word ++ 32 ∷ rest) (other b parts.0) ∙ ap (onto_first b) (word_first word rest parts.1)

-- a word alone
pub word_last : (word : List ℕ) → has_no_space word ≡ true → words_of word ≡ word ∷ []
unfolding words_of
word_last [] h = refl
word_last (b ∷ word) h =
    let parts = and_parts (not (b == 32)) (has_no_space word) h in
    words_of-other b word (other b parts.0) ∙ ap (onto_first b) (word_last word parts.1)

-- the words of a text that is made of words
pub words_of-text_of : (word : List ℕ) (words : List (List ℕ)) → list_all has_no_space (word ∷ words) ≡ true → words_of (text_of (word ∷ words)) ≡ word ∷ words
words_of-text_of word [] h =
    let parts = and_parts (has_no_space word) true h in
    ap words_of (append-nil word) ∙ word_last word parts.0
words_of-text_of word (next ∷ words) h =
    let parts = and_parts (has_no_space word) (list_all has_no_space (next ∷ words)) h in
    word_first word (text_of (next ∷ words)) parts.0 ∙ ap (λ ws. word ∷ ws) (words_of-text_of next words parts.1)

-- a text has a first word
pub some_words : (bytes : List ℕ) → (word : List ℕ) × (words : List (List ℕ)) × (words_of bytes ≡ word ∷ words)
unfolding words_of
some_words [] = ([], [], refl)
some_words (b ∷ bytes) = by (eqb b 32) refl (some_words bytes)
  where
    by : (t : Bool) → eqb b 32 ≡ t → ((word : List ℕ) × (words : List (List ℕ)) × (words_of bytes ≡ word ∷ words)) → (word : List ℕ) × (words : List (List ℕ)) × (words_of (b ∷ bytes) ≡ word ∷ words)
    by true e s = ([], words_of bytes, words_of-space b bytes e)
    by false e s = (b ∷ s.0, s.1, words_of-other b bytes (λ t. cc) ∙ ap (onto_first b) s.2)

text_onto : (b : ℕ) (words : List (List ℕ)) → text_of (onto_first b words) ≡ b ∷ text_of words
text_onto b [] = refl
text_onto b (word ∷ words) = refl

-- a text is made of its words
pub text_of-words_of : (bytes : List ℕ) → text_of (words_of bytes) ≡ bytes
unfolding words_of
text_of-words_of [] = refl
text_of-words_of (b ∷ bytes) = by (eqb b 32) refl (text_of-words_of bytes)
  where
    behind : (words : List (List ℕ)) (word : List ℕ) (more : List (List ℕ)) → words ≡ word ∷ more → spaced_words words ≡ 32 ∷ text_of words
    behind words word more e = rw e refl

    by : (t : Bool) → eqb b 32 ≡ t → text_of (words_of bytes) ≡ bytes → text_of (words_of (b ∷ bytes)) ≡ b ∷ bytes
    by true e ih =
        let some = some_words bytes in
        let space : b ≡ 32 = eqb-true b 32 e in
        ap text_of (words_of-space b bytes e) ∙ (behind (words_of bytes) some.0 some.1 some.2 ∙ (ap (λ t. 32 ∷ t) ih ∙ ap (λ k. k ∷ bytes) (sym space)))
    by false e ih = ap text_of (words_of-other b bytes (λ t. cc)) ∙ (text_onto b (words_of bytes) ∙ ap (λ t. b ∷ t) ih)
