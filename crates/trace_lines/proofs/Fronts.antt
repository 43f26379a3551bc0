-- The bytes in front of a line, up to its first space.
use Rattle.std.proofs.Common.{◌≡◌, ℕ, true, List, ◌∷◌, ◌++◌, take, drop, codes, bytes_eq, refl, sym, ap, ◌∙◌}
use Rattle.std.proofs.lemmas.List.{take-append-drop}
use Rattle.rams_model.specs.Texts.{words_of}
use Rattle.trace_lines.proofs.Joins.{word_first}
use Rattle.trace_lines.proofs.Spelled.{is_word}

behind : (bytes front rest : List ℕ) (n : ℕ) → bytes_eq (take n bytes) front ≡ true → rest ≡ drop n bytes → bytes ≡ front ++ rest
behind bytes front rest n e r =
    sym (take-append-drop n bytes) ∙ (ap (λ (l : List ℕ). l ++ drop n bytes) (is_word (take n bytes) front e) ∙ ap (λ (l : List ℕ). front ++ l) (sym r))

pub behind_live : (bytes rest : List ℕ) → bytes_eq (take 5 bytes) (codes "live ") ≡ true → rest ≡ drop 5 bytes → words_of bytes ≡ codes "live" ∷ words_of rest
behind_live bytes rest e r = ap words_of (behind bytes (codes "live ") rest 5 e r) ∙ word_first (codes "live") rest refl

pub behind_fb : (bytes rest : List ℕ) → bytes_eq (take 3 bytes) (codes "fb ") ≡ true → rest ≡ drop 3 bytes → words_of bytes ≡ codes "fb" ∷ words_of rest
behind_fb bytes rest e r = ap words_of (behind bytes (codes "fb ") rest 3 e r) ∙ word_first (codes "fb") rest refl

pub behind_give : (bytes rest : List ℕ) → bytes_eq (take 5 bytes) (codes "give ") ≡ true → rest ≡ drop 5 bytes → words_of bytes ≡ codes "give" ∷ words_of rest
behind_give bytes rest e r = ap words_of (behind bytes (codes "give ") rest 5 e r) ∙ word_first (codes "give") rest refl
