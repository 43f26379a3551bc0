-- Lines put one behind another.
use Rattle.std.proofs.Common.{◌≡◌, ℕ, List, [], ◌∷◌, ◌++◌, refl, sym, ap, ◌∙◌, append_assoc}
use Rattle.converters.specs.description_loop.sdp_config.{joined_lines}

pub joined-append : (front more : List (List ℕ)) → joined_lines (front ++ more) ≡ joined_lines front ++ joined_lines more
joined-append [] more = refl
joined-append (line ∷ front) more =
    ap (λ (l : List ℕ). line ++ (13 ∷ 10 ∷ l)) (joined-append front more)
    ∙ sym (append_assoc line (13 ∷ 10 ∷ joined_lines front) (joined_lines more))

-- the lines of four texts, each put behind the ones before
pub four : (old session media offers repairs : List ℕ) (a b c d : List (List ℕ)) → old ≡ []
    → session ≡ old ++ joined_lines a → media ≡ session ++ joined_lines b → offers ≡ media ++ joined_lines c → repairs ≡ offers ++ joined_lines d
    → repairs ≡ joined_lines (a ++ b ++ c ++ d)
four old session media offers repairs a b c d e h1 h2 h3 h4 =
    h4 ∙ ap (λ (l : List ℕ). l ++ joined_lines d) (h3 ∙ ap (λ (l : List ℕ). l ++ joined_lines c) (h2 ∙ ap (λ (l : List ℕ). l ++ joined_lines b) (h1 ∙ ap (λ (l : List ℕ). l ++ joined_lines a) e)))
    ∙ ap (λ (l : List ℕ). (l ++ joined_lines c) ++ joined_lines d) (sym (joined-append a b))
    ∙ ap (λ (l : List ℕ). l ++ joined_lines d) (sym (joined-append (a ++ b) c))
    ∙ sym (joined-append (a ++ b ++ c) d)

-- lines, and one more put behind them
pub one_more : (old text more : List ℕ) (ls : List (List ℕ)) (line : List ℕ) → text ≡ old ++ joined_lines ls → more ≡ text ++ joined_lines (line ∷ [])
    → more ≡ old ++ joined_lines (ls ++ line ∷ [])
one_more old text more ls line h k =
    k ∙ ap (λ (l : List ℕ). l ++ joined_lines (line ∷ [])) h
    ∙ append_assoc old (joined_lines ls) (joined_lines (line ∷ []))
    ∙ ap (λ (l : List ℕ). old ++ l) (sym (joined-append ls (line ∷ [])))
