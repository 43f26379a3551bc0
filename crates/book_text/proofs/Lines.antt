-- The two lines of a note and of a datagram, out of the pieces in which they are written.
use Rattle.std.proofs.Common.{◌≡◌, ℕ, ◌-◌, List, [], ◌∷◌, ◌++◌, decimal, length, drop, ap, sym, ◌∙◌, append_assoc, length-append, arith}
use Rattle.std.proofs.lemmas.List.{drop_at}
use Rattle.std.specs.Prelude.{codes}
use Rattle.rams_model.specs.declared.Note.{Note}
use Rattle.rams_model.specs.Texts.{spaced, note_words, hex_word, note_line, send_line}
use Rattle.book_text.specs.{send_front}

-- of the event and the channel the digits, of the client too, the note's words, and the datagram's digits
regroup : (event id client words hex : List ℕ)
    → ((event ++ id ++ codes " ") ++ (words ++ (10 ∷ ((event ++ id ++ codes " ") ++ (codes "send" ++ (client ++ (32 ∷ []))))))) ++ hex ++ (10 ∷ [])
    ≡ (event ++ id ++ codes " " ++ words ++ codes "\n") ++ (event ++ id ++ codes " " ++ (codes "send" ++ client ++ codes " " ++ hex) ++ codes "\n")
regroup event id client words hex = simp append_assoc

pub told : (event id client : ℕ) (note : Note) (bytes front : List ℕ) → front ≡ decimal event ++ spaced id ++ codes " "
    → (front ++ (note_words note ++ send_front event id client)) ++ hex_word bytes ++ (10 ∷ []) ≡ note_line event id note ++ send_line event id client bytes
unfolding note_line send_line
told event id client note bytes front e =
    ap (λ (l : List ℕ). (l ++ (note_words note ++ send_front event id client)) ++ hex_word bytes ++ (10 ∷ [])) e
    ∙ regroup (decimal event) (spaced id) (spaced client) (note_words note) (hex_word bytes)

-- what stands behind the words of a note, once they and the front are taken away
pub kept_is : (front words begun lines : List ℕ) (n : ℕ) → lines ≡ front ++ (words ++ begun) → n ≡ length begun → drop (length lines - n) lines ≡ begun
kept_is front words begun lines n is e =
    let p = front ++ words in
    let all : lines ≡ p ++ begun = is ∙ sym (append_assoc front words begun) in
    let long : length p ≡ length lines - n = omega (arith, ap length all, length-append p begun, e) in
    ap (drop (length lines - n)) all ∙ drop_at p begun (length lines - n) long
