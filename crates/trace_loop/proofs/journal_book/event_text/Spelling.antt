-- The lines of events, in the parts that they are written in.
use Rattle.std.proofs.Common.{◌≡◌, ℕ, List, [], ◌∷◌, ◌++◌, codes, decimal, ap, ◌∙◌, append_assoc, append-nil}
use Rattle.rams_model.specs.Texts.{hex_word, spaced, of_number}
use Rattle.rams_model.specs.Texts.TraceLines.{line_text}
use Rattle.server_hub.specs.declared.HubEvent.TheVariants.{Live, Feedback}
use Rattle.trace_loop.specs.journal_book.Journal.{event_line}

-- a front of its parts, and what stands behind it
fronted : (begun before front word hex nl : List ℕ) → begun ≡ [] → before ≡ 32 ∷ begun → front ≡ word ++ before → (front ++ hex) ++ nl ≡ ((word ++ (32 ∷ [])) ++ hex) ++ nl
fronted begun before front word hex nl none space line =
    ap (λ (t : List ℕ). (t ++ hex) ++ nl) (line ∙ ap (λ (t : List ℕ). word ++ t) (space ∙ ap (λ (t : List ℕ). 32 ∷ t) none))

one_word : (a d hex nl : List ℕ) → ((a ++ (d ++ (32 ∷ []))) ++ hex) ++ nl ≡ (a ++ (d ++ (32 ∷ (hex ++ [])))) ++ nl
one_word a d hex nl = simp (append_assoc, append-nil)

two_words : (a d e hex nl : List ℕ) → ((a ++ ((d ++ (32 ∷ e)) ++ (32 ∷ []))) ++ hex) ++ nl ≡ (a ++ (d ++ (32 ∷ (e ++ (32 ∷ (hex ++ [])))))) ++ nl
two_words a d e hex nl = simp (append_assoc, append-nil)

pub live_line_is : (id : ℕ) (bytes begun before front : List ℕ) → begun ≡ [] → before ≡ 32 ∷ begun → front ≡ (codes "live" ++ spaced id) ++ before
    → (front ++ hex_word bytes) ++ codes "\n" ≡ event_line (Live id bytes)
unfolding event_line line_text
live_line_is id bytes begun before front none space line =
    fronted begun before front (codes "live" ++ spaced id) (hex_word bytes) (codes "\n") none space line
    ∙ one_word (codes "live" ++ (32 ∷ [])) (decimal id) (hex_word bytes) (codes "\n")

pub feedback_line_is : (id client : ℕ) (bytes begun before front : List ℕ) → begun ≡ [] → before ≡ 32 ∷ begun → front ≡ of_number (codes "fb") id client ++ before
    → (front ++ hex_word bytes) ++ codes "\n" ≡ event_line (Feedback id client bytes)
unfolding event_line line_text
feedback_line_is id client bytes begun before front none space line =
    fronted begun before front (of_number (codes "fb") id client) (hex_word bytes) (codes "\n") none space line
    ∙ two_words (codes "fb" ++ (32 ∷ [])) (decimal id) (decimal client) (hex_word bytes) (codes "\n")
