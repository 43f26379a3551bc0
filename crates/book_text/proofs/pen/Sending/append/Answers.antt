-- The pieces are the two lines, and what is in front of the sending is taken away again.
use Rattle.std.proofs.Common.{◌≡◌, ◌+◌, ◌<◌, ◌≤◌, List, ℕ, [], ◌∷◌, ◌++◌, OnOk, OnErr, length, decimal, vec_capacity, ap, sym, ◌∙◌, subst}
use Rattle.std.specs.Prelude.{codes}
use Rattle.rams_model.specs.Texts.{spaced, note_words, hex_word, note_line, send_line}
use Rattle.book_text.proofs.Lines.{told, kept_is}
use Rattle.book_text.proofs.pen.Sending.append.Goals as goal

joins : (c : goal.After-self-1) → c.piece.new.self ++ hex_word c.args.bytes.now ++ (10 ∷ [])
    ≡ note_line c.args.self.now.event c.args.self.now.id c.args.note.now ++ send_line c.args.self.now.event c.args.self.now.id c.args.self.now.client c.args.bytes.now
joins c =
    let front = c.args.front.now in
    let sending = c.args.self.now in
    let spelled = front.spelled ∙ ap (λ n. decimal n ++ spaced front.id ++ codes " ") (sym c.requires.event) ∙ ap (λ n. decimal sending.event ++ spaced n ++ codes " ") (sym c.requires.id) in
    let lines = c.piece.ensures ∙ ap (λ (l : List ℕ). front.piece ++ l) c.words.ensures.line ∙ ap (λ (l : List ℕ). front.piece ++ (note_words c.args.note.now ++ l)) sending.begun in
    ap (λ (l : List ℕ). l ++ hex_word c.args.bytes.now ++ (10 ∷ [])) lines
    ∙ told sending.event sending.id sending.client c.args.note.now c.args.bytes.now front.piece spelled

-- what is left is what stood there before
left : (c : goal.After-keep) → c.keep.new.self ≡ c.args.self.now.lines
left c =
    let in_front = c.piece.ensures ∙ ap (λ (l : List ℕ). c.args.front.now.piece ++ l) c.words.ensures.line in
    c.keep.ensures ∙ kept_is c.args.front.now.piece (note_words c.args.note.now) c.args.self.now.lines c.piece.new.self c.len-kept.result in_front c.len-kept.ensures

pub invariant_of-self-clause-begun : goal.invariant_of-self-clause-begun
invariant_of-self-clause-begun c = left c ∙ c.args.self.now.begun

pub invariant_of-self-clause-few : goal.invariant_of-self-clause-few
invariant_of-self-clause-few c = subst (λ (l : List ℕ). length l ≤ 69) (sym (left c)) c.args.self.now.few

pub returns-clause-text : goal.returns-clause-text
returns-clause-text c =
    let call = c.append_with_hex-appended in
    subst (λ (l : List ℕ). OnOk call.result (call.new.text.items ≡ c.args.text.now.items ++ l)) (joins c) call.ensures.text

pub returns-clause-full : goal.returns-clause-full
returns-clause-full c =
    let call = c.append_with_hex-appended in
    subst (λ (l : List ℕ). OnErr call.result (vec_capacity c.args.text.now < length c.args.text.now.items + length l)) (joins c) call.ensures.full
