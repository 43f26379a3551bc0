-- Beginnings of histories, and the calls of one list.
use Rattle.std.proofs.Common.{◌≡◌, ℕ, ◌≤◌, List, [], ◌∷◌, ◌++◌, length, refl, sym, ap, ◌∙◌, subst, arith, append_assoc}
use Rattle.std.proofs.lemmas.List.{append-nil, length-append}
use Rattle.std.proofs.lemmas.List.Elements.{filter-append}
use Rattle.rams_model.specs.Service.{Settings}
use Rattle.channel_book.specs.declared.entry.Entry.{Entry}
use Rattle.channel_book.specs.{IsLegal, is_of, calls_by, StartsWith}
use Rattle.channel_book.proofs.Histories.{legal_front}

pub starts_same : (log : List Entry) → StartsWith log log
starts_same log = record { rest = []; is = sym (append-nil log) }

pub starts_empty : (log : List Entry) → StartsWith log []
starts_empty log = record { rest = log; is = refl }

pub starts_more : (log front more : List Entry) → StartsWith log front → StartsWith (log ++ more) front
starts_more log front more st = record { rest = st.rest ++ more; is = ap (λ l. l ++ more) st.is ∙ append_assoc front st.rest more }

pub legal_starts : (s : Settings) (log front : List Entry) → StartsWith log front → IsLegal s log → IsLegal s front
legal_starts s log front st l = legal_front s [] front st.rest (subst (IsLegal s) st.is l)

-- of two beginnings the shorter begins the longer
shorter : (a b ra rb : List Entry) → a ++ ra ≡ b ++ rb → length a ≤ length b → StartsWith b a
shorter [] b ra rb e le = starts_empty b
shorter (x ∷ a) [] ra rb e le = absurd (omega (arith, le))
shorter (x ∷ a) (y ∷ b) ra rb e le =
    let tails : a ++ ra ≡ b ++ rb = cc in
    let heads : x ≡ y = cc in
    let t = shorter a b ra rb tails (omega (arith, le)) in
    record { rest = t.rest; is = λ i. sym heads i ∷ t.is i }

pub starts_shorter : (log a b : List Entry) → StartsWith log a → StartsWith log b → length a ≤ length b → StartsWith b a
starts_shorter log a b sa sb le = shorter a b sa.rest sb.rest (sym sa.is ∙ sb.is) le

no_rest : (xs : List Entry) → length xs ≤ 0 → xs ≡ []
no_rest [] h = refl
no_rest (x ∷ xs) h = absurd (omega (arith, h))

-- ---- the calls of one list

pub calls_append : (list : ℕ) (xs ys : List Entry) → calls_by list (xs ++ ys) ≡ calls_by list xs ++ calls_by list ys
calls_append list xs ys = filter-append (is_of list) xs ys

-- what begins a history and has as many calls of the list has them all
pub calls_between : (list : ℕ) (log middle front : List Entry) → StartsWith log middle → StartsWith middle front → calls_by list log ≡ calls_by list front
    → calls_by list middle ≡ calls_by list front
calls_between list log middle front outer inner same =
    let a = ap (calls_by list) outer.is ∙ calls_append list middle outer.rest in
    let b = ap (calls_by list) inner.is ∙ calls_append list front inner.rest in
    let none : calls_by list inner.rest ≡ [] =
    no_rest (calls_by list inner.rest) (omega (arith, ap length a, length-append (calls_by list middle) (calls_by list outer.rest), ap length b, length-append (calls_by list front) (calls_by list inner.rest), ap length same)) in
    b ∙ ap (λ r. calls_by list front ++ r) none ∙ append-nil (calls_by list front)
