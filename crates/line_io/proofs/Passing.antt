-- How a text goes to a sink, piece by piece.
use Rattle.std.proofs.Common.{ℕ, List, [], ◌++◌, Option, refl, sym, ap, ◌∙◌, append_assoc, append-nil}
use Rattle.std.specs.Io.KnownBytes.{Appends}
use Rattle.std.proofs.KnownBytes.{Appends-nil, Appends-trans}
use Rattle.line_io.specs.Passes.{Passes}

-- nothing has gone
pub Passes-none : (a : Option (List ℕ)) (text : List ℕ) → Passes a a text text
Passes-none a text = record { front = []; sink = Appends-nil a; whole = refl }

-- all has gone
pub Passes-all : (a b : Option (List ℕ)) (text : List ℕ) → Appends a b text → Passes a b text []
Passes-all a b text sent = record { front = text; sink = sent; whole = sym (append-nil text) }

-- more text stands behind
pub Passes-more : (a b : Option (List ℕ)) (text rest more : List ℕ) → Passes a b text rest → Passes a b (text ++ more) (rest ++ more)
Passes-more a b text rest more p = record {
  front = p.front;
  sink = p.sink;
  whole = ap (λ (t : List ℕ). t ++ more) p.whole ∙ append_assoc p.front rest more;
}

-- what had not gone passes on
pub Passes-then : (a b c : Option (List ℕ)) (text mid rest : List ℕ) → Passes a b text mid → Passes b c mid rest → Passes a c text rest
Passes-then a b c text mid rest p q = record {
  front = p.front ++ q.front;
  sink = Appends-trans a b c p.front q.front p.sink q.sink;
  whole = p.whole ∙ ap (λ (t : List ℕ). p.front ++ t) q.whole ∙ sym (append_assoc p.front q.front rest);
}

-- what waits passes on together with a piece behind it
pub Passes-put : (a b c : Option (List ℕ)) (text waiting piece rest : List ℕ) → Passes a b text waiting → Passes b c (waiting ++ piece) rest → Passes a c (text ++ piece) rest
Passes-put a b c text waiting piece rest p q = Passes-then a b c _ _ rest (Passes-more a b text waiting piece p) q

-- a front of a text is a front of a longer text
pub Passes-longer : (a b : Option (List ℕ)) (text more : List ℕ) → ((rest : List ℕ) × Passes a b text rest) → (rest : List ℕ) × Passes a b (text ++ more) rest
Passes-longer a b text more p = (p.0 ++ more, Passes-more a b text p.0 more p.1)
