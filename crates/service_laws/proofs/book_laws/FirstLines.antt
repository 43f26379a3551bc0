-- The first line of a table that applies: how it is found, and that there is one.
use Rattle.std.proofs.Common.{◌≡◌, List, [], ◌∷◌, ◌++◌, refl, ap, sym, ◌∙◌, subst}
use Rattle.service_laws.specs.book_laws.{NoneApplies, IsFirst}

pub first_here : {Line : Type 0} (Applies : Line → Type 0) (line : Line) (lines : List Line) → Applies line → IsFirst Applies (line ∷ lines) line
first_here Applies line lines a = record { earlier = []; later = lines; splits = refl; none = tt; applies = a }

pub first_later : {Line : Type 0} (Applies : Line → Type 0) (other : Line) (lines : List Line) (line : Line) → ¬ Applies other → IsFirst Applies lines line
    → IsFirst Applies (other ∷ lines) line
first_later {Line} Applies other lines line n f = record {
  earlier = other ∷ f.earlier;
  later = f.later;
  splits = ap (λ (l : List Line). other ∷ l) f.splits;
  none = (n, f.none);
  applies = f.applies;
}

-- two lines of a table that both apply first are one
meet : {Line : Type 0} (Applies : Line → Type 0) (one other : Line) (before after fore rest : List Line) → before ++ one ∷ after ≡ fore ++ other ∷ rest
    → NoneApplies Applies before → NoneApplies Applies fore → Applies one → Applies other → one ≡ other
meet Applies one other [] after [] rest same n m a b = cc
meet {Line} Applies one other [] after (l ∷ fore) rest same n m a b = let is : one ≡ l = cc in absurd (m.0 (subst Applies is a))
meet {Line} Applies one other (l ∷ before) after [] rest same n m a b = let is : other ≡ l = cc in absurd (n.0 (subst Applies is b))
meet Applies one other (l ∷ before) after (j ∷ fore) rest same n m a b =
    let tails : before ++ one ∷ after ≡ fore ++ other ∷ rest = cc in meet Applies one other before after fore rest tails n.1 m.1 a b

pub one_first : {Line : Type 0} (Applies : Line → Type 0) (table : List Line) (one other : Line) → IsFirst Applies table one → IsFirst Applies table other → one ≡ other
one_first Applies table one other f g =
    meet Applies one other f.earlier f.later g.earlier g.later (sym f.splits ∙ g.splits) f.none g.none f.applies g.applies
