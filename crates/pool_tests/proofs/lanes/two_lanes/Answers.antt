use Rattle.std.proofs.Common.{◌≡◌, List, [], ◌∷◌, ◌++◌, length, refl, sym, ap, ◌∙◌, subst}
use Rattle.std.specs.Prelude.{All}
use Rattle.std.proofs.lemmas.List.Elements.{All-from_recursion}
use Rattle.pool.specs.declared.pool_run.lane.Lane.{Lane}
use Rattle.pool.specs.pool_run.{IsFresh}
use Rattle.pool_tests.proofs.lanes.two_lanes.Goals as goal

two : (none one both : List Lane) (a b : Lane) → none ≡ [] → one ≡ none ++ a ∷ [] → both ≡ one ++ b ∷ [] → IsFresh a → IsFresh b → All IsFresh both × (length both ≡ 2)
two none one both a b is_none is_one is_both first second =
    let are : both ≡ a ∷ b ∷ [] = is_both ∙ (ap (λ (l : List Lane). l ++ b ∷ []) (is_one ∙ ap (λ (l : List Lane). l ++ a ∷ []) is_none)) in
    subst (λ (l : List Lane). All IsFresh l × (length l ≡ 2)) (sym are) (All-from_recursion IsFresh (a ∷ b ∷ []) (first, (second, tt)), refl)

pub returns : goal.returns
returns g c =
    two c.new-lanes.result.items c.push.new.self.items c.push-2.new.self.items _ _ c.new-lanes.ensures.items c.in_ok-push.ensures.items c.in_ok-push-2.ensures.items
    c.in_ok-sends_two.ensures c.in_ok-sends_two-2.ensures
