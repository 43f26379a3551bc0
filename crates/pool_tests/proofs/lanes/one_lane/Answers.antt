use Rattle.std.proofs.Common.{◌≡◌, List, [], ◌∷◌, ◌++◌, length, refl, sym, ap, ◌∙◌, subst}
use Rattle.std.specs.Prelude.{All}
use Rattle.std.proofs.lemmas.List.Elements.{All-from_recursion}
use Rattle.pool.specs.declared.pool_run.lane.Lane.{Lane}
use Rattle.pool.specs.pool_run.{IsFresh}
use Rattle.pool_tests.proofs.lanes.one_lane.Goals as goal

single : (none one : List Lane) (a : Lane) → none ≡ [] → one ≡ none ++ a ∷ [] → IsFresh a → All IsFresh one × (length one ≡ 1)
single none one a is_none is_one fresh =
    let are : one ≡ a ∷ [] = is_one ∙ ap (λ (l : List Lane). l ++ a ∷ []) is_none in
    subst (λ (l : List Lane). All IsFresh l × (length l ≡ 1)) (sym are) (All-from_recursion IsFresh (a ∷ []) (fresh, tt), refl)

pub returns : goal.returns
returns g c =
    single c.new-lanes.result.items c.push.new.self.items _ c.new-lanes.ensures.items c.in_ok-push.ensures.items c.in_ok-sends_two.ensures
