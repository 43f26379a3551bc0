use Rattle.std.proofs.Common.{◌≡◌, List, [], ◌∷◌, ◌++◌, ◌^◌, ◌≤◌, All, length, ap, ◌∙◌}
use Rattle.std.proofs.lemmas.List.Elements.{All-nil, All-cons, All-same}
use Rattle.std.specs.Global.{Vec}
use Rattle.rams_model.specs.declared.Event.{Event}
use Rattle.thread_tests.proofs.lists.alone.Goals as goal

single : {X : Type 0} (P : X → Type 0) (none one : List X) (x : X) → none ≡ [] → one ≡ none ++ x ∷ [] → P x → All P one
single {X} P none one x is_none is_one holds =
    All-same P one (x ∷ []) (is_one ∙ ap (λ (l : List X). l ++ x ∷ []) is_none) (All-cons P x [] holds (All-nil P))

pub returns-clause-short : goal.returns-clause-short
returns-clause-short c = single (λ (l : Vec Event). length l.items ≤ 2 ^ 34) _ _ _ c.new-lists.ensures.items c.in_ok-push.ensures.items c.requires
