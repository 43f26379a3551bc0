-- Steps are done, one after another.
use Rattle.std.proofs.Common.{◌≡◌, ℕ, ◌+◌, ◌<◌, ◌≤◌, List, length, get_or, drop, ap, sym, ◌∙◌, subst}
use Rattle.std.proofs.lemmas.List.{drop_more, drop_all}
use Rattle.tick_draft.specs.declared.step.Step.{Step}
use Rattle.tick_draft.specs.{with_step, with_all_steps, MayDo, MayDoAll}
use Rattle.tick_draft.specs.Committed.{Committed}

-- the next step, and those after it
may_next : (depth : ℕ) (steps : List Step) (i : ℕ) (d : Step) (c : Committed) → i < length steps → MayDoAll depth (drop i steps) c
    → MayDo depth (get_or steps i d) c × MayDoAll depth (drop (i + 1) steps) (with_step depth (get_or steps i d) c)
unfolding MayDoAll
may_next depth steps i d c lt may = subst (λ (l : List Step). MayDoAll depth l c) (drop_more steps i d lt) may

pub may_now : (depth : ℕ) (steps : List Step) (i : ℕ) (d : Step) (c : Committed) → i < length steps → MayDoAll depth (drop i steps) c → MayDo depth (get_or steps i d) c
may_now depth steps i d c lt may = (may_next depth steps i d c lt may).0

pub may_later : (depth : ℕ) (steps : List Step) (i : ℕ) (d : Step) (c c2 : Committed) → i < length steps → c2 ≡ with_step depth (get_or steps i d) c → MayDoAll depth (drop i steps) c → MayDoAll depth (drop (i + 1) steps) c2
may_later depth steps i d c c2 lt made may = subst (MayDoAll depth (drop (i + 1) steps)) (sym made) (may_next depth steps i d c lt may).1

pub one_more : (depth : ℕ) (steps : List Step) (i : ℕ) (d : Step) (c c2 end : Committed) → i < length steps → c2 ≡ with_step depth (get_or steps i d) c → with_all_steps depth (drop i steps) c ≡ end
    → with_all_steps depth (drop (i + 1) steps) c2 ≡ end
unfolding with_all_steps
one_more depth steps i d c c2 end lt made so_far =
    ap (with_all_steps depth (drop (i + 1) steps)) made ∙ (ap (λ (l : List Step). with_all_steps depth l c) (sym (drop_more steps i d lt)) ∙ so_far)

pub no_more : (depth : ℕ) (steps : List Step) (i : ℕ) (c end : Committed) → length steps ≤ i → with_all_steps depth (drop i steps) c ≡ end → c ≡ end
unfolding with_all_steps
no_more depth steps i c end le so_far = ap (λ (l : List Step). with_all_steps depth l c) (sym (drop_all i steps le)) ∙ so_far
