-- A loop that drafts, by what its draft stands for.
use Rattle.std.proofs.Common.{◌≡◌, sym, ◌∙◌, subst}
use Rattle.tick_draft.specs.{Drafted}

-- What is left to be noted leads from the new draft to the end to which all of it leads from the old one.
abbrev pub Leads : {V : Type 0} → (V → Drafted → Type 0) → (Drafted → Drafted) → (Drafted → Drafted) → V → V → Type 0
Leads shows all rest old new = (d : Drafted) → shows old d → (f : Drafted) × shows new f × (rest f ≡ all d)

pub at_start : {V : Type 0} (shows : V → Drafted → Type 0) (all rest : Drafted → Drafted) (old : V) → ((d : Drafted) → rest d ≡ all d) → Leads shows all rest old old
at_start shows all rest old same = λ d shown. (d, shown, same d)

pub at_turn : {V : Type 0} (shows : V → Drafted → Type 0) (all rest later turn : Drafted → Drafted) (old new more : V) → Leads shows all rest old new → ((f : Drafted) → shows new f → shows more (turn f)) → ((f : Drafted) → later (turn f) ≡ rest f)
    → Leads shows all later old more
at_turn shows all rest later turn old new more leads made same = λ d shown.
    let now = leads d shown in
    (turn now.0, made now.0 now.1, same now.0 ∙ now.2)

pub at_end : {V : Type 0} (shows : V → Drafted → Type 0) (all rest : Drafted → Drafted) (old new : V) → Leads shows all rest old new → ((f : Drafted) → rest f ≡ f) → (d : Drafted) → shows old d → shows new (all d)
at_end shows all rest old new leads none d shown =
    let now = leads d shown in
    subst (shows new) (sym (none now.0) ∙ now.2) now.1
