-- The lines of what is said of an event, part by part.
use Rattle.std.proofs.Common.{◌≡◌, ℕ, ◌+◌, ◌≤◌, List, [], ◌++◌, length, take, drop, sym, ap, ap₂, ◌∙◌}
use Rattle.std.proofs.lemmas.Grind.{flat_map-append}
use Rattle.std.proofs.lemmas.List.{take-append-drop, drop-drop, drop_all}
use Rattle.meet_loop.specs.declared.world_laws.world.WorldNote.{WorldNote}
use Rattle.meet_loop.specs.world_text.{notes_lines, world_line}

pub notes_lines-split : (event : ℕ) (notes part : List WorldNote) (written : ℕ) → part ≡ take (length part) (drop written notes)
    → notes_lines event (drop written notes) ≡ notes_lines event part ++ notes_lines event (drop (written + length part) notes)
unfolding notes_lines
notes_lines-split event notes part written those =
    let left = drop written notes in
    let count = length part in
    ap (notes_lines event) (sym (take-append-drop count left))
    ∙ flat_map-append (world_line event) (take count left) (drop count left)
    ∙ ap₂ (λ (a b : List WorldNote). notes_lines event a ++ notes_lines event b) (sym those) (drop-drop count written notes)

pub notes_lines-past : (event : ℕ) (notes : List WorldNote) (written : ℕ) → length notes ≤ written → notes_lines event (drop written notes) ≡ []
unfolding notes_lines
notes_lines-past event notes written end = ap (notes_lines event) (drop_all written notes end)
