-- The texts of what several channels answer, from one on.
use Rattle.std.proofs.Common.{◌≡◌, ℕ, ◌+◌, ◌<◌, ◌≤◌, List, [], ◌++◌, length, get_or, drop, Option, sym, ap, ◌∙◌}
use Rattle.std.proofs.lemmas.List.{drop_more, drop_all}
use Rattle.rams_replay.specs.{at_text}
use Rattle.server_hub.specs.declared.At.{At}
use Rattle.server_hub.specs.Seen.{Seen}
use Rattle.std.specs.List.{flat_map}

-- the text of the answers from one on
pub answers_text-more : (hub : Option Seen) (event : ℕ) (all : List At) (i : ℕ) (at : At) → i < length all → at ≡ get_or all i at
    → flat_map (at_text hub event) (drop i all) ≡ at_text hub event at ++ flat_map (at_text hub event) (drop (i + 1) all)
answers_text-more hub event all i at below is =
    ap (flat_map (at_text hub event)) (drop_more all i at below) ∙ ap (λ x. at_text hub event x ++ flat_map (at_text hub event) (drop (i + 1) all)) (sym is)

pub answers_text-past : (hub : Option Seen) (event : ℕ) (all : List At) (i : ℕ) → length all ≤ i → flat_map (at_text hub event) (drop i all) ≡ []
answers_text-past hub event all i end = ap (flat_map (at_text hub event)) (drop_all i all end)
