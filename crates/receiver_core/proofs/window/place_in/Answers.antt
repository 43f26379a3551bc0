-- A binary search, where the last doesn't tell the place.
use Rattle.std.proofs.Common.{◌≡◌, ◌-◌, ◌<◌, true, false, length, sym, ◌∙◌, subst, arith, rules, slice_index_or}
use Rattle.std.specs.List.Sorted.{IsSearchInRange}
use Rattle.std.proofs.lemmas.List.Sorted.{answers_always}
use Rattle.receiver_core.specs.{IsGap, number_at}
use Rattle.receiver_core.proofs.Waiting.{place_found, behind_last, read_at}
use Rattle.receiver_core.proofs.window.place_in.Goals as goal
use Rattle.receiver_core.proofs.window.place_in.Goals.{in_default-via-in-Some+else-n-last, in_default-via-in_default}

-- the closure gives a packet's number
pub returns-in-Some : goal.returns-in-Some
returns-in-Some c =
    let facts = c.binary_search_by_key.ensures in
    let by_key = facts.position (λ s. s.n) (answers_always _ _ _ (λ f a r g called. search rules)) in
    let within = subst (IsSearchInRange c.binary_search_by_key.result) c.args.waits.now.ok.0 facts.bound in
    place_found c.args.waits.now.items c.args.n c.binary_search_by_key.result c.requires within by_key

pub returns-in_default : goal.returns-in_default
returns-in_default c =
    let waits = c.args.waits.now in
    let n = c.args.n in
    let last : 0 < length waits.items → number_at waits.items (length waits.items - 1) < n = λ some. elim c.in_default.branch [
      | in_default-via-in-Some+else-n-last w ↦
          let here = read_at w.in-Some.last.now waits.items (length waits.items - 1)
          (subst (λ k. w.in-Some.last.now ≡ slice_index_or waits.items (k - 1) w.in-Some.last.now) waits.ok.0 w.in-Some.ensures.lookup) (omega (arith, some)) in
          omega (arith, w.if-n-last.false, here)
      | in_default-via-in_default w ↦ let no : false ≡ true = w.in_default.ensures.variant.1 (omega (arith, some, waits.ok.0)) in absurd cc
    ] in
    subst (IsGap n waits.items) (sym (c.len.ensures ∙ waits.ok.0)) (behind_last waits.items n c.requires last)
