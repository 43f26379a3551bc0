-- Each number is looked at once.
use Rattle.std.proofs.Common.{◌≡◌, ℕ, ◌+◌, ◌-◌, ◌%◌, ◌≤◌, Bool, not, cond, map, take, sym, ap, ◌∙◌, subst, arith}
use Rattle.rams_model.specs.Receiver.{Playing, has_piece, last_number, missing, most_named}
use Rattle.receiver_core.specs.{pieces_of, AreBelow}
use Rattle.receiver_core.proofs.Missing.{least_passing, none_yet, at_most, looked_at_free, looked_at_other, enough}
use Rattle.receiver_core.proofs.Waiting.{rise_from, none_passed}
use Rattle.receiver_core.proofs.window.Window.missing.Goals as goal
use Rattle.receiver_core.proofs.window.Window.missing.Goals.{then-waits_at, else-waits_at+in_ok-push, else-loop-n-test, then-loop-n-test+then-len-eq-MOST_NAMED}

pub loop-n-init : goal.loop-n-init
loop-n-init c = record {
  found = c.new-numbers.ensures.items ∙ none_yet (λ (n : ℕ). not (has_piece n (pieces_of c.self.inside.waits.items))) most_named c.self.inside.next;
  within = omega arith;
  below = none_passed c.self.inside.next c.self.inside.waits.items c.self.invariant;
}

pub waits_at-requires-clause-rise : goal.waits_at-requires-clause-rise
waits_at-requires-clause-rise c = rise_from 0 c.self.inside.next c.self.inside.waits.items (omega arith) c.self.invariant

pub loop-n-preserved : goal.loop-n-preserved
loop-n-preserved c =
    let next = c.self.inside.next in
    let waits = c.self.inside.waits.items in
    let free : ℕ → Bool = λ (n : ℕ). not (has_piece n (pieces_of waits)) in
    let n = c.loop-n.n in
    let numbers = c.loop-n.numbers.items in
    let above : next ≤ n = c.loop-n.auto.n in
    let found = c.loop-n.invariant.found in
    let goes : n + 1 - next ≤ c.last-n-end.result - next = omega (arith, c.loop-n-test.true, above) in
    elim c.if-waits_at.branch [
      | then-waits_at w ↦ record {
        found = ap (λ v. v.items) w.numbers-is ∙ looked_at_other free most_named next numbers n above found (ap not (sym c.waits_at.ensures.waits ∙ w.if-waits_at.true));
        within = goes;
        below = subst (AreBelow (n + 1) waits) (sym w.passed-is) (subst (λ (b : Bool). AreBelow (n + 1) waits (cond b (c.loop-n.passed + 1) c.loop-n.passed)) w.if-waits_at.true c.waits_at.ensures.below);
      }
      | else-waits_at+in_ok-push w ↦ record {
        found = ap (λ v. v.items) w.numbers-is ∙ w.in_ok-push.ensures.items
            ∙ looked_at_free free most_named next numbers n above found (ap not (sym c.waits_at.ensures.waits ∙ w.if-waits_at.false))
            (λ e. c.if-len-eq-MOST_NAMED.false (omega (arith, e, c.len.ensures, c.loop-n.numbers.ok.0)));
        within = goes;
        below = subst (AreBelow (n + 1) waits) (sym w.passed-is) (subst (λ (b : Bool). AreBelow (n + 1) waits (cond b (c.loop-n.passed + 1) c.loop-n.passed)) w.if-waits_at.false c.waits_at.ensures.below);
      }
    ]

pub returns-clause-value : goal.returns-clause-value
returns-clause-value c =
    let next = c.self.inside.next in
    let waits = c.self.inside.waits.items in
    let free : ℕ → Bool = λ (n : ℕ). not (has_piece n (pieces_of waits)) in
    let n = c.loop-n.n in
    let end = c.last-n-end.result in
    let numbers = c.loop-n.numbers.items in
    let found = c.loop-n.invariant.found in
    let all : numbers ≡ map (λ (k : ℕ). k % 65536) (least_passing free most_named next (end - next)) =
    elim c.loop-n-test.branch [
      | else-loop-n-test w ↦
          let same : n - next ≡ end - next = omega (arith, w.loop-n-test.false, c.loop-n.invariant.within) in
          found ∙ ap (λ (k : ℕ). map (λ (j : ℕ). j % 65536) (least_passing free most_named next k)) same
      | then-loop-n-test+then-len-eq-MOST_NAMED w ↦ enough free most_named next numbers n c.loop-n.auto.n found end c.loop-n.invariant.within
          (omega (arith, w.if-len-eq-MOST_NAMED.true, w.len.ensures, c.loop-n.numbers.ok.0))
    ] in
    let last : end ≡ last_number next (pieces_of waits) = c.last-n-end.ensures ∙ ap (λ (p : Playing). last_number p.next p.waits) (sym c.self.view_is) in
    subst (λ (p : Playing). numbers ≡ map (λ (k : ℕ). k % 65536) (take most_named (missing p))) c.self.view_is
    (all ∙ ap (λ (e : ℕ). map (λ (k : ℕ). k % 65536) (least_passing free most_named next (e - next))) last)

pub returns-clause-few : goal.returns-clause-few
returns-clause-few c =
    let next = c.self.inside.next in
    let waits = c.self.inside.waits.items in
    let few = at_most (λ (n : ℕ). not (has_piece n (pieces_of waits))) most_named next c.loop-n.numbers.items c.loop-n.n c.loop-n.auto.n c.loop-n.invariant.found in
    omega (arith, few, c.loop-n.numbers.ok.0)
