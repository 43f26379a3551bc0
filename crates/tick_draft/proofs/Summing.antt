-- The sums of steps, notes and orders that stand behind others.
use Rattle.std.proofs.Common.{◌≡◌, ℕ, ◌+◌, ◌≤◌, ◌<◌, cond, List, [], ◌∷◌, ◌++◌, length, get_or, drop, refl, ap, sym, ◌∙◌, arith}
use Rattle.std.specs.Prelude.{sum_by}
use Rattle.std.proofs.lemmas.List.{drop_more, drop_all}
use Rattle.std.proofs.lemmas.List.Sums.{sum_by-append}
use Rattle.rams_model.specs.declared.{Note.Note, Order.Order}
use Rattle.rams_model.specs.Service.{answered, wire_sizes}
use Rattle.rams_model.proofs.WireSizes.{sizes_append}
use Rattle.tick_draft.specs.declared.{sendings.Sendings.Sendings, step.Step.Step, sums.Sums.Sums}
use Rattle.tick_draft.specs.declared.step.Step.TheVariants.{Sent}
use Rattle.tick_draft.specs.{both_sendings, sends, sends_of_burst, ends_burst, sums_in, no_sums, both_sums, step_sums, sums_of, AreSmallSums}

abbrev sums_by : ℕ → ℕ → ℕ → ℕ → Sums
sums_by packets of_bursts ends bytes = record { packets = packets; of_bursts = of_bursts; ends = ends; bytes = bytes }

same_sums : (a b c d e f g h : ℕ) → a ≡ e → b ≡ f → c ≡ g → d ≡ h → sums_by a b c d ≡ sums_by e f g h
same_sums a b c d e f g h packets of_bursts ends bytes = cc

pub none_first : (x : Sums) → both_sums no_sums x ≡ x
none_first x = same_sums (0 + x.packets) (0 + x.of_bursts) (0 + x.ends) (0 + x.bytes) x.packets x.of_bursts x.ends x.bytes (omega arith) (omega arith) (omega arith) (omega arith)

pub none_last : (x : Sums) → both_sums x no_sums ≡ x
none_last x = same_sums (x.packets + 0) (x.of_bursts + 0) (x.ends + 0) (x.bytes + 0) x.packets x.of_bursts x.ends x.bytes (omega arith) (omega arith) (omega arith) (omega arith)

both_more : (x y z : Sums) → both_sums (both_sums x y) z ≡ both_sums x (both_sums y z)
both_more x y z =
    let a : (x.packets + y.packets) + z.packets ≡ x.packets + (y.packets + z.packets) = omega arith in
    let b : (x.of_bursts + y.of_bursts) + z.of_bursts ≡ x.of_bursts + (y.of_bursts + z.of_bursts) = omega arith in
    let c : (x.ends + y.ends) + z.ends ≡ x.ends + (y.ends + z.ends) = omega arith in
    let d : (x.bytes + y.bytes) + z.bytes ≡ x.bytes + (y.bytes + z.bytes) = omega arith in
    cc

-- ---- steps behind others
pub steps_joined : (first more : List Step) → sums_of (first ++ more) ≡ both_sums (sums_of first) (sums_of more)
unfolding sums_of
steps_joined [] more = sym (none_first (sums_of more))
steps_joined (step ∷ first) more = ap (both_sums (step_sums step)) (steps_joined first more) ∙ sym (both_more (step_sums step) (sums_of first) (sums_of more))

one_step : (step : Step) → sums_of (step ∷ []) ≡ step_sums step
unfolding sums_of
one_step step = none_last (step_sums step)

-- packets behind others to the same client
pub sums_grown : (steps : List Step) (x y : Sendings) → sums_of (steps ++ Sent (both_sendings x y) ∷ []) ≡ both_sums (sums_of (steps ++ Sent x ∷ [])) (sums_of (Sent y ∷ []))
sums_grown steps x y =
    steps_joined steps (Sent (both_sendings x y) ∷ [])
    ∙ (ap (both_sums (sums_of steps)) (one_step (Sent (both_sendings x y)))
    ∙ (sym (both_more (sums_of steps) (step_sums (Sent x)) (step_sums (Sent y)))
    ∙ (ap (λ (z : Sums). both_sums (both_sums (sums_of steps) z) (step_sums (Sent y))) (sym (one_step (Sent x)))
    ∙ (ap (λ (z : Sums). both_sums z (step_sums (Sent y))) (sym (steps_joined steps (Sent x ∷ [])))
    ∙ ap (both_sums (sums_of (steps ++ Sent x ∷ []))) (sym (one_step (Sent y)))))))

-- one packet, of so many bytes
pub sums_one : (of_burst size : ℕ) → sums_by 1 of_burst 0 (size + 0) ≡ sums_by 1 of_burst 0 (0 + size)
sums_one of_burst size = ap (sums_by 1 of_burst 0) (omega arith)

-- ---- notes and orders behind others
pub answers_joined : (notes later : List Note) (orders others : List Order) → sums_in (answered (notes ++ later) (orders ++ others)) ≡ both_sums (sums_in (answered notes orders)) (sums_in (answered later others))
answers_joined notes later orders others =
    let a = sum_by-append (λ n. cond (sends n) 1 0) notes later in
    let b = sum_by-append (λ n. cond (sends_of_burst n) 1 0) notes later in
    let c = sum_by-append (λ n. cond (ends_burst n) 1 0) notes later in
    let d = ap (sum_by (λ size. size)) (sizes_append orders others) ∙ sum_by-append (λ size. size) (wire_sizes orders) (wire_sizes others) in
    cc

-- ---- steps counted, one after another
pub sum_more : (steps : List Step) (i : ℕ) (d : Step) (x y : Sums) → i < length steps → y ≡ both_sums x (step_sums (get_or steps i d)) → both_sums x (sums_of (drop i steps)) ≡ sums_of steps → both_sums y (sums_of (drop (i + 1) steps)) ≡ sums_of steps
unfolding sums_of
sum_more steps i d x y lt made so_far =
    ap (λ (z : Sums). both_sums z (sums_of (drop (i + 1) steps))) made
    ∙ (both_more x (step_sums (get_or steps i d)) (sums_of (drop (i + 1) steps)) ∙ (ap (λ (l : List Step). both_sums x (sums_of l)) (sym (drop_more steps i d lt)) ∙ so_far))

pub sum_all : (steps : List Step) (i : ℕ) (x : Sums) → length steps ≤ i → both_sums x (sums_of (drop i steps)) ≡ sums_of steps → x ≡ sums_of steps
unfolding sums_of
sum_all steps i x le so_far = sym (none_last x) ∙ (ap (λ (l : List Step). both_sums x (sums_of l)) (sym (drop_all i steps le)) ∙ so_far)

-- a sum of some of the steps is small where that of all is
small_first : (x y z : Sums) → both_sums x y ≡ z → AreSmallSums z → AreSmallSums x
small_first x y z is small = record {
  packets = omega (arith, ap (λ (s : Sums). s.packets) is, small.packets);
  of_bursts = omega (arith, ap (λ (s : Sums). s.of_bursts) is, small.of_bursts);
  ends = omega (arith, ap (λ (s : Sums). s.ends) is, small.ends);
  bytes = omega (arith, ap (λ (s : Sums). s.bytes) is, small.bytes);
}

pub small_next : (steps : List Step) (i : ℕ) (d : Step) (x : Sums) → i < length steps → AreSmallSums (sums_of steps) → both_sums x (sums_of (drop i steps)) ≡ sums_of steps → AreSmallSums (both_sums x (step_sums (get_or steps i d)))
small_next steps i d x lt small so_far = small_first (both_sums x (step_sums (get_or steps i d))) (sums_of (drop (i + 1) steps)) (sums_of steps) (sum_more steps i d x (both_sums x (step_sums (get_or steps i d))) lt refl so_far) small
