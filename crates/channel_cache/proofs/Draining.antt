-- Packets go out of the window into the ring, one after another.
use Rattle.std.proofs.Common.{◌≡◌, ℕ, ◌+◌, ◌^◌, ◌<◌, ◌≤◌, Bool, true, false, ◌||◌, nat_lt, if◌then◌else◌, List, [], ◌∷◌, ◌++◌, drop, length, Some, None, refl, sym, ap, ◌∙◌, subst, append_assoc, arith}
use Rattle.std.proofs.lemmas.Bool.Decides.{nat_tests}
use Rattle.rams_model.specs.declared.Held.{Held}
use Rattle.rams_model.specs.Packets.{hi}
use Rattle.channel_cache.specs.packet_ring.{pushed}
use Rattle.channel_cache.specs.packet_ring.Seen as rings
use Rattle.channel_cache.specs.reorder_window.{Start, released, is_free, free_of, first_free, without, after_release, RisesIn}
use Rattle.channel_cache.specs.reorder_window.Seen as windows
use Rattle.channel_cache.proofs.reorder_window.Rising.{rises_up}
use Rattle.channel_cache.specs.declared.intake.Intake.{Intake}
use Rattle.channel_cache.specs.{packets_of, IsItem, AreItems, IsIntake, Holds}
use Rattle.channel_cache.proofs.Stocking.{pushed_end}

-- The window stands for a start of which some went out, and the ring for a source that these packets end.
pub record IsHolding (window : windows.Seen Held) (ring : rings.Seen) (before : List Held) (s : Start Held) : Type 0 where
  pub out : List (ℕ × Held)
  pub waits : windows.StandsFor window s out
  pub holds : rings.StandsFor ring (before ++ packets_of out)

-- the first goes out, and leaves the others
pub record GoesOut (v w : windows.Seen Held) (e : ℕ × Held) : Type 0 where
  pub first : v.kept ≡ e ∷ w.kept
  pub rest : w ≡ record v { kept = w.kept }
  pub free : is_free v e.0 ≡ true

first_step : (v : windows.Seen Held) (x : ℕ × Held) (es : List (ℕ × Held)) (e : ℕ × Held) (b : Bool) → is_free v x.0 ≡ b → (if b then Some x else None) ≡ Some e → (x ∷ es ≡ e ∷ es) × (is_free v e.0 ≡ true)
first_step v x es e true free is = let same : x ≡ e = cc in (ap (λ (y : ℕ × Held). y ∷ es) same, subst (λ (y : ℕ × Held). is_free v y.0 ≡ true) same free)
first_step v x es e false free is = absurd cc

first_of : (v : windows.Seen Held) (es : List (ℕ × Held)) (e : ℕ × Held) → free_of v es ≡ Some e → (es ≡ e ∷ drop 1 es) × (is_free v e.0 ≡ true)
first_of v [] e is = absurd cc
first_of v (x ∷ es) e is = first_step v x es e (is_free v x.0) refl is

pub goes_out : (v w : windows.Seen Held) (e : ℕ × Held) → first_free v ≡ Some e → w ≡ after_release v → GoesOut v w e
goes_out v w e first step =
    let after : w ≡ record v { kept = drop 1 v.kept } = step ∙ ap (without v) first in
    let kept : w.kept ≡ drop 1 v.kept = ap (λ (x : windows.Seen Held). x.kept) after in
    let parts = first_of v v.kept e first in
    record {
      first = parts.0 ∙ ap (λ (es : List (ℕ × Held)). e ∷ es) (sym kept);
      rest = after ∙ ap (λ (es : List (ℕ × Held)). record v { kept = es }) (sym kept);
      free = parts.1;
    }

-- what is known of the first
pub record IsNext (v : Intake) (w : windows.Seen Held) (e : ℕ × Held) : Type 0 where
  pub above : hi v.stock.ring.held ≤ e.1.n
  pub small : e.1.n < 2 ^ 62
  pub item : IsItem e
  pub behind : RisesIn (e.1.n + 1) (v.window.greatest + 1) w.kept
  pub more : length v.window.kept ≡ length w.kept + 1

free_due : (ended : Bool) (n awaited : ℕ) → (ended || nat_lt n awaited) ≡ true → ended ≡ false → n < awaited
free_due true n awaited free going = absurd cc
free_due false n awaited free going = grind (arith, nat_tests)

pub is_next : (v : Intake) (w : windows.Seen Held) (e : ℕ × Held) → IsIntake v → GoesOut v.window w e → IsNext v w e
is_next v w e intake out =
    let rises : RisesIn (hi v.stock.ring.held) (v.window.greatest + 1) (e ∷ w.kept) = subst (λ (es : List (ℕ × Held)). RisesIn (hi v.stock.ring.held) (v.window.greatest + 1) es) out.first intake.behind in
    let items = subst AreItems out.first intake.items in
    let within = rises_up (e.0 + 1) (v.window.greatest + 1) w.kept rises.1 in
    record {
      above = omega (arith, rises.0, items.0.number);
      small = omega (arith, within, items.0.number, intake.small);
      item = items.0;
      behind = subst (λ (n : ℕ). RisesIn (n + 1) (v.window.greatest + 1) w.kept) items.0.number rises.1;
      more = ap length out.first ∙ omega arith;
    }

-- the window and the ring after that
pub one_out : (v : Intake) (w : windows.Seen Held) (ring : rings.Seen) (total : ℕ) (e : ℕ × Held) → IsIntake v → 1 ≤ v.stock.ring.capacity → GoesOut v.window w e → ring ≡ pushed v.stock.ring e.1
    → IsIntake (record { window = w; stock = record { ring = ring; total = total } })
one_out v w ring total e intake some out step =
    let next = is_next v w e intake out in
    let items = subst AreItems out.first intake.items in
    let ended : w.ended ≡ v.window.ended = ap (λ (x : windows.Seen Held). x.ended) out.rest in
    let awaited : w.awaited ≡ v.window.awaited = ap (λ (x : windows.Seen Held). x.awaited) out.rest in
    let greatest : w.greatest ≡ v.window.greatest = ap (λ (x : windows.Seen Held). x.greatest) out.rest in
    let end : e.1.n + 1 ≡ hi ring.held = sym (ap (λ (r : rings.Seen). hi r.held) step ∙ pushed_end v.stock.ring e.1 some) in
    record {
      behind = subst (λ (n : ℕ). RisesIn n (w.greatest + 1) w.kept) end (subst (λ (g : ℕ). RisesIn (e.1.n + 1) (g + 1) w.kept) (sym greatest) next.behind);
      due = λ going. let due = free_due v.window.ended e.0 v.window.awaited out.free (sym ended ∙ going) in omega (arith, due, end, awaited, items.0.number);
      next = omega (arith, awaited, greatest, intake.next);
      small = omega (arith, greatest, intake.small);
      items = items.1;
    }

pub packets-push : (out : List (ℕ × Held)) (e : ℕ × Held) → packets_of (out ++ e ∷ []) ≡ packets_of out ++ e.1 ∷ []
packets-push [] e = refl
packets-push (x ∷ out) e = ap (λ (hs : List Held). x.1 ∷ hs) (packets-push out e)

-- they stand for one more of the start's packets
pub one_held : (window : windows.Seen Held) (ring ring' : rings.Seen) (before : List Held) (s : Start Held) (out : List (ℕ × Held)) (e : ℕ × Held) → windows.StandsFor window s (out ++ e ∷ [])
    → rings.StandsFor ring' ((before ++ packets_of out) ++ e.1 ∷ []) → IsHolding window ring' before s
one_held window ring ring' before s out e waits holds = record {
  out = out ++ e ∷ [];
  waits = waits;
  holds = subst (λ (l : List Held). rings.StandsFor ring' l) (append_assoc before (packets_of out) (e.1 ∷ []) ∙ ap (λ (l : List Held). before ++ l) (sym (packets-push out e))) holds;
}

-- all went out that may
pub all_out : (v : Intake) (w : windows.Seen Held) (before : List Held) (s : Start Held) (out : List (ℕ × Held)) → w ≡ v.window → out ≡ released v.window.width v.window.ended s
    → windows.StandsFor v.window s out → rings.StandsFor v.stock.ring (before ++ packets_of out) → Holds (record v { window = w }) before s
all_out v w before s out same all waits holds =
    let P : windows.Seen Held → List (ℕ × Held) → Type 0 = λ x l. windows.StandsFor x s l × rings.StandsFor v.stock.ring (before ++ packets_of l) in
    let stood : P v.window (released v.window.width v.window.ended s) = subst (λ (l : List (ℕ × Held)). P v.window l) all (waits, holds) in
    let moved : P w (released w.width w.ended s) = subst (λ (x : windows.Seen Held). P x (released x.width x.ended s)) (sym same) stood in
    record { waits = moved.0; holds = moved.1 }
