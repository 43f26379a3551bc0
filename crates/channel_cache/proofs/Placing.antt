-- A packet comes into the window, and a start ends.
use Rattle.std.proofs.Common.{◌≡◌, ℕ, ◌+◌, ◌-◌, ◌^◌, ◌<◌, ◌≤◌, max, Bool, true, false, nat_lt, if◌then◌else◌, List, [], ◌∷◌, ◌++◌, length, refl, sym, ap, ◌∙◌, subst, arith}
use Rattle.std.proofs.lemmas.Bool.Decides.{nat_tests}
use Rattle.rams_model.specs.declared.Held.{Held}
use Rattle.rams_model.specs.Packets.{hi}
use Rattle.channel_cache.specs.packet_ring.Seen as rings
use Rattle.channel_cache.specs.declared.{reorder_window.window.Came.TheVariants.Kept, intake.Intake.Intake}
use Rattle.channel_cache.specs.reorder_window.{Start, has_number, with_item, released, keeping, came_of, RisesIn}
use Rattle.channel_cache.specs.reorder_window.Seen as windows
use Rattle.channel_cache.proofs.reorder_window.Passing.{kept_step}
use Rattle.channel_cache.proofs.reorder_window.Rising.{rises-wider, rises-with_item, length-with_item}
use Rattle.channel_cache.proofs.reorder_window.Searches.{next-from, next-end}
use Rattle.channel_cache.specs.{IsWhole, packets_of, IsItem, AreItems, IsIntake}

-- one more item
with_step : (n : ℕ) (h : Held) (e : ℕ × Held) (es : List (ℕ × Held)) (b : Bool) → IsItem (n, h) → AreItems (e ∷ es) → AreItems (with_item n h es) → AreItems (if b then (n, h) ∷ e ∷ es else e ∷ with_item n h es)
with_step n h e es true one all more = (one, all)
with_step n h e es false one all more = (all.0, more)

AreItems-with : (n : ℕ) (h : Held) (es : List (ℕ × Held)) → IsItem (n, h) → AreItems es → AreItems (with_item n h es)
AreItems-with n h [] one all = (one, tt)
AreItems-with n h (e ∷ es) one all = with_step n h e es (nat_lt n e.0) one all (AreItems-with n h es one all.1)

-- a packet that is kept comes behind what is held
pub kept_intake : (v : Intake) (w : windows.Seen Held) (h : Held) → IsIntake v → v.window.ended ≡ false → h.n < 2 ^ 62 → IsWhole h → came_of v.window h.n ≡ Kept → w ≡ keeping v.window h.n h
    → IsIntake (record { window = w; stock = v.stock })
kept_intake v w h intake going small whole kept is =
    let tests = kept_step (nat_lt h.n v.window.awaited) (has_number h.n v.window.kept) kept in
    let above : v.window.awaited ≤ h.n = let t = tests.0 in grind (arith, nat_tests) in
    let held : hi v.stock.ring.held ≤ v.window.awaited = intake.due going in
    let top : ℕ = max v.window.greatest h.n in
    let kept' = with_item h.n h v.window.kept in
    let from : ℕ = max v.window.awaited (top - v.window.width) in
    let rises : RisesIn (hi v.stock.ring.held) (top + 1) kept' =
    rises-with_item (hi v.stock.ring.held) (top + 1) h.n h v.window.kept (rises-wider (hi v.stock.ring.held) (v.window.greatest + 1) (hi v.stock.ring.held) (top + 1) v.window.kept (omega arith) (omega arith) intake.behind)
    tests.1 (omega arith) (omega arith) in
    let within : from ≤ top + 1 = omega (arith, intake.next) in
    let all : IsIntake (record { window = keeping v.window h.n h; stock = v.stock }) = record {
      behind = rises;
      due = λ on. omega (arith, held, next-from from kept');
      next = next-end (hi v.stock.ring.held) (top + 1) from kept' rises within;
      small = omega (arith, intake.small);
      items = AreItems-with h.n h v.window.kept (record { number = refl; whole = whole }) intake.items;
    } in
    subst (λ (x : windows.Seen Held). IsIntake (record { window = x; stock = v.stock })) (sym is) all

pub kept_more : (v w : windows.Seen Held) (h : Held) → w ≡ keeping v h.n h → length w.kept ≡ length v.kept + 1
kept_more v w h is = ap (λ (x : windows.Seen Held). length x.kept) is ∙ length-with_item h.n h v.kept

-- what the end of a start leaves
pub ended_holds : (w : windows.Seen Held) (ring : rings.Seen) (before : List Held) (s : Start Held) → w.ended ≡ true → rings.StandsFor ring (before ++ packets_of (released w.width w.ended s)) → rings.StandsFor ring (before ++ packets_of s.items)
ended_holds w ring before s ended holds = subst (λ (b : Bool). rings.StandsFor ring (before ++ packets_of (released w.width b s))) ended holds
