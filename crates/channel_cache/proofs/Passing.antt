-- A packet goes by the window into the ring.
use Rattle.std.proofs.Common.{◌≡◌, ℕ, ◌^◌, ◌<◌, ◌≤◌, List, [], ◌∷◌, ◌++◌, length, refl, sym, ap, ◌∙◌, subst, append_assoc, arith}
use Rattle.rams_model.specs.declared.Held.{Held}
use Rattle.channel_cache.specs.packet_ring.{pushed}
use Rattle.channel_cache.specs.packet_ring.Seen as rings
use Rattle.channel_cache.specs.declared.{reorder_window.window.Came.TheVariants.Kept, intake.Intake.Intake}
use Rattle.channel_cache.specs.reorder_window.{Start, start_after, released, keeping, came_of, GoesBy, WentBy}
use Rattle.channel_cache.specs.reorder_window.Seen as windows
use Rattle.channel_cache.specs.{IsWhole, packets_of, IsIntake, IsSettled, Holds}
use Rattle.channel_cache.proofs.Placing.{kept_intake, kept_more}
use Rattle.channel_cache.proofs.Draining.{GoesOut, goes_out, IsNext, is_next, one_out, packets-push}

-- it is kept, and goes out
pub by_out : (v : windows.Seen Held) (w : windows.Seen Held) (h : Held) → GoesBy v w h.n h → GoesOut (keeping v h.n h) w (h.n, h)
by_out v w h by = goes_out (keeping v h.n h) w (h.n, h) by.first by.rest

pub by_intake : (v : Intake) (h : Held) → IsSettled v → h.n < 2 ^ 62 → IsWhole h → came_of v.window h.n ≡ Kept → IsIntake (record { window = keeping v.window h.n h; stock = v.stock })
by_intake v h settled small whole kept = kept_intake v (keeping v.window h.n h) h settled.lawful settled.going small whole kept refl

-- what is known of it
pub by_next : (v : Intake) (w : windows.Seen Held) (h : Held) → IsSettled v → h.n < 2 ^ 62 → IsWhole h → GoesBy v.window w h.n h → IsNext (record { window = keeping v.window h.n h; stock = v.stock }) w (h.n, h)
by_next v w h settled small whole by =
    is_next (record { window = keeping v.window h.n h; stock = v.stock }) w (h.n, h) (by_intake v h settled small whole by.came) (by_out v.window w h by)

-- how many wait is as before
pub by_same : (v : windows.Seen Held) (w : windows.Seen Held) (h : Held) → GoesBy v w h.n h → length w.kept ≡ length v.kept
by_same v w h by = omega (arith, kept_more v (keeping v h.n h) h refl, ap length (by_out v w h by).first)

pub by_settled : (v : Intake) (w : windows.Seen Held) (ring : rings.Seen) (total : ℕ) (h : Held) → IsSettled v → h.n < 2 ^ 62 → IsWhole h → 1 ≤ v.stock.ring.capacity → GoesBy v.window w h.n h → ring ≡ pushed v.stock.ring h
    → IsSettled (record { window = w; stock = record { ring = ring; total = total } })
by_settled v w ring total h settled small whole some by step =
    let out = by_out v.window w h by in
    record {
      lawful = one_out (record { window = keeping v.window h.n h; stock = v.stock }) w ring total (h.n, h) (by_intake v h settled small whole by.came) some out step;
      going = ap (λ (x : windows.Seen Held). x.ended) out.rest ∙ settled.going;
      settled = by.settled;
    }

-- whichever packets came in time before it
pub by_holds : (v : Intake) (w : windows.Seen Held) (ring : rings.Seen) (total : ℕ) (h : Held) (before : List Held) (s : Start Held) → GoesBy v.window w h.n h
    → WentBy v.window w h.n h s (released v.window.width v.window.ended s) → rings.StandsFor ring ((before ++ packets_of (released v.window.width v.window.ended s)) ++ h ∷ [])
    → Holds (record { window = w; stock = record { ring = ring; total = total } }) before (start_after s h.n h Kept)
by_holds v w ring total h before s by went holds =
    let out : List (ℕ × Held) = released v.window.width v.window.ended s in
    let e : ℕ × Held = (h.n, h) in
    let t : Start Held = start_after s h.n h Kept in
    let joined = append_assoc before (packets_of out) (h ∷ []) ∙ ap (λ (l : List Held). before ++ l) (sym (packets-push out e)) in
    record {
      waits = subst (λ (l : List (ℕ × Held)). windows.StandsFor w t l) went.all went.stands;
      holds = subst (λ (l : List (ℕ × Held)). rings.StandsFor ring (before ++ packets_of l)) went.all (subst (λ (l : List Held). rings.StandsFor ring l) joined holds);
    }
