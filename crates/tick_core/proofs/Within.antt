-- The packets that a ring holds, by their numbers.
use Rattle.std.proofs.Common.{◌≡◌, ℕ, ◌-◌, ◌<◌, ◌≤◌, true, List, [], ◌∷◌, inl, inr, Option, Some, None, IsSome, is_some, refl, ap, sym, ◌∙◌, subst, arith, leb, ltb}
use Rattle.std.proofs.lemmas.Bool.{lt-leb, lt-ltb, le-ltb, cases_lt}
use Rattle.rams_model.specs.declared.Held.{Held}
use Rattle.rams_model.specs.Packets.{lo, hi}
use Rattle.rams_model.specs.Service.{Wanted}
use Rattle.channel_cache.specs.packet_ring.{packet_of, IsRing}
use Rattle.channel_cache.specs.packet_ring.Seen.{Seen}
use Rattle.channel_cache.proofs.packet_ring.Following.{found_at, none_below, is_there}
use Rattle.repair_queue.specs.{AreFrom}
use Rattle.tick_core.specs.{AreHeld}

-- a packet of a number within the ring is there, and none of a number outside
is_within : (v : Seen) (n : ℕ) → IsRing v → lo v.held ≤ n → n < hi v.held → IsSome (packet_of n v.held)
is_within v n ring above below = subst IsSome (found_at v n ring above) ((is_there v.held (n - lo v.held)).1 (omega (arith, ring.ends)))

none_there : (o : Option Held) → (IsSome o → ⊥) → o ≡ None
none_there None not_there = refl
none_there (Some h) not_there = absurd (not_there refl)

none_above : (v : Seen) (n : ℕ) → IsRing v → lo v.held ≤ n → hi v.held ≤ n → packet_of n v.held ≡ None
none_above v n ring above past =
    none_there (packet_of n v.held) (λ some. let within = (is_there v.held (n - lo v.held)).0 (subst IsSome (sym (found_at v n ring above)) some) in omega (arith, within, ring.ends))

pub some_there : (o : Option Held) → IsSome o → true ≡ is_some o
some_there None some = cc
some_there (Some h) some = refl

-- it is told by its number
pub told_above : (v : Seen) (n m e : ℕ) → IsRing v → m ≡ lo v.held → e ≡ hi v.held → m ≤ n → ltb n e ≡ is_some (packet_of n v.held)
told_above v n m e ring low high above = elim (cases_lt n e) [
  | inl within ↦ lt-ltb n e within ∙ some_there (packet_of n v.held) (is_within v n ring (omega (arith, above, low)) (omega (arith, within, high)))
  | inr past ↦ le-ltb n e past ∙ sym (ap is_some (none_above v n ring (omega (arith, above, low)) (omega (arith, past, high))))
]

pub told_below : (v : Seen) (n m : ℕ) → IsRing v → m ≡ lo v.held → n < m → leb m n ≡ is_some (packet_of n v.held)
told_below v n m ring low below = lt-leb m n below ∙ sym (ap is_some (none_below v n ring (omega (arith, below, low))))

-- all are there whose numbers are within it
pub all_there : (v : Seen) (m e : ℕ) (ws : List Wanted) → IsRing v → m ≡ lo v.held → e ≡ hi v.held → AreFrom m e ws → AreHeld v.held ws
all_there v m e [] ring low high from = tt
all_there v m e (w ∷ ws) ring low high from = (is_within v w.n ring (omega (arith, low, from.0.0)) (omega (arith, high, from.0.1)), all_there v m e ws ring low high from.1)
