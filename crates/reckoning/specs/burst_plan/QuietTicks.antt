-- The ticks of a burst that is quiet, over plain numbers and the runs that they send: how it catches up.
use Rattle.std.specs.Prelude.{ℕ, ◌+◌, ◌-◌, ◌<◌, ◌≤◌, min, IsFalse, List, [], ◌∷◌, ◌++◌, length, drop, Option}
use Rattle.rams_model.specs.declared.{Held.Held, wire.TheConstants.MOST_ON_WIRE}
use Rattle.rams_model.specs.Packets.{wires, Follows}
use Rattle.rams_model.specs.Service.{join_ticks, run, is_stop}
use Rattle.rams_model.specs.Laws.{IsByStop, ComesNearer, NothingIsLeft}
use Rattle.reckoning.specs.burst_plan.JoinTime.{gain}

-- A burst between two ticks: what a tick may send it, what it may keep, the number of its next packet, what it keeps, and the packets that are held from that number on.
pub record Burst : Type 0 where
  pub rate : ℕ
  pub depth : ℕ
  pub next : ℕ
  pub kept : ℕ
  pub packets : List Held

-- A tick of it: the stop, where one is set, the packets that have joined since the tick before, and what its budget has left as the tick ends.
pub record Tick : Type 0 where
  pub stop : Option ℕ
  pub joined : List Held
  pub left : ℕ

-- what the tick sends, what stays behind, and what the run leaves of the budget
abbrev pub sent : Burst → Tick → List Held
sent b t = run t.stop b.next (b.rate + b.kept) (b.packets ++ t.joined)

abbrev pub unsent : Burst → Tick → List Held
unsent b t = drop (length (sent b t)) (b.packets ++ t.joined)

abbrev pub unspent : Burst → Tick → ℕ
unspent b t = b.rate + b.kept - wires (sent b t)

-- the burst after the tick
abbrev pub after : Burst → Tick → Burst
after b t = record b { next = b.next + length (sent b t); kept = min b.depth t.left; packets = unsent b t }

-- the packets have at most this wire size
abbrev pub AreAtMost : ℕ → List Held → Type 0
AreAtMost size [] = Unit {0}
AreAtMost size (h ∷ hs) = (h.wire ≤ size) × AreAtMost size hs

-- A tick in which nothing is missing and no more than declared joins, after which the burst is open, and whose repairs leave what it may keep where it is still behind.
pub record IsQuiet (declared : ℕ) (b : Burst) (t : Tick) : Type 0 where
  pub follows : Follows b.next (b.packets ++ t.joined)
  pub sizes : AreAtMost MOST_ON_WIRE (b.packets ++ t.joined)
  pub joins : wires t.joined ≤ declared
  pub stops : IsByStop t.stop b.next
  pub is_open : IsFalse (is_stop t.stop (after b t).next)
  pub within : t.left ≤ unspent b t
  pub leaves : 0 < wires (unsent b t) → min b.depth (unspent b t) ≤ t.left

-- each of these ticks, one after another
abbrev pub AreQuiet : ℕ → Burst → List Tick → Type 0
AreQuiet declared b [] = Unit {0}
AreQuiet declared b (t ∷ ts) = IsQuiet declared b t × AreQuiet declared (after b t) ts

-- The burst's rate has room for a packet beside what is declared, and it keeps no more than it may.
pub record IsLawful (declared : ℕ) (b : Burst) : Type 0 where
  pub suffices : declared + MOST_ON_WIRE ≤ b.rate
  pub keeps : b.kept ≤ b.depth

-- the bytes behind and the bytes kept, and those after each tick
abbrev pub pair : Burst → ℕ × ℕ
pair b = (wires b.packets, b.kept)

abbrev pub pairs_after : Burst → List Tick → List (ℕ × ℕ)
pairs_after b [] = []
pairs_after b (t ∷ ts) = pair (after b t) ∷ pairs_after (after b t) ts

-- A quiet tick brings the burst nearer by its gain.
abbrev pub QuietTicksComeNearer : Type 0
QuietTicksComeNearer = (declared : ℕ) (b : Burst) (t : Tick) → IsLawful declared b → IsQuiet declared b t
    → ComesNearer (gain b.rate declared b.depth) (pair b) (pair (after b t))

-- After as many quiet ticks as its join time, and after each later one, nothing is behind.
abbrev pub QuietBurstsKeepTheirJoinTime : Type 0
QuietBurstsKeepTheirJoinTime = (declared : ℕ) (b : Burst) (ts : List Tick) → IsLawful declared b → AreQuiet declared b ts
    → NothingIsLeft (drop (join_ticks (wires b.packets) b.rate declared b.depth) (pair b ∷ pairs_after b ts))

-- no more than so many bytes are behind as each of the ticks begins
abbrev pub AreWithin : ℕ → Burst → List Tick → Type 0
AreWithin most b [] = Unit {0}
AreWithin most b (t ∷ ts) = (wires (b.packets ++ t.joined) ≤ most) × AreWithin most (after b t) ts

-- As each quiet tick begins, no more is behind than at first, with what is declared.
abbrev pub QuietBurstsFallBackNoFurther : Type 0
QuietBurstsFallBackNoFurther = (declared : ℕ) (b : Burst) (ts : List Tick) → IsLawful declared b → AreQuiet declared b ts
    → AreWithin (wires b.packets + declared) b ts
