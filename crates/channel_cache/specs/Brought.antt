-- The packets in time that were brought to a channel, as its definitions have them.
use Rattle.std.specs.Prelude.{◌≡◌, ℕ, false, nat_lt, List, [], ◌∷◌, ◌++◌, filter}
use Rattle.rams_model.specs.declared.{Held.Held, LiveNote.LiveNote, LiveNote.TheVariants.Took, LiveNote.TheVariants.Restart}
use Rattle.rams_model.specs.Packets.{Stream, awaited}
use Rattle.channel_cache.specs.packet_ring.Seen as rings
use Rattle.channel_cache.specs.reorder_window.{items_of, start_of}
use Rattle.channel_cache.specs.reorder_window.Seen as windows
use Rattle.channel_cache.specs.declared.intake.Intake.{Intake}

-- the packets of the present start that need not wait
abbrev pub due : ℕ → List Held → List Held
due width present = filter (λ h. nat_lt h.n (awaited width present)) present

-- The window stands for the packets in time of the present start, of which those went out that need not wait.
abbrev pub Waits : windows.Seen Held → ℕ → List Held → Type 0
Waits v width [] = v.kept ≡ []
Waits v width (h ∷ hs) = (v.ended ≡ false) × windows.StandsFor v (start_of (h ∷ hs)) (items_of (due width (h ∷ hs)))

-- The window stands for the present start, and the ring for the source.
pub record Brings (v : Intake) (s : Stream) : Type 0 where
  pub waits : Waits v.window v.window.width s.present
  pub holds : rings.StandsFor v.stock.ring (s.ended ++ due v.window.width s.present)

-- for a packet that is neither taken nor begins a new start
abbrev pub UnlessTaken : LiveNote → Type 0 → Type 0
UnlessTaken (Took n) p = Unit {0}
UnlessTaken (Restart n) p = Unit {0}
UnlessTaken _ p = p
