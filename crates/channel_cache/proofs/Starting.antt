-- Packets of a start, as items of the window and as packets of the definitions.
use Rattle.std.proofs.Common.{◌≡◌, ℕ, ◌+◌, ◌<◌, ◌≤◌, ◌⊎◌, max, Bool, true, false, nat_lt, if◌then◌else◌, List, [], ◌∷◌, ◌++◌, length, Option, refl, sym, ap, ◌∙◌, subst, inl, inr, arith}
use Rattle.std.proofs.lemmas.Bool.{cases_lt}
use Rattle.std.proofs.lemmas.Bool.Decides.{nat_tests}
use Rattle.rams_model.specs.declared.{Held.Held, LiveNote.LiveNote}
use Rattle.rams_model.specs.Packets.{Arrival, held_as, with_packet, in_time, stream_after}
use Rattle.channel_cache.specs.packet_ring.Seen as rings
use Rattle.channel_cache.specs.declared.{reorder_window.window.Came.Came, intake.Intake.Intake}
use Rattle.channel_cache.specs.reorder_window.{items_of, start_of, note_of, Start, has_number, came, start_after, released, begun, came_of, arrived}
use Rattle.channel_cache.specs.declared.reorder_window.window.Came.TheVariants.{Kept, Late, Twice}
use Rattle.channel_cache.specs.reorder_window.Seen as windows
use Rattle.channel_cache.proofs.reorder_window.PacketLemmas.{notes_same, grows_same, from_same, released_same}
use Rattle.channel_cache.proofs.reorder_window.Rising.{has-higher}
use Rattle.channel_cache.specs.{packets_of, IsIntake, Holds, due, Brings}

packets_again : (hs : List Held) → packets_of (items_of hs) ≡ hs
packets_again [] = refl
packets_again (h ∷ hs) = ap (λ (l : List Held). h ∷ l) (packets_again hs)

-- what may go out while the start goes on
released_due : (v : windows.Seen Held) (present : List Held) → v.ended ≡ false → released v.width v.ended (start_of present) ≡ items_of (due v.width present)
released_due v present going = ap (λ b. released v.width b (start_of present)) going ∙ released_same v.width present

-- from packets to items
pub brings_holds : (v : Intake) (ended : List Held) (h : Held) (hs : List Held) (kept : Option ℕ) → Brings v (record { ended = ended; present = h ∷ hs; kept = kept }) → Holds v ended (start_of (h ∷ hs))
brings_holds v ended h hs kept brings =
    let out = sym (released_due v.window (h ∷ hs) brings.waits.0) in
    record {
      waits = subst (λ (l : List (ℕ × Held)). windows.StandsFor v.window (start_of (h ∷ hs)) l) out brings.waits.1;
      holds = subst (λ (l : List (ℕ × Held)). rings.StandsFor v.stock.ring (ended ++ packets_of l)) out
          (subst (λ (l : List Held). rings.StandsFor v.stock.ring (ended ++ l)) (sym (packets_again (due v.window.width (h ∷ hs)))) brings.holds);
    }

-- and back
pub holds_brings : (v : Intake) (ended present : List Held) (kept : Option ℕ) → 0 < length present → v.window.ended ≡ false → Holds v ended (start_of present) → Brings v (record { ended = ended; present = present; kept = kept })
holds_brings v ended [] kept some going holds = absurd (omega arith)
holds_brings v ended (h ∷ hs) kept some going holds =
    let out = released_due v.window (h ∷ hs) going in
    record {
      waits = (going, subst (λ (l : List (ℕ × Held)). windows.StandsFor v.window (start_of (h ∷ hs)) l) out holds.waits);
      holds = subst (λ (l : List Held). rings.StandsFor v.stock.ring (ended ++ l)) (packets_again (due v.window.width (h ∷ hs)))
          (subst (λ (l : List (ℕ × Held)). rings.StandsFor v.stock.ring (ended ++ packets_of l)) out holds.holds);
    }

some_step : (new h : Held) (hs : List Held) (b : Bool) → 0 < length (if b then new ∷ h ∷ hs else h ∷ with_packet new hs)
some_step new h hs true = omega arith
some_step new h hs false = omega arith

some_with : (new : Held) (hs : List Held) → 0 < length (with_packet new hs)
some_with new [] = omega arith
some_with new (h ∷ hs) = some_step new h hs (nat_lt new.n h.n)

-- whatever became of a packet of the present start
came_brings : (v : Intake) (width : ℕ) (ended : List Held) (h : Held) (hs : List Held) (kept : Option ℕ) (a : Arrival) (n : ℕ) (c : Came) → v.window.ended ≡ false → note_of n c ≡ in_time width (h ∷ hs) n
    → Holds v ended (start_after (start_of (h ∷ hs)) n (held_as n a) c) → Brings v (stream_after (record { ended = ended; present = h ∷ hs; kept = kept }) a (note_of n c))
came_brings v width ended h hs kept a n Kept going note holds =
    let new = held_as n a in
    let from : h.n ≤ n = from_same width (h ∷ hs) n (sym note) in
    holds_brings v ended (with_packet new (h ∷ hs)) kept (some_with new (h ∷ hs)) going (subst (λ (s : Start Held). Holds v ended s) (sym (grows_same h hs new from)) holds)
came_brings v width ended h hs kept a n Late going note holds = holds_brings v ended (h ∷ hs) kept (omega arith) going holds
came_brings v width ended h hs kept a n Twice going note holds = holds_brings v ended (h ∷ hs) kept (omega arith) going holds

-- a packet of the present start that was placed
pub placed_brings : (v w : Intake) (ended present : List Held) (kept : Option ℕ) (a : Arrival) (n : ℕ) (c : Came) (note : LiveNote) → 0 < length present → w.window.ended ≡ false → note ≡ note_of n c
    → (Holds v ended (start_of present) → (c ≡ came v.window.width (start_of present) n) × Holds w ended (start_after (start_of present) n (held_as n a) c))
    → Brings v (record { ended = ended; present = present; kept = kept })
    → (note ≡ in_time v.window.width present n) × Brings w (stream_after (record { ended = ended; present = present; kept = kept }) a note)
placed_brings v w ended [] kept a n c note some going is placed brings = absurd (omega arith)
placed_brings v w ended (h ∷ hs) kept a n c note some going is placed brings =
    let p = placed (brings_holds v ended h hs kept brings) in
    let answer : note_of n c ≡ in_time v.window.width (h ∷ hs) n = ap (note_of n) p.0 ∙ notes_same v.window.width (h ∷ hs) n in (
      is ∙ answer,
      subst (λ (x : LiveNote). Brings w (stream_after (record { ended = ended; present = h ∷ hs; kept = kept }) a x)) (sym is) (came_brings w v.window.width ended h hs kept a n c going answer p.1),
    )

-- the first packet of a start is kept
begun_step : (late known : Bool) → late ≡ false → known ≡ false → (if late then Late else if known then Twice else Kept) ≡ Kept
begun_step true known isnt none = cc
begun_step false true isnt none = cc
begun_step false false isnt none = refl

pub begun_keeps : (v : windows.Seen Held) (n : ℕ) → v.kept ≡ [] → came_of (begun v n) n ≡ Kept
begun_keeps v n empty = begun_step (nat_lt n n) (has_number n v.kept) (grind (arith, nat_tests)) (ap (λ (es : List (ℕ × Held)). has_number n es) empty)

pub begun_brings : (w : Intake) (before : List Held) (kept : Option ℕ) (a : Arrival) (n : ℕ) (c : Came) → c ≡ Kept → w.window.ended ≡ false → Holds w before (start_after (record { first = n; items = [] }) n (held_as n a) c)
    → Brings w (record { ended = before; present = held_as n a ∷ []; kept = kept })
begun_brings w before kept a n c keeps going holds =
    holds_brings w before (held_as n a ∷ []) kept (omega arith) going (subst (λ (x : Came). Holds w before (start_after (record { first = n; items = [] }) n (held_as n a) x)) keeps holds)

-- all packets of a start that ended are held
pub ended_stands : (v : Intake) (ring : rings.Seen) (ended present : List Held) (kept : Option ℕ) → 0 < length present → Brings v (record { ended = ended; present = present; kept = kept })
    → ((before : List Held) (s : Start Held) → Holds v before s → rings.StandsFor ring (before ++ packets_of s.items)) → rings.StandsFor ring (ended ++ present)
ended_stands v ring ended [] kept some brings all = absurd (omega arith)
ended_stands v ring ended (h ∷ hs) kept some brings all =
    subst (λ (l : List Held). rings.StandsFor ring (ended ++ l)) (packets_again (h ∷ hs)) (all ended (start_of (h ∷ hs)) (brings_holds v ended h hs kept brings))

-- ---- the greatest number
known_low : (lo n top : ℕ) (es : List (ℕ × Held)) → windows.RisesIn lo top es → has_number n es ≡ true → (n < top) ⊎ (top ≤ n) → n < top
known_low lo n top es rises has (inl low) = low
known_low lo n top es rises has (inr high) = let none = has-higher n lo top es rises high in absurd cc

greatest_step : (v : Intake) (n : ℕ) (h : Held) (late known : Bool) → IsIntake v → nat_lt n v.window.awaited ≡ late → has_number n v.window.kept ≡ known
    → (arrived v.window n h (if late then Late else if known then Twice else Kept)).greatest ≡ max v.window.greatest n
greatest_step v n h true known intake test has = let low : n < v.window.awaited = grind (arith, nat_tests) in omega (arith, intake.next)
greatest_step v n h false true intake test has =
    let low = known_low _ n (v.window.greatest + 1) v.window.kept intake.behind has (cases_lt n (v.window.greatest + 1)) in omega (arith, low)
greatest_step v n h false false intake test has = refl

-- it is the greater of the two, whatever became of the packet
pub greatest_after : (v : Intake) (n : ℕ) (h : Held) (c : Came) → IsIntake v → c ≡ came_of v.window n → (arrived v.window n h c).greatest ≡ max v.window.greatest n
greatest_after v n h c intake is =
    ap (λ x. (arrived v.window n h x).greatest) is ∙ greatest_step v n h (nat_lt n v.window.awaited) (has_number n v.window.kept) intake refl refl
