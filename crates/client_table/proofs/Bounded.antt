-- What the slots show a tick later.
use Rattle.std.proofs.Common.{◌≡◌, ℕ, ◌+◌, ◌%◌, List, [], ◌∷◌, Option, Some, None, IsSome, ap, arith}
use Rattle.std.specs.Option.{option_map}
use Rattle.std.specs.Prelude.{is_some}
use Rattle.client_table.specs.declared.{entry.Entry.Entry, stored.Stored.Stored}
use Rattle.client_table.specs.{shown, slot_at, entry_at, aged, IsSlotChanged, AreSlotsChanged, AreJoined}

pub shown_aged : (tick : ℕ) (s : Stored) → shown ((tick + 1) % 4294967296) s ≡ aged (shown tick s)
shown_aged tick s = ap (λ (n : ℕ). record { ssrc = s.ssrc; seq = s.seq; idle = n; burst = s.burst }) (omega arith)

slot_aged : (tick : ℕ) (o : Option Stored) → IsSome (option_map (shown tick) o) → IsSlotChanged (λ e d. d ≡ aged e) (option_map (shown tick) o) (option_map (shown ((tick + 1) % 4294967296)) o)
slot_aged tick None some = cc
slot_aged tick (Some s) some = shown_aged tick s

pub slots_aged : (tick : ℕ) (slots : List (Option Stored)) (es : List (ℕ × ℕ)) → AreJoined (entry_at tick slots) es
    → AreSlotsChanged (λ _ e d. d ≡ aged e) (entry_at tick slots) (entry_at ((tick + 1) % 4294967296) slots) es
slots_aged tick slots [] is = tt
slots_aged tick slots (e ∷ es) is = (slot_aged tick (slot_at slots e.1) is.0, slots_aged tick slots es is.1.1)

pub aged_keeps : (x y : Entry) → y ≡ aged x → is_some y.burst ≡ is_some x.burst
aged_keeps x y is = ap (λ (e : Entry). is_some e.burst) is
