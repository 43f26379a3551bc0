-- Packets that are held stay whole.
use Rattle.std.proofs.Common.{◌≡◌, ℕ, zero, suc, ◌-◌, ◌≤◌, min, arith, Bool, true, false, if◌then◌else◌, List, [], ◌∷◌, ◌++◌, length, drop, Option, Some, None, Bor, refl, sym, subst, inl}
use Rattle.std.specs.Prelude.{find, IfSome, option_copied}
use Rattle.rams_model.specs.declared.Held.{Held}
use Rattle.rams_model.specs.Packets.{last_of}
use Rattle.rams_model.specs.Formats.{Packet, stripped, IsPacket}
use Rattle.rams_model.proofs.RtpPackets.{read_so}
use Rattle.rams_model.specs.Laws.{AreAtLeast}
use Rattle.rams_model.proofs.Holding.{drop_at_least}
use Rattle.channel_cache.specs.{IsBare, IsWhole, AreWhole}

-- a packet without its padding is bare
pub stripped_bare : (p : Packet) → IsPacket p → length (stripped p) ≤ 1470 → IsBare (stripped p)
stripped_bare p lawful short =
    let bare : Packet = record p { padding = [] } in
    let whole : IsPacket bare = record {
      payload_type = lawful.payload_type;
      sequence = lawful.sequence;
      timestamp = lawful.timestamp;
      ssrc = lawful.ssrc;
      csrc = lawful.csrc;
      extension = lawful.extension;
      padding = inl refl;
    } in
    record { packet = bare; read = read_so bare whole; unpadded = refl; short = short }

-- a whole packet takes no more than 1,500 bytes on the wire
pub whole_fits : (h : Held) → IsWhole h → h.wire ≤ 1500
whole_fits h whole = omega (arith, whole.wire, whole.bare.short)

AreWhole-drop : (d : ℕ) (hs : List Held) → AreWhole hs → AreWhole (drop d hs)
AreWhole-drop zero hs all = all
AreWhole-drop (suc d) [] all = tt
AreWhole-drop (suc d) (h ∷ hs) all = AreWhole-drop d hs all.1

AreWhole-push : (hs : List Held) (h : Held) → AreWhole hs → IsWhole h → AreWhole (hs ++ h ∷ [])
AreWhole-push [] h all one = (one, tt)
AreWhole-push (k ∷ hs) h all one = (all.0, AreWhole-push hs h all.1 one)

pub AreWhole-with : (capacity : ℕ) (held : List Held) (h : Held) (b : Bool) → AreWhole held → IsWhole h → AreWhole (if b then last_of capacity (held ++ h ∷ []) else h ∷ [])
AreWhole-with capacity held h true all one = AreWhole-drop (length (held ++ h ∷ []) - capacity) (held ++ h ∷ []) (AreWhole-push held h all one)
AreWhole-with capacity held h false all one = (one, tt)

-- and so is one that is found
find_step : (test : Held → Bool) (h : Held) (hs : List Held) (b : Bool) → IsWhole h → IfSome (find test hs) IsWhole → IfSome (if b then Some h else find test hs) IsWhole
find_step test h hs true one rest = one
find_step test h hs false one rest = rest

pub found_whole : (test : Held → Bool) (hs : List Held) → AreWhole hs → IfSome (find test hs) IsWhole
found_whole test [] all = tt
found_whole test (h ∷ hs) all = find_step test h hs (test h) all.0 (found_whole test hs all.1)

pub lent_whole : (r : Option (Bor Held)) (found : Option Held) → option_copied r ≡ found → IfSome found IsWhole → IfSome r (λ h. IsWhole h.now)
lent_whole None found is whole = tt
lent_whole (Some h) found is whole = subst (λ (o : Option Held). IfSome o IsWhole) (sym is) whole

-- ---- none is smaller
least_weaker : (m n : ℕ) (hs : List Held) → m ≤ n → AreAtLeast n hs → AreAtLeast m hs
least_weaker m n [] le all = tt
least_weaker m n (h ∷ hs) le all = (omega (arith, all.0), least_weaker m n hs le all.1)

least_push : (n : ℕ) (hs : List Held) (h : Held) → AreAtLeast n hs → n ≤ h.wire → AreAtLeast n (hs ++ h ∷ [])
least_push n [] h all one = (one, tt)
least_push n (k ∷ hs) h all one = (all.0, least_push n hs h all.1 one)

least_next : (n capacity : ℕ) (held : List Held) (h : Held) (b : Bool) → AreAtLeast n held → n ≤ h.wire → AreAtLeast n (if b then last_of capacity (held ++ h ∷ []) else h ∷ [])
least_next n capacity held h true all one = drop_at_least n (length (held ++ h ∷ []) - capacity) (held ++ h ∷ []) (least_push n held h all one)
least_next n capacity held h false all one = (one, tt)

-- the least size after a packet was put in
pub least_with : (least n capacity : ℕ) (held : List Held) (h : Held) (b : Bool) → n ≡ min least h.wire → AreAtLeast least held → AreAtLeast n (if b then last_of capacity (held ++ h ∷ []) else h ∷ [])
least_with least n capacity held h b is all = least_next n capacity held h b (least_weaker n least held (omega arith) all) (omega arith)
