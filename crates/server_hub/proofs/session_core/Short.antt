-- Each packet that a channel sends has at most 1,470 bytes.
use Rattle.std.proofs.Common.{◌≡◌, ℕ, ◌≤◌, List, [], ◌∷◌, ◌++◌, Option, Some, None, length, sym, subst, arith}
use Rattle.std.specs.Prelude.{All, Contains, option_map, option_to_list}
use Rattle.std.specs.List.{AllByRecursion as Each}
use Rattle.std.proofs.lemmas.List.Elements.{All-nil, All-cons, All-contains, All-from_recursion}
use Rattle.rams_model.specs.declared.{Order.Order, Event.Event, Held.Held, Info.Info, Cause.Cause, Note.Note}
use Rattle.rams_model.specs.declared.Note.TheVariants as note
use Rattle.rams_model.specs.Service.{Settings, end_info, began, told, noted, History, arrivals, hold, Burst, open_burst, info_order, packet_order, again_order, update_order, end_order, order_of, newest_orders, history_of, answer}
use Rattle.rams_model.specs.Formats.{wire_size}
use Rattle.rams_model.proofs.Legal.{Allows, IsLegal}
use Rattle.rams_model.proofs.Legality.{legal_history}
use Rattle.service_laws.proofs.book_laws.HeldPackets as packets
use Rattle.service_laws.proofs.book_laws.HeldPackets.{small_held, all_small}
use Rattle.service_laws.proofs.book_laws.Quiet.Sizes.{ArriveSmall}
use Rattle.server_hub.specs.session_core.{IsShort, SendsShort}
use Rattle.tick_core.proofs.Sized.{IsSized, all_sized}

-- ---- the packets that are held

-- one has its wire size
pub held_sized : (s : Settings) (history : History) (h : Held) → Contains (hold s history) h → h.wire ≡ wire_size h.packet
held_sized s history h among = All-contains IsSized (hold s history) h (all_sized s history) among

each_small : (hs : List Held) → packets.AreSmall hs → Each (λ (h : Held). h.wire ≤ 1500) hs
each_small [] small = tt
each_small (h ∷ hs) small = (small.0, each_small hs small.1)

held_short : (s : Settings) (history : History) (h : Held) → ArriveSmall (arrivals history) → Contains (hold s history) h → length h.packet ≤ 1470
held_short s history h small among =
    let each = All-from_recursion (λ (x : Held). x.wire ≤ 1500) (hold s history) (each_small (hold s history) (small_held s history small)) in
    omega (arith, All-contains (λ (x : Held). x.wire ≤ 1500) (hold s history) h each among, held_sized s history h among)

-- ---- the orders

abbrev MayBeShort : Option Order → Type 0
MayBeShort None = Unit {0}
MayBeShort (Some order) = IsShort order

short_again : (k : ℕ) (b : Option Burst) → MayBeShort (again_order k b)
short_again k None = tt
short_again k (Some b) = tt

short_update : (s : Settings) (k rate join : ℕ) (b : Option Burst) → MayBeShort (update_order s k rate join b)
short_update s k rate join None = tt
short_update s k rate join (Some b) = tt

short_info : (k : ℕ) (i : Option Info) → MayBeShort (option_map (info_order k) i)
short_info k None = tt
short_info k (Some i) = tt

short_end : (k : ℕ) (cause : Cause) (b : Option Burst) → MayBeShort (end_order k cause b)
short_end k cause None = tt
short_end k cause (Some b) = short_info k (end_info b.last cause)

short_packet : (k n number : ℕ) (h : Held) (packet : Option Held) → packet ≡ Some h → length h.packet ≤ 1470 → MayBeShort (packet_order k n number packet)
short_packet k n number h packet is short = subst (λ (o : Option Held). MayBeShort (packet_order k n number o)) (sym is) short

short_order : (s : Settings) (history : History) (n : Note) (packet : Option Held) → Allows s history n packet → ArriveSmall (arrivals history)
    → MayBeShort (order_of s history n packet)
unfolding order_of
short_order s history (note.Burst k n number) packet a small = short_packet k n number a.h packet a.packet_is (held_short s history a.h small a.held)
short_order s history (note.Repair k n number) packet a small = short_packet k n number a.h packet a.packet_is (held_short s history a.h small a.held)
short_order s history (note.Update k rate join) packet a small = short_update s k rate join (open_burst s k history)
short_order s history (note.Again k) packet a small = short_again k (open_burst s k history)
short_order s history (note.End k cause) packet a small = short_end k cause (open_burst s k history)
short_order s history n packet a small = tt

in_front : (o : Option Order) (later : List Order) → MayBeShort o → All IsShort later → All IsShort (option_to_list o ++ later)
in_front None later short a = a
in_front (Some order) later short a = All-cons IsShort order later short a

short_orders : (s : Settings) (history : History) (later : List Order) → IsLegal s history → ArriveSmall (arrivals history) → All IsShort later
    → All IsShort (newest_orders s history later)
unfolding newest_orders arrivals
short_orders s [] later l small a = a
short_orders s (began heard ∷ history) later l small a = a
short_orders s (told client message ∷ history) later l small a = short_orders s history later l small a
short_orders s (noted n packet ∷ history) later l small a =
    let o = order_of s history n packet in
    short_orders s history (option_to_list o ++ later) l.1 small (in_front o later (short_order s history n packet l.0 small) a)

pub sends_short : (s : Settings) (events : List Event) (event : Event) → SendsShort (answer s events event)
sends_short s events event =
    short_orders s (history_of s (event ∷ events)) [] (legal_history s (event ∷ events)) (all_small s (event ∷ events)) (All-nil IsShort)
