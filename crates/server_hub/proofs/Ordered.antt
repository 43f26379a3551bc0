-- What the orders of an answer send is what its notes do.
use Rattle.std.proofs.Common.{◌≡◌, ℕ, ◌+◌, Bool, true, false, cond, List, [], ◌∷◌, ◌++◌, Option, Some, None, option_map, refl, sym, ◌∙◌, ap, arith}
use Rattle.std.specs.Prelude.{sum_by}
use Rattle.std.specs.Option.{option_to_list}
use Rattle.std.proofs.lemmas.Bool.{true≢false}
use Rattle.std.proofs.lemmas.List.Sums.{sum_by-append}
use Rattle.rams_model.specs.declared.{Order.Order, Held.Held, Info.Info, Cause.Cause, Note.Note}
use Rattle.rams_model.specs.declared.Order.TheVariants as order
use Rattle.rams_model.specs.declared.Note.TheVariants as note
use Rattle.rams_model.specs.Service.{Settings, end_info, Heard, began, told, noted, History, Burst, size_of, open_burst, order_of, again_order, update_order, end_order, packet_order, newest_orders}
use Rattle.rams_model.specs.Laws.{NoneIs, is_event, is_sending, sizes_sent}
use Rattle.rams_model.proofs.Legal.{Allows, IsLegal}
use Rattle.server_hub.specs.Sent as sent
use Rattle.server_hub.proofs.session_core.Short.{held_sized}

-- what an order sends, where there is one
abbrev bytes : Option Order → ℕ
bytes o = sum_by sent.size_of (option_to_list o)

no_again : (k : ℕ) (b : Option Burst) → bytes (again_order k b) ≡ 0
no_again k None = refl
no_again k (Some b) = refl

no_update : (s : Settings) (k rate join : ℕ) (b : Option Burst) → bytes (update_order s k rate join b) ≡ 0
no_update s k rate join None = refl
no_update s k rate join (Some b) = refl

no_info : (k : ℕ) (i : Option Info) → bytes (option_map (order.Info k) i) ≡ 0
no_info k None = refl
no_info k (Some i) = refl

no_end : (k : ℕ) (cause : Cause) (b : Option Burst) → bytes (end_order k cause b) ≡ 0
no_end k cause None = refl
no_end k cause (Some b) = no_info k (end_info b.last cause)

-- the packet of a note that sends one
packet_bytes : (k n q : ℕ) (h : Held) (packet : Option Held) → packet ≡ Some h → h.wire ≡ sent.size_of (order.Rtx k n q h.packet) → bytes (packet_order k n q packet) ≡ size_of packet
packet_bytes k n q h packet is wire =
    ap (λ (o : Option Held). bytes (packet_order k n q o)) is ∙ omega (arith, wire) ∙ sym (ap size_of is)

note_bytes : (s : Settings) (history : History) (n : Note) (packet : Option Held) → Allows s history n packet
    → bytes (order_of s history n packet) ≡ (cond (is_sending n) (size_of packet) 0)
unfolding order_of
note_bytes s history (note.Burst k n q) packet a = packet_bytes k n q a.h packet a.packet_is (held_sized s history a.h a.held)
note_bytes s history (note.Repair k n q) packet a = packet_bytes k n q a.h packet a.packet_is (held_sized s history a.h a.held)
note_bytes s history (note.Update k rate join) packet a = no_update s k rate join (open_burst s k history)
note_bytes s history (note.Again k) packet a = no_again k (open_burst s k history)
note_bytes s history (note.End k cause) packet a = no_end k cause (open_burst s k history)
note_bytes s history n packet a = refl

-- one note more
more_bytes : (b : Bool) (size bytes sent total rest : ℕ) → bytes ≡ cond b size 0 → total ≡ sent + (bytes + rest) → total ≡ cond b (sent + size) sent + rest
more_bytes true size bytes sent total rest is all = omega (arith, is, all)
more_bytes false size bytes sent total rest is all = omega (arith, is, all)

-- The orders since an event began send what the notes since then do.
pub orders_bytes : (s : Settings) (heard : Heard) (now before : History) (later : List Order) → IsLegal s (now ++ began heard ∷ before) → NoneIs is_event now
    → sum_by sent.size_of (newest_orders s (now ++ began heard ∷ before) later) ≡ sizes_sent is_sending now + sum_by sent.size_of later
unfolding newest_orders
orders_bytes s heard [] before later l none = omega arith
orders_bytes s heard (began other ∷ now) before later l none = absurd (true≢false none.0)
orders_bytes s heard (told client message ∷ now) before later l none = orders_bytes s heard now before later l none.1
orders_bytes s heard (noted n packet ∷ now) before later l none =
    let history = now ++ began heard ∷ before in
    let ordered = option_to_list (order_of s history n packet) in
    more_bytes (is_sending n) (size_of packet) (sum_by sent.size_of ordered) (sizes_sent is_sending now) _ (sum_by sent.size_of later) (note_bytes s history n packet l.0)
    (orders_bytes s heard now before (ordered ++ later) l.1 none.1 ∙ ap (λ (k : ℕ). sizes_sent is_sending now + k) (sum_by-append sent.size_of ordered later))
