-- Each packet that came, is held or is sent again was read, and reads without its padding.
use Rattle.std.proofs.Common.{◌≡◌, ℕ, Bool, cond, not, List, [], ◌∷◌, ◌++◌, Option, Some, None, refl, subst, sym, ◌-◌, length, eqb, ltb, Result, Ok, Err}
use Rattle.std.specs.Prelude.{filter, option_map, option_to_list, All, IsOk, Contains}
use Rattle.std.proofs.lemmas.Bool.{cond_both}
use Rattle.std.proofs.lemmas.List.Elements.{All-nil, All-cons, All-head, All-tail, All-contains, All-append, All-filter, All-drop}
use Rattle.rams_model.specs.declared.{Order.Order, Channel.Channel, Event.Event, FrameFault.FrameFault, RtpFault.RtpFault, Held.Held}
use Rattle.rams_model.specs.declared.{Info.Info, Cause.Cause, LiveNote.LiveNote, Note.Note}
use Rattle.rams_model.specs.declared.Event.TheVariants.{Live, Feedback, Tick}
use Rattle.rams_model.specs.declared.LiveNote.TheVariants.{Took, Restart, Jump, ForeignSsrc, ForeignType, TooBig}
use Rattle.rams_model.specs.declared.Note.TheVariants as note
use Rattle.rams_model.specs.Service.{Settings, Heard, live, dropped, arrival, heard_packet, heard_feedback, heard_of, began, told, noted, History, arrivals, hold, Burst, open_burst, end_info, history_of, answer, Entry, Book, IsLawful, events_of, info_order, packet_order, again_order, update_order, end_order, order_of, newest_orders}
use Rattle.rams_model.specs.Formats.{Packet, packet_at, Framed, framed}
use Rattle.rams_model.specs.Packets.{Arrival, Stream, held_as, with_packet, awaited, is_consecutive, consecutive_end, live_note, stream_after, stream_of, source}
use Rattle.rams_model.specs.Packets.Source as sources
use Rattle.rams_model.proofs.Legal.{Allows, IsLegal}
use Rattle.rams_model.proofs.Legality.{legal_history}
use Rattle.rams_model.proofs.Induction.{of_events}
use Rattle.book_text.specs.order_datagrams.{Renders}
use Rattle.book_text.proofs.order_datagrams.ReadAgain.{read_again}

-- ---- what is held

abbrev Reads : Held → Type 0
Reads h = IsOk (packet_at h.packet)

-- so does the packet that is heard
abbrev HearsRead : Heard → Type 0
HearsRead (live a) = IsOk (packet_at a.packet)
HearsRead heard = Unit {0}

-- so does each packet that a history brought
abbrev AllRead : History → Type 0
AllRead [] = Unit {0}
AllRead (began heard ∷ history) = HearsRead heard × AllRead history
AllRead (told client message ∷ history) = AllRead history
AllRead (noted note packet ∷ history) = AllRead history

packet_heard : (c : Channel) (bytes : List ℕ) (r : Result Packet RtpFault) → packet_at bytes ≡ r → HearsRead (heard_packet c r)
packet_heard c bytes (Err fault) e = tt
packet_heard c bytes (Ok p) e =
    cond_both (not (eqb p.ssrc c.ssrc)) (dropped ForeignSsrc) (cond (not (eqb p.payload_type c.pt)) (dropped ForeignType) (live (arrival c p))) HearsRead (λ t. tt)
    (λ f. cond_both (not (eqb p.payload_type c.pt)) (dropped ForeignType) (live (arrival c p)) HearsRead (λ t. tt) (λ g. read_again bytes p e))

feedback_heard : (client : ℕ) (r : Result (List Framed) FrameFault) → HearsRead (heard_feedback client r)
feedback_heard client (Err fault) = tt
feedback_heard client (Ok packets) = tt

event_heard : (c : Channel) (event : Event) → HearsRead (heard_of c event)
unfolding heard_of
event_heard c (Live bytes) =
    cond_both (ltb 1470 (length bytes)) (dropped TooBig) (heard_packet c (packet_at bytes)) HearsRead (λ t. tt) (λ f. packet_heard c bytes (packet_at bytes) refl)
event_heard c (Feedback client bytes) = feedback_heard client (framed bytes)
event_heard c Tick = tt

with_read : (new : Held) (hs : List Held) → Reads new → All Reads hs → All Reads (with_packet new hs)
with_read new [] r a = All-cons Reads new [] r a
with_read new (h ∷ hs) r a =
    cond_both (ltb new.n h.n) (new ∷ h ∷ hs) (h ∷ with_packet new hs) (All Reads) (λ t. All-cons Reads new (h ∷ hs) r a)
    (λ f. All-cons Reads h (with_packet new hs) (All-head Reads h hs a) (with_read new hs r (All-tail Reads h hs a)))

record IsRead (s : Stream) : Type 0 where
  ended : All Reads s.ended
  present : All Reads s.present

after_read : (s : Stream) (a : Arrival) (n : LiveNote) → IsOk (packet_at a.packet) → IsRead s → IsRead (stream_after s a n)
after_read s a (Took n) r i = record { ended = i.ended; present = with_read (held_as n a) s.present r i.present }
after_read s a (Restart n) r i =
    record { ended = All-append Reads s.ended s.present i.ended i.present; present = All-cons Reads (held_as n a) [] r (All-nil Reads) }
after_read s a Jump r i = record { ended = i.ended; present = i.present }
after_read s a n r i = i

stream_read : (window : ℕ) (history : History) → AllRead history → IsRead (stream_of window (arrivals history))
unfolding stream_of arrivals
stream_read window [] a = record { ended = All-nil Reads; present = All-nil Reads }
stream_read window (began (live x) ∷ history) a =
    let s = stream_of window (arrivals history) in after_read s x (live_note window s x.sequence) a.0 (stream_read window history a.1)
stream_read window (began heard ∷ history) a = stream_read window history a.1
stream_read window (told client message ∷ history) a = stream_read window history a
stream_read window (noted n packet ∷ history) a = stream_read window history a

end_read : (hs : List Held) → All Reads hs → All Reads (consecutive_end hs)
unfolding consecutive_end
end_read [] a = a
end_read (h ∷ hs) a = cond_both (is_consecutive (h ∷ hs)) (h ∷ hs) (consecutive_end hs) (All Reads) (λ t. a) (λ f. end_read hs (All-tail Reads h hs a))

hold_read : (s : Settings) (history : History) → AllRead history → All Reads (hold s history)
unfolding source sources.hold
hold_read s history a =
    let stream = stream_of s.channel.window (arrivals history) in
    let r = stream_read s.channel.window history a in
    let test : Held → Bool = λ h. ltb h.n (awaited s.channel.window stream.present) in
    let all = source s.channel.window stream in
    let of_source : All Reads all = All-append Reads stream.ended (filter test stream.present) r.ended (All-filter test Reads stream.present r.present) in
    All-drop Reads (length (consecutive_end all) - s.channel.ring) (consecutive_end all) (end_read all of_source)

history_read : (s : Settings) (events : List Event) → AllRead (history_of s events)
history_read s events = of_events s AllRead (λ event history l a. (event_heard s.channel event, a)) (λ k m history l a. a) (λ n packet history allowed l a. a) tt events

-- ---- the orders of a history

abbrev MayRender : Option Order → Type 0
MayRender None = Unit {0}
MayRender (Some order) = Renders order

-- what is sent is held
packet_renders : (s : Settings) (k n number : ℕ) (packet : Option Held) (h : Held) (history : History) → packet ≡ Some h → Contains (hold s history) h → AllRead history
    → MayRender (packet_order k n number packet)
packet_renders s k n number packet h history is held a =
    subst (λ (p : Option Held). MayRender (packet_order k n number p)) (sym is) (All-contains Reads (hold s history) h (hold_read s history a) held)

update_renders : (s : Settings) (k rate join : ℕ) (o : Option Burst) → MayRender (update_order s k rate join o)
update_renders s k rate join None = tt
update_renders s k rate join (Some b) = tt

again_renders : (k : ℕ) (o : Option Burst) → MayRender (again_order k o)
again_renders k None = tt
again_renders k (Some b) = tt

told_renders : (k : ℕ) (o : Option Info) → MayRender (option_map (info_order k) o)
told_renders k None = tt
told_renders k (Some info) = tt

end_renders : (k : ℕ) (why : Cause) (o : Option Burst) → MayRender (end_order k why o)
end_renders k why None = tt
end_renders k why (Some b) = told_renders k (end_info b.last why)

order_renders : (s : Settings) (history : History) (n : Note) (packet : Option Held) → Allows s history n packet → AllRead history → MayRender (order_of s history n packet)
unfolding order_of
order_renders s history (note.Update k rate join) packet allowed a = update_renders s k rate join (open_burst s k history)
order_renders s history (note.Again k) packet allowed a = again_renders k (open_burst s k history)
order_renders s history (note.End k why) packet allowed a = end_renders k why (open_burst s k history)
order_renders s history (note.Burst k n number) packet allowed a = packet_renders s k n number packet allowed.h history allowed.packet_is allowed.held a
order_renders s history (note.Repair k n number) packet allowed a = packet_renders s k n number packet allowed.h history allowed.packet_is allowed.held a
order_renders s history n packet allowed a = tt

in_front : (o : Option Order) (later : List Order) → MayRender o → All Renders later → All Renders (option_to_list o ++ later)
in_front None later r a = a
in_front (Some order) later r a = All-cons Renders order later r a

orders_render : (s : Settings) (history : History) (later : List Order) → IsLegal s history → AllRead history → All Renders later → All Renders (newest_orders s history later)
unfolding newest_orders
orders_render s [] later l r a = a
orders_render s (began heard ∷ history) later l r a = a
orders_render s (told client message ∷ history) later l r a = orders_render s history later l r a
orders_render s (noted n packet ∷ history) later l r a =
    let o = order_of s history n packet in
    orders_render s history (option_to_list o ++ later) l.1 r (in_front o later (order_renders s history n packet l.0 r) a)

pub answer_renders : (s : Settings) (events : List Event) (event : Event) → All Renders (answer s events event).orders
answer_renders s events event =
    orders_render s (history_of s (event ∷ events)) [] (legal_history s (event ∷ events)) (history_read s (event ∷ events)) (All-nil Renders)

pub book_renders : (s : Settings) (e : Entry) (book : Book) → IsLawful s (e ∷ book) → All Renders e.answer.orders
book_renders s e book l = subst (λ x. All Renders x.orders) (sym l.0) (answer_renders s (events_of book) e.event)
