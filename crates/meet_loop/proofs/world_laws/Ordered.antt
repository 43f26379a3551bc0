-- The orders of an answer are for packets of the source, and the source only grows.
use Rattle.std.proofs.Common.{◌≡◌, ℕ, List, [], ◌∷◌, ◌++◌, Option, Some, None, refl, sym, subst, arith}
use Rattle.std.specs.Prelude.{option_map, option_to_list, All, Contains}
use Rattle.std.proofs.lemmas.List.Elements.{All-nil, All-cons}
use Rattle.rams_model.specs.declared.{Order.Order, Event.Event, Held.Held, Info.Info, Cause.Cause, Note.Note}
use Rattle.rams_model.specs.declared.Note.TheVariants as note
use Rattle.rams_model.specs.Laws.{source}
use Rattle.rams_model.specs.Service.{Settings, began, told, noted, History, arrivals, sequence, Burst, open_burst, end_info, info_order, packet_order, again_order, update_order, end_order, order_of, newest_orders, heard_of, history_of, answer}
use Rattle.rams_model.proofs.Adding.{adds_hearing}
use Rattle.rams_model.proofs.Legal.{Allows, IsLegal}
use Rattle.rams_model.proofs.Legality.{legal_history}
use Rattle.service_laws.proofs.book_laws.SentSources.{held_of_source, source_stays, source_after}
use Rattle.meet_loop.specs.world_laws.{IsAgain}

-- ---- what is of the source came in time, and stays

pub source_grows_by : (s : Settings) (event : Event) (events : List Event) (h : Held) → Contains (source s (history_of s events)) h → Contains (source s (history_of s (event ∷ events))) h
unfolding history_of
source_grows_by s event events h c =
    let history = history_of s events in
    let heard = heard_of s.channel event in
    let a = adds_hearing s heard history in
    subst (λ (x : History). Contains (source s x) h) (sym a.splits) (source_after s a.later (began heard ∷ history) h (source_stays s (began heard) history h c))

-- ---- orders

-- so it is, where there is an order
abbrev MayBe : List Held → Option Order → Type 0
MayBe hs None = Unit {0}
MayBe hs (Some o) = IsAgain hs o

in_front : (hs : List Held) (o : Option Order) (later : List Order) → MayBe hs o → All (IsAgain hs) later → All (IsAgain hs) (option_to_list o ++ later)
in_front hs None later i a = a
in_front hs (Some o) later i a = All-cons (IsAgain hs) o later i a

packet_again : (s : Settings) (hs : List Held) (k n q : ℕ) (packet : Option Held) (h : Held) (history : History) → packet ≡ Some h → h.n ≡ n → q ≡ sequence s k history
    → Contains hs h → MayBe hs (packet_order k n q packet)
packet_again s hs k n q packet h history is at number has =
    subst (λ (p : Option Held). MayBe hs (packet_order k n q p)) (sym is)
    (record { h = h; of_source = has; number = at; is_it = refl; few = omega (arith, number) })

update_fine : (s : Settings) (hs : List Held) (k rate join : ℕ) (o : Option Burst) → MayBe hs (update_order s k rate join o)
update_fine s hs k rate join None = tt
update_fine s hs k rate join (Some b) = tt

again_fine : (hs : List Held) (k : ℕ) (o : Option Burst) → MayBe hs (again_order k o)
again_fine hs k None = tt
again_fine hs k (Some b) = tt

info_fine : (hs : List Held) (k : ℕ) (o : Option Info) → MayBe hs (option_map (info_order k) o)
info_fine hs k None = tt
info_fine hs k (Some info) = tt

end_fine : (hs : List Held) (k : ℕ) (why : Cause) (o : Option Burst) → MayBe hs (end_order k why o)
end_fine hs k why None = tt
end_fine hs k why (Some b) = info_fine hs k (end_info b.last why)

order_fine : (s : Settings) (hs : List Held) (history : History) (n : Note) (packet : Option Held) → Allows s history n packet
    → ((h : Held) → Contains (source s history) h → Contains hs h) → MayBe hs (order_of s history n packet)
unfolding order_of
order_fine s hs history (note.Update k rate join) packet a grows = update_fine s hs k rate join (open_burst s k history)
order_fine s hs history (note.Again k) packet a grows = again_fine hs k (open_burst s k history)
order_fine s hs history (note.End k why) packet a grows = end_fine hs k why (open_burst s k history)
order_fine s hs history (note.Burst k n q) packet a grows =
    packet_again s hs k n q packet a.h history a.packet_is a.h_is a.number_is (grows a.h (held_of_source s history a.h a.held))
order_fine s hs history (note.Repair k n q) packet a grows =
    packet_again s hs k n q packet a.h history a.packet_is a.h_is a.number_is (grows a.h (held_of_source s history a.h a.held))
order_fine s hs history n packet a grows = tt

orders_fine : (s : Settings) (hs : List Held) (history : History) (later : List Order) → IsLegal s history → ((h : Held) → Contains (source s history) h → Contains hs h)
    → All (IsAgain hs) later → All (IsAgain hs) (newest_orders s history later)
unfolding newest_orders arrivals
orders_fine s hs [] later l grows a = a
orders_fine s hs (began heard ∷ history) later l grows a = a
orders_fine s hs (told client message ∷ history) later l grows a = orders_fine s hs history later l grows a
orders_fine s hs (noted n packet ∷ history) later l grows a =
    let o = order_of s history n packet in
    orders_fine s hs history (option_to_list o ++ later) l.1 grows (in_front hs o later (order_fine s hs history n packet l.0 grows) a)

pub answer_fine : (s : Settings) (events : List Event) (event : Event) → All (IsAgain (source s (history_of s (event ∷ events)))) (answer s events event).orders
answer_fine s events event =
    let history = history_of s (event ∷ events) in
    orders_fine s (source s history) history [] (legal_history s (event ∷ events)) (λ h c. c) (All-nil (IsAgain (source s history)))
