-- What is sent is held, and is of the source, then and ever after.
use Rattle.std.proofs.Common.{◌≡◌, ℕ, ◌-◌, List, [], ◌∷◌, ◌++◌, length, take, drop, Option, Some, None, sym, subst, eqb}
use Rattle.std.specs.Prelude.{IsSomeAnd, All, Contains}
use Rattle.std.proofs.lemmas.Bool.{cond_both}
use Rattle.std.proofs.lemmas.List.{take-append-drop}
use Rattle.std.proofs.lemmas.List.Elements.{All-nil, All-push, All-weaker, Contains-append_left, Contains-append_right}
use Rattle.rams_model.specs.declared.Held.{Held}
use Rattle.rams_model.specs.declared.Note.TheVariants as note
use Rattle.rams_model.specs.Service.{Settings, live, Item, began, told, noted, History, arrivals, hold}
use Rattle.rams_model.specs.Packets.{consecutive_end}
use Rattle.rams_model.specs.Packets.Source as sources
use Rattle.rams_model.specs.Laws.{source}
use Rattle.rams_model.proofs.Growing.{source_grows}
use Rattle.rams_model.proofs.Holding.{longest_end}
use Rattle.service_laws.specs.book_laws.{Sending, sending, first_sendings, IsPacketOf}
use Rattle.rams_model.proofs.Legal.{IsLegal, Sends}

-- what is held is of the source
pub held_of_source : (s : Settings) (history : History) (h : Held) → Contains (hold s history) h → Contains (source s history) h
unfolding sources.hold
held_of_source s history h c =
    let all = source s history in
    let end = consecutive_end all in
    let gone = length end - s.channel.ring in
    let of_end : Contains end h = subst (λ (hs : List Held). Contains hs h) (take-append-drop gone end) (Contains-append_right (take gone end) (drop gone end) h c) in
    let whole = longest_end all in
    subst (λ (hs : List Held). Contains hs h) (sym whole.splits) (Contains-append_right whole.front end h of_end)

-- what is of the source is so ever after
pub source_stays : (s : Settings) (i : Item) (history : History) (h : Held) → Contains (source s history) h → Contains (source s (i ∷ history)) h
unfolding arrivals
source_stays s (began (live a)) history h c =
    let w = s.channel.window in
    let more = source_grows w a (arrivals history) in
    subst (λ (hs : List Held). Contains hs h) (sym more.1) (Contains-append_left (source s history) more.0 h c)
source_stays s (began heard) history h c = c
source_stays s (told client message) history h c = c
source_stays s (noted n p) history h c = c

pub source_after : (s : Settings) (later history : History) (h : Held) → Contains (source s history) h → Contains (source s (later ++ history)) h
source_after s [] history h c = c
source_after s (i ∷ later) history h c = source_stays s i (later ++ history) h (source_after s later history h c)

packet_stays : (packet : Option Held) (P Q : Held → Type 0) → ((h : Held) → P h → Q h) → IsSomeAnd packet P → IsSomeAnd packet Q
packet_stays None P Q f i = i
packet_stays (Some h) P Q f i = f h i

-- a packet that is sent was held
pub sent_is_held : (s : Settings) (history : History) (k n number : ℕ) (packet : Option Held) → Sends s history k n number packet → IsPacketOf (hold s history) (sending n packet)
sent_is_held s history k n number packet a =
    subst (λ (p : Option Held). IsPacketOf (hold s history) (sending n p)) (sym a.packet_is) (a.h_is, a.held)

pub sent_is_of_source : (s : Settings) (later before : History) (k n number : ℕ) (packet : Option Held) → Sends s before k n number packet
    → IsPacketOf (source s (later ++ noted (note.Burst k n number) packet ∷ before)) (sending n packet)
sent_is_of_source s later before k n number packet a =
    let i = noted (note.Burst k n number) packet in
    let all = source s (later ++ i ∷ before) in
    let of_source : Contains all a.h = source_after s later (i ∷ before) a.h (source_stays s i before a.h (held_of_source s before a.h a.held)) in
    subst (λ (p : Option Held). IsPacketOf all (sending n p)) (sym a.packet_is) (a.h_is, of_source)

sendings_stay : (s : Settings) (i : Item) (history : History) (sent : List Sending) → All (IsPacketOf (source s history)) sent → All (IsPacketOf (source s (i ∷ history))) sent
sendings_stay s i history sent a =
    All-weaker (IsPacketOf (source s history)) (IsPacketOf (source s (i ∷ history)))
    (λ x p. packet_stays x.packet (λ h. (h.n ≡ x.n) × Contains (source s history) h) (λ h. (h.n ≡ x.n) × Contains (source s (i ∷ history)) h)
    (λ h q. (q.0, source_stays s i history h q.1)) p) sent a

-- all that was sent is of the source
pub all_of_source : (s : Settings) (k : ℕ) (later history : History) → IsLegal s (later ++ history) → All (IsPacketOf (source s (later ++ history))) (first_sendings k later)
unfolding first_sendings
all_of_source s k [] history l = All-nil (IsPacketOf (source s history))
all_of_source s k (began heard ∷ later) history l = sendings_stay s (began heard) (later ++ history) (first_sendings k later) (all_of_source s k later history l)
all_of_source s k (told client message ∷ later) history l =
    sendings_stay s (told client message) (later ++ history) (first_sendings k later) (all_of_source s k later history l)
all_of_source s k (noted (note.Burst client n q) p ∷ later) history l =
    let i = noted (note.Burst client n q) p in
    let sent = first_sendings k later in
    let rest = sendings_stay s i (later ++ history) sent (all_of_source s k later history l.1) in
    cond_both (eqb client k) (sent ++ sending n p ∷ []) sent (All (IsPacketOf (source s (i ∷ (later ++ history)))))
    (λ t. All-push (IsPacketOf (source s (i ∷ (later ++ history)))) sent (sending n p) rest (sent_is_of_source s [] (later ++ history) client n q p l.0)) (λ f. rest)
all_of_source s k (noted n p ∷ later) history l = sendings_stay s (noted n p) (later ++ history) (first_sendings k later) (all_of_source s k later history l.1)
