-- What is heard at the ports of channels, and how much a turn brings.
use Rattle.std.proofs.Common.{◌≡◌, ℕ, zero, suc, ◌+◌, ◌*◌, ◌<◌, ◌≤◌, eqb, nat_le, if◌then◌else◌, List, [], ◌∷◌, ◌++◌, length, drop, Option, Some, None, option_to_list, refl, ap, ◌∙◌, arith, length-append}
use Rattle.std.specs.Prelude.{slice_get}
use Rattle.std.proofs.lemmas.Bool.{cond_both, eq-eqb, ne_eqb}
use Rattle.ram_io.specs.declared.Incoming.{Incoming}
use Rattle.ram_io.specs.{later}
use Rattle.server_hub.specs.declared.HubEvent.{HubEvent}
use Rattle.server_hub.specs.declared.HubEvent.TheVariants.{Live, Feedback, Tick}
use Rattle.server_hub.specs.Served.{Served}
use Rattle.server_hub.specs.{id_of}
use Rattle.trace_loop.specs.journal_book.{ServerTurn, heard_from, heard, next_moment, turns_of, tick_at, due_after, events_of_turns, EventsAreFew, PortsAreHeard, OtherPortsAreNot}

-- what the first channel hears, and else the others
abbrev first_of_all : ℕ → ℕ → List ℕ → Served → Option HubEvent → ℕ → Option HubEvent
first_of_all live sender bytes c others port =
    if eqb port live then Some (Live (id_of c) bytes) else if eqb port (live + 1) then Some (Feedback (id_of c) sender bytes) else others

at_live : (live port sender : ℕ) (bytes : List ℕ) (c : Served) (others : Option HubEvent) → port ≡ live → first_of_all live sender bytes c others port ≡ Some (Live (id_of c) bytes)
at_live live port sender bytes c others e = rw (eq-eqb port live e) refl

at_feedback : (live port sender : ℕ) (bytes : List ℕ) (c : Served) (others : Option HubEvent) → port ≡ live + 1 → first_of_all live sender bytes c others port ≡ Some (Feedback (id_of c) sender bytes)
at_feedback live port sender bytes c others e = rw (ne_eqb port live (λ same. omega arith), eq-eqb port (live + 1) e) refl

at_others : (live port sender : ℕ) (bytes : List ℕ) (c : Served) (others : Option HubEvent) → (port ≡ live → ⊥) → (port ≡ live + 1 → ⊥) → first_of_all live sender bytes c others port ≡ others
at_others live port sender bytes c others first second = rw (ne_eqb port live first, ne_eqb port (live + 1) second) refl

-- the live port of the channel at a place
live_heard : (live port place sender : ℕ) (channels : List Served) (c : Served) (bytes : List ℕ) → slice_get channels place ≡ Some c → port ≡ live + 2 * place
    → heard_from live channels sender port bytes ≡ Some (Live (id_of c) bytes)
live_heard live port place sender [] c bytes is e = absurd cc
live_heard live port zero sender (b ∷ channels) c bytes is e =
    let same : b ≡ c = cc is in
    at_live live port sender bytes b (heard_from (live + 2) channels sender port bytes) (omega arith) ∙ ap (λ (x : Served). Some (Live (id_of x) bytes)) same
live_heard live port (suc place) sender (b ∷ channels) c bytes is e =
    at_others live port sender bytes b (heard_from (live + 2) channels sender port bytes) (λ s. omega arith) (λ s. omega arith)
    ∙ live_heard (live + 2) port place sender channels c bytes is (omega arith)

feedback_heard : (live port place sender : ℕ) (channels : List Served) (c : Served) (bytes : List ℕ) → slice_get channels place ≡ Some c → port ≡ live + 2 * place + 1
    → heard_from live channels sender port bytes ≡ Some (Feedback (id_of c) sender bytes)
feedback_heard live port place sender [] c bytes is e = absurd cc
feedback_heard live port zero sender (b ∷ channels) c bytes is e =
    let same : b ≡ c = cc is in
    at_feedback live port sender bytes b (heard_from (live + 2) channels sender port bytes) (omega arith) ∙ ap (λ (x : Served). Some (Feedback (id_of x) sender bytes)) same
feedback_heard live port (suc place) sender (b ∷ channels) c bytes is e =
    at_others live port sender bytes b (heard_from (live + 2) channels sender port bytes) (λ s. omega arith) (λ s. omega arith)
    ∙ feedback_heard (live + 2) port place sender channels c bytes is (omega arith)

pub ports_are_heard : PortsAreHeard
ports_are_heard live place sender channels c bytes is =
    (live_heard live (live + 2 * place) place sender channels c bytes is refl, feedback_heard live (live + 2 * place + 1) place sender channels c bytes is refl)

below : (live port sender : ℕ) (channels : List Served) (bytes : List ℕ) → port < live → heard_from live channels sender port bytes ≡ None
below live port sender [] bytes less = refl
below live port sender (c ∷ channels) bytes less =
    at_others live port sender bytes c (heard_from (live + 2) channels sender port bytes) (λ s. omega arith) (λ s. omega arith) ∙ below (live + 2) port sender channels bytes (omega arith)

above : (live port sender : ℕ) (channels : List Served) (bytes : List ℕ) → live + 2 * length channels ≤ port → heard_from live channels sender port bytes ≡ None
above live port sender [] bytes more = refl
above live port sender (c ∷ channels) bytes more =
    at_others live port sender bytes c (heard_from (live + 2) channels sender port bytes) (λ s. omega arith) (λ s. omega arith) ∙ above (live + 2) port sender channels bytes (omega arith)

pub other_ports_are_not : OtherPortsAreNot
other_ports_are_not live port sender channels bytes = (below live port sender channels bytes, above live port sender channels bytes)

one_at_most : (o : Option HubEvent) → length (option_to_list o) ≤ 1
one_at_most None = omega arith
one_at_most (Some e) = omega arith

one_tick : (due moment : ℕ) → length (tick_at due moment) ≤ 1
one_tick due moment = cond_both (nat_le due moment) (Tick ∷ []) [] (λ (es : List HubEvent). length es ≤ 1) (λ t. omega arith) (λ f. omega arith)

turns_bring : (live tick due : ℕ) (channels : List Served) (turns : List ServerTurn) → length (events_of_turns live tick channels due turns) ≤ 2 * length turns
unfolding events_of_turns
turns_bring live tick due channels [] = omega arith
turns_bring live tick due channels (turn ∷ turns) =
    let first = option_to_list (heard live channels turn.arrival) in
    let ticks = tick_at due turn.moment in
    let rest = events_of_turns live tick channels (due_after tick due turn.moment) turns in
    let few = turns_bring live tick (due_after tick due turn.moment) channels turns in
    let all : length ((first ++ ticks) ++ rest) ≤ 2 * suc (length turns) =
    omega (arith, one_at_most (heard live channels turn.arrival), one_tick due turn.moment, few, length-append (first ++ ticks) rest, length-append first ticks) in
    all

turns_are : (turns : ℕ) (arrivals : List Incoming) (moments : List ℕ) → length (turns_of turns arrivals moments) ≡ turns
unfolding turns_of
turns_are zero arrivals moments = refl
turns_are (suc turns) arrivals moments = ap suc (turns_are turns (drop 1 arrivals) (later moments))

pub events_are_few : EventsAreFew
events_are_few live tick turns channels arrivals moments =
    let few = turns_bring live tick (next_moment moments + tick) channels (turns_of turns arrivals (later moments)) in
    let count = turns_are turns arrivals (later moments) in
    omega (arith, few, count)
