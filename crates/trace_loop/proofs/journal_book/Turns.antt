-- What comes in some turns can come, and makes a journal.
use Rattle.std.proofs.Common.{ℕ, zero, suc, ◌+◌, ◌<◌, eqb, nat_le, cond, List, [], ◌∷◌, ◌++◌, take, drop, get_or, Option, Some, None, option_to_list, arith, length-take}
use Rattle.std.specs.Prelude.{All, IfSome}
use Rattle.std.proofs.lemmas.Bool.{cond_both}
use Rattle.std.proofs.lemmas.List.Elements.{All-nil, All-cons, All-append, All-take}
use Rattle.ram_io.specs.declared.{Incoming.Incoming, Incoming.TheVariants.Nothing, Incoming.TheVariants.Datagram}
use Rattle.ram_io.specs.{cut, next_answer, later}
use Rattle.server_hub.specs.declared.HubEvent.{HubEvent}
use Rattle.server_hub.specs.declared.HubEvent.TheVariants.{Live, Feedback, Tick}
use Rattle.server_hub.specs.Served.{Served}
use Rattle.server_hub.specs.{id_of}
use Rattle.trace_loop.specs.journal_book.{heard_from, heard, CanArrive, next_moment, turns_of, tick_at, due_after, events_of_turns, events_of, IsNumber, HasLine, CanCome, HeadsOpenNewChannels, WhatIsHeardCanCome, TurnsMakeJournals}
use Rattle.trace_loop.proofs.journal_book.Heard.{events_are_few}
use Rattle.trace_loop.proofs.journal_book.Spelled.{events_are_spelled}

abbrev AreNumbered : List Served → Type 0
AreNumbered channels = All (λ c. IsNumber (id_of c)) channels

pub heard_can_come : WhatIsHeardCanCome
heard_can_come live sender port [] bytes numbered arrives short = tt
heard_can_come live sender port (c ∷ channels) bytes numbered arrives short =
    let rest = heard_can_come (live + 2) sender port channels bytes (λ k d less. numbered (suc k) d (omega (arith, less))) arrives short in
    let number : IsNumber (id_of c) = numbered 0 c (omega arith) in
    let others = heard_from (live + 2) channels sender port bytes in
    let behind = cond (eqb port (live + 1)) (Some (Feedback (id_of c) sender bytes)) others in
    cond_both (eqb port live) (Some (Live (id_of c) bytes)) behind (λ (o : Option HubEvent). IfSome o CanCome) (λ t. record { number = number; short = short; octets = arrives.1 })
    (λ f. cond_both (eqb port (live + 1)) (Some (Feedback (id_of c) sender bytes)) others (λ (o : Option HubEvent). IfSome o CanCome)
    (λ t. (record { number = number; short = short; octets = arrives.1 }, arrives.0)) (λ g. rest))

-- an arrival that was cut
cut_can_come : (live : ℕ) (channels : List Served) (arrival : Incoming) → AreNumbered channels → CanArrive arrival → IfSome (heard live channels (cut arrival)) CanCome
cut_can_come live channels Nothing numbered arrives = tt
cut_can_come live channels (Datagram sender port bytes) numbered arrives =
    heard_can_come live sender port channels (take 2000 bytes) numbered (arrives.0, All-take (λ b. b < 256) 2000 bytes arrives.1) (omega (arith, length-take 2000 bytes))

one_can : (o : Option HubEvent) → IfSome o CanCome → All CanCome (option_to_list o)
one_can None h = All-nil CanCome
one_can (Some event) h = All-cons CanCome event [] h (All-nil CanCome)

tick_can : (due moment : ℕ) → All CanCome (tick_at due moment)
tick_can due moment = cond_both (nat_le due moment) (Tick ∷ []) [] (All CanCome) (λ t. All-cons CanCome Tick [] tt (All-nil CanCome)) (λ f. All-nil CanCome)

first_arrives : (arrivals : List Incoming) → All CanArrive arrivals → CanArrive (next_answer arrivals)
first_arrives [] h = tt
first_arrives (a ∷ arrivals) h = h 0 a (omega arith)

rest_arrive : (arrivals : List Incoming) → All CanArrive arrivals → All CanArrive (drop 1 arrivals)
rest_arrive [] h = All-nil CanArrive
rest_arrive (a ∷ arrivals) h = λ k d less. h (suc k) d (omega (arith, less))

turns_can : (live tick due turns : ℕ) (channels : List Served) (arrivals : List Incoming) (moments : List ℕ) → AreNumbered channels → All CanArrive arrivals
    → All CanCome (events_of_turns live tick channels due (turns_of turns arrivals moments))
unfolding events_of_turns turns_of
turns_can live tick due zero channels arrivals moments numbered arrive = All-nil CanCome
turns_can live tick due (suc turns) channels arrivals moments numbered arrive =
    let moment = next_moment moments in
    let first = option_to_list (heard live channels (cut (next_answer arrivals))) in
    let next = due_after tick due moment in
    All-append CanCome (first ++ tick_at due moment) (events_of_turns live tick channels next (turns_of turns (drop 1 arrivals) (later moments)))
    (All-append CanCome first (tick_at due moment) (one_can (heard live channels (cut (next_answer arrivals))) (cut_can_come live channels (next_answer arrivals) numbered (first_arrives arrivals arrive))) (tick_can due moment))
    (turns_can live tick next turns channels (drop 1 arrivals) (later moments) numbered (rest_arrive arrivals arrive))

all_spelled : (events : List HubEvent) → All CanCome events → All HasLine events
all_spelled events h = λ k d less. events_are_spelled (get_or events k d) (h k d less)

pub turns_make_journals : HeadsOpenNewChannels → TurnsMakeJournals
turns_make_journals opened live tick turns head channels arrivals moments opens arrive few =
    let most = events_are_few live tick turns channels arrivals moments in
    record {
      opens = opens;
      lines = all_spelled (events_of live tick channels turns arrivals moments) (turns_can live tick (next_moment moments + tick) turns channels arrivals (later moments) (opened head channels opens).numbered arrive);
      few = omega (arith, most, few);
    }
