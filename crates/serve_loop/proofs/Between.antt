-- What a server has between two events.
use Rattle.std.proofs.Common.{◌≡◌, ℕ, ◌<◌, ◌≤◌, false, leb, List, [], ◌∷◌, take, drop, Option, None, Some, option_to_list, Result, Ok, refl, sym, ap, subst, ◌∙◌, arith}
use Rattle.std.proofs.lemmas.Bool.{le-leb}
use Rattle.std.proofs.lemmas.Bool.Decides.{nat_tests}
use Rattle.ram_io.specs.declared.{Failed.Failed, Arrival.Arrival, Incoming.Incoming}
use Rattle.ram_io.specs.{GivesNext, Outgoing, TakesNext, cut, later, next_answer, seen}
use Rattle.server_hub.specs.declared.{HubEvent.HubEvent, HubEvent.TheVariants.Tick}
use Rattle.server_hub.specs.Seen.{Seen}
use Rattle.trace_loop.specs.journal_book.{heard, heard_from, next_moment, tick_at}
use Rattle.serve_loop.specs.{Begun, Ready, GoesOn, IsBetween, AnswersFrom, next_events}

lt-leb-false : (due moment : ℕ) → moment < due → leb due moment ≡ false
lt-leb-false due moment less = grind (arith, nat_tests)

-- it is ready for an event
pub between_ready : (b : Begun) (events : List HubEvent) (live : ℕ) (ids : List ℕ) (v : Seen) (holds : Option (List ℕ)) (waits : List ℕ) (sent : Option (List Outgoing)) (h : HubEvent) (first : ℕ)
    → IsBetween b events live ids v holds waits sent → AnswersFrom live ids h first → Ready b events v holds waits sent h first
between_ready b events live ids v holds waits sent h first i from = record {
  apart = i.apart;
  stands = i.stands;
  serving = i.serving;
  from = subst (λ (l : List ℕ). AnswersFrom b.live l h first) i.ids_are (subst (λ n. AnswersFrom n ids h first) i.live_is from);
}

-- and goes on behind it
pub between_after : (b : Begun) (events later : List HubEvent) (live now : ℕ) (ids are : List ℕ) (v w : Seen) (holds a : Option (List ℕ)) (waits left : List ℕ) (sent out : Option (List Outgoing))
    → IsBetween b events live ids v holds waits sent → now ≡ live → are ≡ ids → GoesOn b later w a left out → IsBetween b later now are w a left out
between_after b events later live now ids are v w holds a waits left sent out i same_port same_ids g = record {
  live_is = same_port ∙ i.live_is;
  ids_are = same_ids ∙ i.ids_are;
  apart = i.apart;
  stands = g.stands;
  serving = g.serving;
}

-- what a wire that tells its answers gave
pub told_next : (old new : Option (List Incoming)) (r : Result (Option Arrival) Failed) (a : Option Arrival) (buf : List ℕ) (arrivals : List Incoming) → r ≡ Ok a → old ≡ Some arrivals → TakesNext old new r buf
    → (seen a buf ≡ cut (next_answer arrivals)) × (new ≡ Some (drop 1 arrivals))
told_next old new r a buf arrivals is told next =
    subst (λ (x : Result (Option Arrival) Failed). TakesNext (Some arrivals) new x buf) is (subst (λ (o : Option (List Incoming)). TakesNext o new r buf) told next)

-- nothing came
pub nothing_next : (b : Begun) (arrivals : List Incoming) (buf : List ℕ) → seen None buf ≡ cut (next_answer arrivals) → next_events b arrivals ≡ []
nothing_next b arrivals buf is = ap (λ (i : Incoming). option_to_list (heard b.live b.channels i)) (sym is)

-- a datagram came
pub datagram_next : (b : Begun) (arrivals : List Incoming) (a : Arrival) (buf bytes : List ℕ) (live : ℕ) (o : Option HubEvent) → seen (Some a) buf ≡ cut (next_answer arrivals) → live ≡ b.live → bytes ≡ take a.len buf
    → o ≡ heard_from live b.channels a.from a.port bytes → next_events b arrivals ≡ option_to_list o
datagram_next b arrivals a buf bytes live o is same part heard_is =
    ap (λ (i : Incoming). option_to_list (heard b.live b.channels i)) (sym is)
    ∙ ap option_to_list (sym (heard_is ∙ ap (λ n. heard_from n b.channels a.from a.port bytes) same ∙ ap (heard_from b.live b.channels a.from a.port) part))

-- a tick is due, or not
pub tick_due : (due moment : ℕ) → due ≤ moment → tick_at due moment ≡ Tick ∷ []
tick_due due moment less = rw (le-leb due moment less) refl

pub no_tick_due : (due moment : ℕ) → moment < due → tick_at due moment ≡ []
no_tick_due due moment less = rw (lt-leb-false due moment less) refl

-- the moment that a clock gave, where it tells its moments
pub told_moment : (old new : Option (List ℕ)) (result : ℕ) (moments : List ℕ) → old ≡ Some moments → GivesNext old new result → (result ≡ next_moment moments) × (new ≡ Some (later moments))
told_moment old new result moments told gives = subst (λ (o : Option (List ℕ)). GivesNext o new result) told gives
