-- The events of a trace are made of bytes.
use Rattle.std.proofs.Common.{◌≡◌, ℕ, ◌<◌, List, [], ◌∷◌, ◌++◌, suc, refl, subst, eqb, arith}
use Rattle.std.specs.Prelude.{All, IfSome, Result, Ok, Err, if◌then◌else◌, ◌==◌}
use Rattle.std.proofs.lemmas.Bool.{cond_both}
use Rattle.std.specs.List.{AllByRecursion}
use Rattle.std.proofs.lemmas.List.{map-append}
use Rattle.std.proofs.lemmas.List.Elements.{All-nil, All-cons, All-head, All-tail, All-weaker, recursion_from_All}
use Rattle.hex.specs.Hex.{IsBytes, decode_of}
use Rattle.hex.specs.declared.error.FromHexError.{FromHexError}
use Rattle.hex.proofs.HexLemmas.{decode_of-ok}
use Rattle.rams_model.specs.declared.Event.{Event}
use Rattle.rams_model.specs.declared.Event.TheVariants as event
use Rattle.rams_model.specs.Texts.{decoded, bytes_in, TraceLine, head_line, channel_line, live_line, feedback_line, tick_line, end_line, tune_line, give_line, mcast_line, ask_line, drop_line}
use Rattle.rams_model.specs.Service.{Entry, Book, events_of as events_in}
use Rattle.service_laws.specs.byte_laws.{HasBytes}
use Rattle.server_hub.specs.declared.HubEvent.{HubEvent}
use Rattle.server_hub.specs.{events_of}
use Rattle.server_hub.specs.declared.HubEvent.TheVariants.{Live, Feedback, Tick}
use Rattle.trace_loop.specs.trace_book.trace_serving.{brought}
use Rattle.trace_loop.proofs.trace_book.trace_serving.Brought.{all_came}
use Rattle.trace_loop.specs.trace_book.{run, IsOfBytes, came}

abbrev AreBytes : List ℕ → Type 0
AreBytes bytes = All (λ b. b < 256) bytes

all_bytes : (bytes : List ℕ) → IsBytes bytes → AreBytes bytes
all_bytes [] h = All-nil (λ b. b < 256)
all_bytes (b ∷ bytes) h = All-cons (λ x. x < 256) b bytes (h 0) (all_bytes bytes (λ i. h (suc i)))

decoded_bytes : (word : List ℕ) (r : Result (List ℕ) FromHexError) → decode_of word ≡ r → AreBytes (decoded r)
decoded_bytes word (Err fault) e = All-nil (λ b. b < 256)
decoded_bytes word (Ok bytes) e = all_bytes bytes (decode_of-ok word bytes e).3

pub hex_bytes : (word : List ℕ) → AreBytes (bytes_in word)
hex_bytes word = decoded_bytes word (decode_of word) refl

-- so of an event of the server
abbrev IsHubOfBytes : HubEvent → Type 0
IsHubOfBytes (Live id bytes) = AreBytes bytes
IsHubOfBytes (Feedback id client bytes) = AreBytes bytes
IsHubOfBytes Tick = Unit {0}

line_brings : (line : TraceLine) → IfSome (brought run line) IsHubOfBytes
line_brings (live_line id hex) = hex_bytes hex
line_brings (feedback_line id client hex) = hex_bytes hex
line_brings tick_line = tt
line_brings (head_line version tick link) = tt
line_brings (channel_line version c) = tt
line_brings end_line = tt
line_brings (tune_line id client ssrc) = tt
line_brings (give_line n) = tt
line_brings (mcast_line id client n) = tt
line_brings (ask_line id client) = tt
line_brings (drop_line id client) = tt

-- the rest of what holds of each
others : (e : HubEvent) (events : List HubEvent) → All IsHubOfBytes (e ∷ events) → All IsHubOfBytes events
others e events a = λ k d less. a (suc k) d (omega (arith, less))

-- so of the events of a channel
with_one : (id other : ℕ) (e : Event) (events : List Event) → IsOfBytes e → All IsOfBytes events → All IsOfBytes (if id == other then e ∷ events else events)
with_one id other e events i a = cond_both (eqb id other) (e ∷ events) events (All IsOfBytes) (λ t. All-cons IsOfBytes e events i a) (λ f. a)

channel_gets : (id : ℕ) (events : List HubEvent) → All IsHubOfBytes events → All IsOfBytes (events_of id events)
unfolding events_of
channel_gets id [] a = All-nil IsOfBytes
channel_gets id (Live other bytes ∷ events) a =
    with_one id other (event.Live bytes) (events_of id events) (a 0 Tick (omega arith)) (channel_gets id events (others (Live other bytes) events a))
channel_gets id (Feedback other client bytes ∷ events) a =
    with_one id other (event.Feedback client bytes) (events_of id events) (a 0 Tick (omega arith)) (channel_gets id events (others (Feedback other client bytes) events a))
channel_gets id (Tick ∷ events) a = All-cons IsOfBytes event.Tick (events_of id events) tt (channel_gets id events (others Tick events a))

-- what comes to a channel of a trace is made of bytes
pub trace_bytes : (trace : List ℕ) (id : ℕ) → All IsOfBytes (events_of id (came trace))
trace_bytes trace id = channel_gets id (came trace) (all_came run IsHubOfBytes line_brings trace)

-- what came as live packets is bytes
has_bytes : (e : Event) → IsOfBytes e → HasBytes e
has_bytes (event.Live bytes) b = b
has_bytes (event.Feedback client bytes) b = tt
has_bytes event.Tick b = tt

pub have_bytes : (events : List Event) → All IsOfBytes events → AllByRecursion HasBytes events
have_bytes events a = recursion_from_All HasBytes events (All-weaker IsOfBytes HasBytes has_bytes events a)

-- so is an earlier part of a book
later_part : (xs ys : List Event) → All IsOfBytes (xs ++ ys) → All IsOfBytes ys
later_part [] ys a = a
later_part (x ∷ xs) ys a = later_part xs ys (All-tail IsOfBytes x (xs ++ ys) a)

pub have_part : (later earlier : Book) → All IsOfBytes (events_in (later ++ earlier)) → AllByRecursion HasBytes (events_in earlier)
have_part later earlier a =
    have_bytes (events_in earlier) (later_part (events_in later) (events_in earlier) (subst (All IsOfBytes) (map-append (λ (e : Entry). e.event) later earlier) a))

pub bytes_of : (later events : List Event) (client : ℕ) (bytes : List ℕ) → All IsOfBytes (later ++ event.Feedback client bytes ∷ events) → AreBytes bytes
bytes_of later events client bytes a = All-head IsOfBytes (event.Feedback client bytes) events (later_part later (event.Feedback client bytes ∷ events) a)
