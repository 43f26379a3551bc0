-- What a record brings.
use Rattle.std.proofs.Common.{◌≡◌, ℕ, zero, suc, ◌+◌, ◌-◌, ◌<◌, ◌≤◌, min, inl, inr, List, [], ◌∷◌, ◌++◌, take, drop, replicate, slice_range, Option, None, Some, option_to_list, append-nil, sym, ap, subst, ◌∙◌, arith}
use Rattle.std.specs.Prelude.{All, IfSome}
use Rattle.std.proofs.lemmas.List.Elements.{All-nil, All-cons, All-append}
use Rattle.converters.specs.declared.capture_loop.pcap_trace.header.Record.{Record}
use Rattle.converters.specs.capture_loop.pcap_trace.{Elapsed, ticks_between}
use Rattle.server_hub.specs.declared.{HubEvent.HubEvent, HubEvent.TheVariants.Tick}
use Rattle.server_hub.specs.Served.{Served}
use Rattle.trace_loop.specs.journal_book.{CanCome, EventsAreSpelled, HasLine, event_line, event_lines}
use Rattle.trace_loop.proofs.journal_book.EventLines.{lines_append}
use Rattle.converters.specs.capture_loop.{captured_in, frame_heard, record_events, ticks_and}
use Rattle.converters.proofs.capture_loop.Limits.{fits_or_not, ticks_alone, ticks_first}

-- the bytes of a frame, behind the header
pub frame_is : (bytes kept : List ℕ) (len : ℕ) → bytes ≡ kept → slice_range bytes 16 (16 + len) ≡ take len (drop 16 kept)
frame_is bytes kept len same =
    let size : 16 + len - 16 ≡ len = omega arith in
    ap (λ n. take n (drop 16 bytes)) size ∙ ap (λ (l : List ℕ). take len (drop 16 l)) same

pub events_are : (port : ℕ) (channels : List Served) (clock : Elapsed) (header : Record) (kept frame : List ℕ) (ticks : ℕ) (event : Option HubEvent) → ticks ≡ ticks_between clock header.ms → event ≡ frame_heard port channels frame
    → frame ≡ take header.len (drop 16 kept) → ticks_and ticks event ≡ record_events port channels clock (captured_in kept header)
events_are port channels clock header kept frame ticks event due heard is =
    ap (λ n. ticks_and n event) due ∙ ap (ticks_and (ticks_between clock header.ms)) (heard ∙ ap (frame_heard port channels) is)

-- each has a line that a trace may have
ticks_spelled : EventsAreSpelled → (n : ℕ) → All HasLine (replicate n Tick)
ticks_spelled spells zero = All-nil HasLine
ticks_spelled spells (suc n) = All-cons HasLine Tick (replicate n Tick) (spells Tick tt) (ticks_spelled spells n)

event_spelled : EventsAreSpelled → (event : Option HubEvent) → IfSome event CanCome → All HasLine (option_to_list event)
event_spelled spells None can = All-nil HasLine
event_spelled spells (Some h) can = All-cons HasLine h [] (spells h can) (All-nil HasLine)

pub events_spelled : EventsAreSpelled → (ticks : ℕ) (event : Option HubEvent) → IfSome event CanCome → All HasLine (ticks_and ticks event)
events_spelled spells ticks event can = All-append HasLine (replicate ticks Tick) (option_to_list event) (ticks_spelled spells ticks) (event_spelled spells event can)

-- What is written of ticks and an event, as far as there is room: all ticks, or so many as there is room for; and then the event.
pub only_ticks : (room ticks count : ℕ) (event : Option HubEvent) → count ≤ ticks → count ≡ room → event_lines (take room (ticks_and ticks event)) ≡ event_lines (replicate count Tick)
only_ticks room ticks count event h is =
    ap event_lines (ticks_alone room ticks event (omega (arith, is))) ∙ ap (λ n. event_lines (replicate n Tick)) (sym is)

pub ticks_and_none : (room ticks : ℕ) → ticks ≤ room → event_lines (take room (ticks_and ticks None)) ≡ event_lines (replicate ticks Tick)
ticks_and_none room ticks h =
    let left : (room - ticks) + ticks ≡ room = omega arith in
    ap event_lines (ticks_first room (room - ticks) ticks None left) ∙ (lines_append (replicate ticks Tick) (take (room - ticks) []) ∙ by (room - ticks))
  where
    by : (n : ℕ) → event_lines (replicate ticks Tick) ++ event_lines (take n []) ≡ event_lines (replicate ticks Tick)
    by zero = append-nil (event_lines (replicate ticks Tick))
    by (suc n) = append-nil (event_lines (replicate ticks Tick))

pub ticks_and_one : (room ticks : ℕ) (h : HubEvent) → ticks < room → event_lines (take room (ticks_and ticks (Some h))) ≡ event_lines (replicate ticks Tick) ++ event_line h
ticks_and_one room ticks h less =
    let left : suc (room - ticks - 1) + ticks ≡ room = omega arith in
    ap event_lines (ticks_first room (suc (room - ticks - 1)) ticks (Some h) left)
    ∙ (lines_append (replicate ticks Tick) (take (suc (room - ticks - 1)) (h ∷ [])) ∙ ap (λ (l : List ℕ). event_lines (replicate ticks Tick) ++ l) (by (room - ticks - 1)))
  where
    by : (n : ℕ) → event_lines (take (suc n) (h ∷ [])) ≡ event_line h
    by zero = append-nil (event_line h)
    by (suc n) = append-nil (event_line h)

-- The ticks for which there is room are in front.
abbrev HasFront : ℕ → ℕ → ℕ → Option HubEvent → Type 0
HasFront room ticks count event = (more : List ℕ) × (event_lines (take room (ticks_and ticks event)) ≡ event_lines (replicate count Tick) ++ more)

all_in_front : (room ticks : ℕ) (event : Option HubEvent) → ticks < room → HasFront room ticks ticks event
all_in_front room ticks None fits = ([], ticks_and_none room ticks (omega arith) ∙ sym (append-nil (event_lines (replicate ticks Tick))))
all_in_front room ticks (Some h) fits = (event_line h, ticks_and_one room ticks h fits)

pub ticks_front : (room ticks count : ℕ) (event : Option HubEvent) → count ≡ min ticks room → HasFront room ticks count event
ticks_front room ticks count event is = elim (fits_or_not room ticks) as (λ _. HasFront room ticks count event) [
  | inl full ↦ ([], only_ticks room ticks count event (omega (arith, is)) (omega (arith, is)) ∙ sym (append-nil (event_lines (replicate count Tick))))
  | inr fits ↦ let all : ticks ≡ count = omega (arith, is) in subst (λ n. HasFront room ticks n event) all (all_in_front room ticks event fits)
]
