use Rattle.std.proofs.Common.{◌≡◌, ℕ, ◌+◌, ◌<◌, List, ◌++◌, length, take, replicate, Option, None, Some, option_map, option_to_list, sym, ap, subst, ◌∙◌, arith, append_assoc, length-append}
use Rattle.std.proofs.lemmas.Result.{err_from_is_err_and}
use Rattle.line_io.specs.Passes.{Passes}
use Rattle.line_io.proofs.Passing.{Passes-put}
use Rattle.server_hub.specs.declared.{Heard.Heard, HubEvent.HubEvent, HubEvent.TheVariants.Tick}
use Rattle.server_hub.specs.{event_of}
use Rattle.trace_loop.specs.journal_book.{event_line, event_lines}
use Rattle.trace_loop.specs.{StopsIn}
use Rattle.converters.specs.capture_loop.{ticks_and}
use Rattle.converters.proofs.capture_loop.Bringing.{only_ticks, ticks_and_none, ticks_and_one, ticks_front}
use Rattle.trace_loop.proofs.Stopping.{err_so, only_err}
use Rattle.converters.proofs.capture_loop.Closing.{err_since, stops_before_more, stops_behind}
use Rattle.converters.proofs.capture_loop.Limits.{ticks_length}
use Rattle.converters.proofs.capture_loop.events.write_events.Goals as goal

abbrev event : Option Heard → Option HubEvent
event heard = option_map (λ h. event_of h) heard

-- the event that is there, or none
some_is : (o : Option Heard) (h : Heard) → o ≡ Some h → event o ≡ Some (event_of h)
some_is o h is = ap event is

none_is : (o : Option Heard) → o ≡ None → event o ≡ None
none_is o is = ap event is

-- room for all lines is room for the first of them
first_room : (steady : ℕ → Type 0) (waits all first more : List ℕ) (room : ℕ) → all ≡ first ++ more → steady (length waits + length all + room) → steady (length waits + length first + (length more + room))
first_room steady waits all first more room is h =
    let size : length all ≡ length first + length more = ap length is ∙ length-append first more in
    let same : length waits + length all + room ≡ length waits + length first + (length more + room) = omega arith in
    subst steady same h

pub returns-in_err-put_ticks-clause-front : goal.returns-in_err-put_ticks-clause-front
returns-in_err-put_ticks-clause-front g c =
    let p = err_from_is_err_and c.from_residual.result c.from_residual.ensures.1 in
    let waits = c.args.gather.now in
    let front = ticks_front c.args.room c.args.ticks c.min-count.result (event c.args.heard) c.min-count.ensures in
    let lines = event_lines (replicate c.min-count.result Tick) in
    let stops = stops_before_more (g.K.Sink.held c.args.sink.now) (g.K.Sink.held c.put_ticks.new.sink) (waits ++ lines) c.put_ticks.new.gather front.0 c.in_err-put_ticks.field-0.0 c.in_err-put_ticks.ensures.front in
    err_so c.from_residual.result p.0 c.in_err-put_ticks.field-0.0 _ p.1 p.2
    (subst (λ (t : List ℕ). StopsIn (g.K.Sink.held c.args.sink.now) (g.K.Sink.held c.put_ticks.new.sink) t c.put_ticks.new.gather c.in_err-put_ticks.field-0.0)
    (append_assoc waits lines front.0 ∙ ap (λ (t : List ℕ). waits ++ t) (sym front.1)) stops)

pub returns-in_err-put_ticks-clause-steady : goal.returns-in_err-put_ticks-clause-steady
returns-in_err-put_ticks-clause-steady g c = λ more h.
    let p = err_from_is_err_and c.from_residual.result c.from_residual.ensures.1 in
    let front = ticks_front c.args.room c.args.ticks c.min-count.result (event c.args.heard) c.min-count.ensures in
    let lines = event_lines (replicate c.min-count.result Tick) in
    only_err c.from_residual.result p.0 c.in_err-put_ticks.field-0.0 _ p.1 p.2
    (c.in_err-put_ticks.ensures.steady _ (first_room (g.K.Sink.is_steady c.args.sink.now) c.args.gather.now _ lines front.0 more front.1 h))

-- there is no room for all ticks
pub returns-then-count-ticks-clause-left : goal.returns-then-count-ticks-clause-left
returns-then-count-ticks-clause-left g c =
    let less = c.if-count-ticks.true in
    let is = c.min-count.ensures in
    omega (arith, less, is, ticks_length c.args.ticks (event c.args.heard))

pub returns-then-count-ticks-clause-all : goal.returns-then-count-ticks-clause-all
returns-then-count-ticks-clause-all g c =
    let less = c.if-count-ticks.true in
    let is = c.min-count.ensures in
    subst (λ (t : List ℕ). Passes (g.K.Sink.held c.args.sink.now) (g.K.Sink.held c.put_ticks.new.sink) (c.args.gather.now ++ t) c.put_ticks.new.gather)
    (sym (only_ticks c.args.room c.args.ticks c.min-count.result (event c.args.heard) (omega (arith, less)) (omega (arith, less, is)))) c.in_ok-put_ticks.ensures.all

pub returns-then-count-ticks-clause-steady : goal.returns-then-count-ticks-clause-steady
returns-then-count-ticks-clause-steady g c = λ more h.
    let less = c.if-count-ticks.true in
    let is = c.min-count.ensures in
    c.in_ok-put_ticks.ensures.steady more (subst (λ (t : List ℕ). g.K.Sink.is_steady c.args.sink.now (length c.args.gather.now + length t + more))
    (only_ticks c.args.room c.args.ticks c.min-count.result (event c.args.heard) (omega (arith, less)) (omega (arith, less, is))) h)

-- there is no event
pub returns-in_default-clause-left : goal.returns-in_default-clause-left
returns-in_default-clause-left g c =
    let all = c.if-count-ticks.false in
    let is = c.min-count.ensures in
    let size = ticks_length c.args.ticks (event c.args.heard) in
    let none = ap (λ (o : Option HubEvent). length (option_to_list o)) (none_is c.args.heard c.in_default.is) in
    omega (arith, all, is, size, none)

pub returns-in_default-clause-all : goal.returns-in_default-clause-all
returns-in_default-clause-all g c =
    let all = c.if-count-ticks.false in
    let is = c.min-count.ensures in
    let count : c.args.ticks ≡ c.min-count.result = omega (arith, all, is) in
    let text = ap (λ (o : Option HubEvent). event_lines (take c.args.room (ticks_and c.args.ticks o))) (none_is c.args.heard c.in_default.is) ∙ (ticks_and_none c.args.room c.args.ticks (omega (arith, all, is)) ∙ ap (λ n. event_lines (replicate n Tick)) count) in
    subst (λ (t : List ℕ). Passes (g.K.Sink.held c.args.sink.now) (g.K.Sink.held c.put_ticks.new.sink) (c.args.gather.now ++ t) c.put_ticks.new.gather) (sym text) c.in_ok-put_ticks.ensures.all

pub returns-in_default-clause-steady : goal.returns-in_default-clause-steady
returns-in_default-clause-steady g c = λ more h.
    let all = c.if-count-ticks.false in
    let is = c.min-count.ensures in
    let count : c.args.ticks ≡ c.min-count.result = omega (arith, all, is) in
    let text = ap (λ (o : Option HubEvent). event_lines (take c.args.room (ticks_and c.args.ticks o))) (none_is c.args.heard c.in_default.is) ∙ (ticks_and_none c.args.room c.args.ticks (omega (arith, all, is)) ∙ ap (λ n. event_lines (replicate n Tick)) count) in
    c.in_ok-put_ticks.ensures.steady more (subst (λ (t : List ℕ). g.K.Sink.is_steady c.args.sink.now (length c.args.gather.now + length t + more)) text h)

-- there is no room for it
pub returns-then-count-room-clause-left : goal.returns-then-count-room-clause-left
returns-then-count-room-clause-left g c =
    let all = c.if-count-ticks.false in
    let is = c.min-count.ensures in
    let full = c.if-count-room.true in
    let size = ticks_length c.args.ticks (event c.args.heard) in
    let one = ap (λ (o : Option HubEvent). length (option_to_list o)) (some_is c.args.heard c.in-Some.heard c.in-Some.is) in
    omega (arith, all, is, full, size, one)

pub returns-then-count-room-clause-all : goal.returns-then-count-room-clause-all
returns-then-count-room-clause-all g c =
    let all = c.if-count-ticks.false in
    let is = c.min-count.ensures in
    let full = c.if-count-room.true in
    subst (λ (t : List ℕ). Passes (g.K.Sink.held c.args.sink.now) (g.K.Sink.held c.put_ticks.new.sink) (c.args.gather.now ++ t) c.put_ticks.new.gather)
    (sym (only_ticks c.args.room c.args.ticks c.min-count.result (event c.args.heard) (omega (arith, is)) full)) c.in_ok-put_ticks.ensures.all

pub returns-then-count-room-clause-steady : goal.returns-then-count-room-clause-steady
returns-then-count-room-clause-steady g c = λ more h.
    let is = c.min-count.ensures in
    let full = c.if-count-room.true in
    c.in_ok-put_ticks.ensures.steady more (subst (λ (t : List ℕ). g.K.Sink.is_steady c.args.sink.now (length c.args.gather.now + length t + more))
    (only_ticks c.args.room c.args.ticks c.min-count.result (event c.args.heard) (omega (arith, is)) full) h)

-- its line goes behind those of the ticks
abbrev before_line : List ℕ → ℕ → List ℕ
before_line waits count = waits ++ event_lines (replicate count Tick)

one_text : (room ticks count : ℕ) (o : Option Heard) (h : Heard) (waits : List ℕ) → count ≡ ticks → count < room → o ≡ Some h
    → before_line waits count ++ event_line (event_of h) ≡ waits ++ event_lines (take room (ticks_and ticks (event o)))
one_text room ticks count o h waits all less is =
    append_assoc waits (event_lines (replicate count Tick)) (event_line (event_of h))
    ∙ ap (λ (t : List ℕ). waits ++ t)
    (ap (λ n. event_lines (replicate n Tick) ++ event_line (event_of h)) all
    ∙ (sym (ticks_and_one room ticks (event_of h) (subst (λ n. n < room) all less)) ∙ ap (λ (e : Option HubEvent). event_lines (take room (ticks_and ticks e))) (sym (some_is o h is))))

one_room : (steady : ℕ → Type 0) (room ticks count : ℕ) (o : Option Heard) (h : Heard) (waits : List ℕ) (more : ℕ) → count ≡ ticks → count < room → o ≡ Some h
    → steady (length waits + length (event_lines (take room (ticks_and ticks (event o)))) + more) → steady (length waits + length (event_lines (replicate count Tick)) + (length (event_line (event_of h)) + more))
one_room steady room ticks count o h waits more all less is fits =
    let lines = event_lines (replicate count Tick) in
    let line = event_line (event_of h) in
    let size = ap length (one_text room ticks count o h waits all less is) in
    let same : length waits + length (event_lines (take room (ticks_and ticks (event o)))) + more ≡ length waits + length lines + (length line + more) =
    omega (arith, size, length-append (waits ++ lines) line, length-append waits lines, length-append waits (event_lines (take room (ticks_and ticks (event o))))) in
    subst steady same fits

later_room : (steady : ℕ → Type 0) (waits line : List ℕ) (more : ℕ) → steady (length waits + (length line + more)) → steady (length waits + length line + more)
later_room steady waits line more h = let same : length waits + (length line + more) ≡ length waits + length line + more = omega arith in subst steady same h

pub returns-in_err-put_event-clause-front : goal.returns-in_err-put_event-clause-front
returns-in_err-put_event-clause-front g c =
    let p = err_from_is_err_and c.from_residual-in_err-put_event.result c.from_residual-in_err-put_event.ensures.1 in
    let all = c.if-count-ticks.false in
    let is = c.min-count.ensures in
    let other = c.if-count-room.false in
    let a = g.K.Sink.held c.args.sink.now in
    let d = g.K.Sink.held c.put_event.new.sink in
    let stops = stops_behind a (g.K.Sink.held c.put_ticks.new.sink) d (before_line c.args.gather.now c.min-count.result) c.put_ticks.new.gather _ c.put_event.new.gather c.in_err-put_event.field-0.0 c.in_ok-put_ticks.ensures.all c.in_err-put_event.ensures.front in
    err_so c.from_residual-in_err-put_event.result p.0 c.in_err-put_event.field-0.0 _ p.1 p.2
    (subst (λ (t : List ℕ). StopsIn a d t c.put_event.new.gather c.in_err-put_event.field-0.0)
    (one_text c.args.room c.args.ticks c.min-count.result c.args.heard c.in-Some.heard c.args.gather.now (omega (arith, all, is)) (omega (arith, is, other)) c.in-Some.is) stops)

pub returns-in_err-put_event-clause-cause : goal.returns-in_err-put_event-clause-cause
returns-in_err-put_event-clause-cause g c =
    let p = err_from_is_err_and c.from_residual-in_err-put_event.result c.from_residual-in_err-put_event.ensures.1 in
    err_since _ _ _ c.from_residual-in_err-put_event.result p.0 c.in_err-put_event.field-0.0 p.1 p.2 c.put_ticks.ensures.cause.later c.put_event.ensures.cause.later c.in_err-put_event.ensures.cause.cause

pub returns-in_err-put_event-clause-steady : goal.returns-in_err-put_event-clause-steady
returns-in_err-put_event-clause-steady g c = λ more h.
    let p = err_from_is_err_and c.from_residual-in_err-put_event.result c.from_residual-in_err-put_event.ensures.1 in
    let all = c.if-count-ticks.false in
    let is = c.min-count.ensures in
    let other = c.if-count-room.false in
    let line = event_line (event_of c.in-Some.heard) in
    let first = c.in_ok-put_ticks.ensures.steady _ (one_room (g.K.Sink.is_steady c.args.sink.now) c.args.room c.args.ticks c.min-count.result c.args.heard c.in-Some.heard c.args.gather.now more (omega (arith, all, is)) (omega (arith, is, other)) c.in-Some.is h) in
    only_err c.from_residual-in_err-put_event.result p.0 c.in_err-put_event.field-0.0 _ p.1 p.2
    (c.in_err-put_event.ensures.steady more (later_room (g.K.Sink.is_steady c.put_ticks.new.sink) c.put_ticks.new.gather line more first))

pub returns-clause-left : goal.returns-clause-left
returns-clause-left g c =
    let all = c.if-count-ticks.false in
    let is = c.min-count.ensures in
    let other = c.if-count-room.false in
    let size = ticks_length c.args.ticks (event c.args.heard) in
    let one = ap (λ (o : Option HubEvent). length (option_to_list o)) (some_is c.args.heard c.in-Some.heard c.in-Some.is) in
    omega (arith, all, is, other, size, one)

pub returns-clause-all : goal.returns-clause-all
returns-clause-all g c =
    let all = c.if-count-ticks.false in
    let is = c.min-count.ensures in
    let other = c.if-count-room.false in
    let a = g.K.Sink.held c.args.sink.now in
    let d = g.K.Sink.held c.put_event.new.sink in
    subst (λ (t : List ℕ). Passes a d t c.put_event.new.gather)
    (one_text c.args.room c.args.ticks c.min-count.result c.args.heard c.in-Some.heard c.args.gather.now (omega (arith, all, is)) (omega (arith, is, other)) c.in-Some.is)
    (Passes-put a (g.K.Sink.held c.put_ticks.new.sink) d (before_line c.args.gather.now c.min-count.result) c.put_ticks.new.gather _ c.put_event.new.gather c.in_ok-put_ticks.ensures.all c.in_ok-put_event.ensures.all)

pub returns-clause-steady : goal.returns-clause-steady
returns-clause-steady g c = λ more h.
    let all = c.if-count-ticks.false in
    let is = c.min-count.ensures in
    let other = c.if-count-room.false in
    let line = event_line (event_of c.in-Some.heard) in
    let first = c.in_ok-put_ticks.ensures.steady _ (one_room (g.K.Sink.is_steady c.args.sink.now) c.args.room c.args.ticks c.min-count.result c.args.heard c.in-Some.heard c.args.gather.now more (omega (arith, all, is)) (omega (arith, is, other)) c.in-Some.is h) in
    c.in_ok-put_event.ensures.steady more (later_room (g.K.Sink.is_steady c.put_ticks.new.sink) c.put_ticks.new.gather line more first)
