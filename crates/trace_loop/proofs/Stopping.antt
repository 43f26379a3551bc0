-- How a call of several pieces ends.
use Rattle.std.proofs.Common.{◌≡◌, ℕ, ◌+◌, ◌≤◌, List, ◌++◌, length, Option, Result, Err, IfErr, sym, ◌∙◌, subst, length-append, arith}
use Rattle.line_io.specs.Passes.{Passes}
use Rattle.line_io.proofs.Passing.{Passes-put}
use Rattle.trace_loop.specs.declared.stop.Stop.{Stop}
use Rattle.trace_loop.specs.declared.stop.Stop.TheVariants.{Memory, Read, Write, Wire}
use Rattle.trace_loop.specs.{IsWriteStop, OnlyMemoryStops, StopsIn}
use Rattle.trace_loop.proofs.Reading.{rose_since}
use Rattle.trace_loop.proofs.Writing.{IsWriting}

-- what holds of the stop that a call gives on
pub err_so : {T : Type 0} (r : Result T Stop) (stop was : Stop) (P : Stop → Type 0) → r ≡ Err stop → stop ≡ was → P was → IfErr r P
err_so {T} r stop was P is same p = subst (λ (q : Result T Stop). IfErr q P) (sym is) (subst P (sym same) p)

pub only_err : {T : Type 0} (r : Result T Stop) (stop was : Stop) (P : Type 0) → r ≡ Err stop → stop ≡ was → was ≡ Memory → OnlyMemoryStops r P
only_err {T} r stop was P is same memory = subst (λ (q : Result T Stop). OnlyMemoryStops q P) (sym is) (same ∙ memory)

-- the sink stopped a call that began before
pub write_since : (write mid writes : ℕ) (stop : Stop) → write ≤ mid → IsWriteStop mid writes stop → IsWriteStop write writes stop
write_since write mid writes Memory less cause = tt
write_since write mid writes Read less cause = cause
write_since write mid writes Write less cause = rose_since write mid writes less cause
write_since write mid writes Wire less cause = cause

-- room for what waits and for a text, together
pub together : (steady : ℕ → Type 0) (waits text : List ℕ) (room : ℕ) → steady (length waits + length text + room) → steady (length (waits ++ text) + room)
together steady waits text room h =
    let same : length waits + length text + room ≡ length (waits ++ text) + room = omega (arith, length-append waits text) in
    subst steady same h

-- the last piece
pub writing_last : (a b c : Option (List ℕ)) (before now : ℕ) (steady_then steady : ℕ → Type 0) (whole waiting last waits : List ℕ) → IsWriting a b before now steady_then steady whole waiting last
    → Passes b c (waiting ++ last) waits → Passes a c whole waits
writing_last a b c before now steady_then steady whole waiting last waits w p =
    subst (λ (l : List ℕ). Passes a c l waits) (sym w.joins) (Passes-put a b c w.written waiting last waits w.passes p)

-- a front has gone, whatever stopped it
pub stops_front : (a b : Option (List ℕ)) (text waits : List ℕ) (stop : Stop) → StopsIn a b text waits stop → (rest : List ℕ) × Passes a b text rest
stops_front a b text waits Memory p = (waits ++ p.0, p.1)
stops_front a b text waits Read p = (waits ++ p.0, p.1)
stops_front a b text waits Write p = p
stops_front a b text waits Wire p = (waits ++ p.0, p.1)
