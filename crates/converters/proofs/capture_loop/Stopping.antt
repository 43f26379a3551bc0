-- How a call ends that calls others.
use Rattle.std.proofs.Common.{◌≡◌, ℕ, ◌+◌, ◌≤◌, List, ◌++◌, length, Option, Result, Ok, Err, IfOk, IfErr, OnOk, sym, ap, subst, ◌∙◌, arith, append_assoc, length-append}
use Rattle.rams_model.specs.declared.{Status.Status, Status.TheVariants.Done}
use Rattle.trace_loop.specs.declared.Stop.{Stop}
use Rattle.trace_loop.specs.declared.Stop.TheVariants.{Memory, Read, Write, Wire}
use Rattle.trace_loop.specs.{IsStop, IsStopped, IsStoppedByWrite, IsWriteStop, StopsIn}
use Rattle.trace_loop.proofs.Reading.{rose_since}
use Rattle.converters.specs.declared.capture_loop.last.End.{End}
use Rattle.converters.specs.declared.capture_loop.last.End.TheVariants.{Whole, Refused, TooLong}
use Rattle.converters.specs.capture_loop.{IsCaptureEnd, last}
use Rattle.converters.proofs.capture_loop.Closing.{done_is_whole, stops_before_more}

-- a call that gives a stop on doesn't end well
pub not_ok : {T : Type 0} (r : Result T Stop) (stop : Stop) (y : T) → r ≡ Err stop → r ≡ Ok y → ⊥
not_ok {T} r stop y is e = let no : ◌≡◌ {A = Result T Stop} (Err stop) (Ok y) = sym is ∙ e in cc

-- the stop that it gives on
pub read_was : {T U : Type 0} (r : Result T Stop) (stop was : Stop) → r ≡ Err stop → stop ≡ was → r ≡ Err Read → ◌≡◌ {A = Result U Stop} (Err was) (Err Read)
read_was {T} {U} r stop was is same e = let read : ◌≡◌ {A = Result T Stop} (Err stop) (Err Read) = sym is ∙ e in let so : stop ≡ Read = cc in ap Err (sym same ∙ so)

pub given_on : {T U : Type 0} (read reads write writes : ℕ) (r : Result T Stop) (stop was : Stop) → r ≡ Err stop → stop ≡ was → IsStopped read reads write writes (let q : Result U Stop = Err was in q) → IsStopped read reads write writes r
given_on {T} {U} read reads write writes r stop was is same s = record {
  read_later = s.read_later;
  write_later = s.write_later;
  cause = subst (λ (q : Result T Stop). IfErr q (IsStop read reads write writes)) (sym is) (subst (IsStop read reads write writes) (sym same) s.cause);
}

-- each status is one of an end
pub capture_end : (end : End) → IsCaptureEnd (last end).status
capture_end Whole = tt
capture_end (Refused number fault) = tt
capture_end TooLong = tt

pub ends_so : (r : Result Status Stop) (end : End) → IfOk r (λ status. status ≡ (last end).status) → IfOk r IsCaptureEnd
ends_so (Ok status) end is = subst IsCaptureEnd (sym is) (capture_end end)
ends_so (Err stop) end is = tt

pub done_end : (r : Result Status Stop) (end : End) → IfOk r (λ status. status ≡ (last end).status) → r ≡ Ok Done → end ≡ Whole
done_end (Ok status) end is e = let so : status ≡ Done = cc in done_is_whole end (sym is ∙ so)
done_end (Err stop) end is e = cc

-- what follows where a call ends well
pub both_ok : {T : Type 0} (r : Result T Stop) (P : T → Type 0) (Q : Type 0) (R : T → Type 0) → ((t : T) → P t → Q → R t) → IfOk r P → OnOk r Q → IfOk r R
both_ok {T} (Ok t) P Q R f p q = f t p q
both_ok {T} (Err stop) P Q R f p q = p

pub stop_so : (read reads write mid writes : ℕ) (stop : Stop) → write ≤ mid → IsWriteStop mid writes stop → IsStop read reads write writes stop
stop_so read reads write mid writes Memory less stops = tt
stop_so read reads write mid writes Read less stops = absurd stops
stop_so read reads write mid writes Write less stops = rose_since write mid writes less stops
stop_so read reads write mid writes Wire less stops = stops

pub stopped_then : {T U : Type 0} (read reads write mid writes : ℕ) (was : Result T Stop) (r : Result U Stop) → IsStopped read reads write mid was → IsStoppedByWrite mid writes r → IsStopped read reads write writes r
stopped_then {T} {U} read reads write mid writes was r s t = record {
  read_later = s.read_later;
  write_later = let before = s.write_later in let after = t.later in omega arith;
  cause = by r t.cause;
}
  where
    by : (q : Result U Stop) → IfErr q (IsWriteStop mid writes) → IfErr q (IsStop read reads write writes)
    by (Ok u) h = tt
    by (Err stop) h = stop_so read reads write mid writes stop s.write_later h

-- a sink that stopped nothing, and then both
both_so : (read reads write mid writes : ℕ) (stop : Stop) → write ≤ mid → IsStop read reads mid writes stop → IsStop read reads write writes stop
both_so read reads write mid writes Memory less stops = tt
both_so read reads write mid writes Read less stops = stops
both_so read reads write mid writes Write less stops = rose_since write mid writes less stops
both_so read reads write mid writes Wire less stops = stops

pub stopped_behind : {T : Type 0} (read reads write mid writes : ℕ) (r : Result T Stop) → write ≤ mid → IsStopped read reads mid writes r → IsStopped read reads write writes r
stopped_behind {T} read reads write mid writes r less s = record {
  read_later = s.read_later;
  write_later = let after = s.write_later in omega arith;
  cause = by r s.cause;
}
  where
    by : (q : Result T Stop) → IfErr q (IsStop read reads mid writes) → IfErr q (IsStop read reads write writes)
    by (Ok u) h = tt
    by (Err stop) h = both_so read reads write mid writes stop less h

-- the first of two texts stops
pub first_stops : (a b : Option (List ℕ)) (waited text more waits : List ℕ) (stop : Stop) → StopsIn a b (waited ++ text) waits stop → StopsIn a b (waited ++ (text ++ more)) waits stop
first_stops a b waited text more waits stop p = subst (λ (t : List ℕ). StopsIn a b t waits stop) (append_assoc waited text more) (stops_before_more a b (waited ++ text) waits more stop p)

-- room for two texts
pub first_fits : (steady : ℕ → Type 0) (waited text more : List ℕ) (room : ℕ) → steady (length (waited ++ (text ++ more)) + room) → steady (length waited + length text + (length more + room))
first_fits steady waited text more room h =
    let same : length (waited ++ (text ++ more)) + room ≡ length waited + length text + (length more + room) = omega (arith, length-append waited (text ++ more), length-append text more) in
    subst steady same h

pub then_fits : (steady : ℕ → Type 0) (waits more : List ℕ) (room : ℕ) → steady (length waits + (length more + room)) → steady (length (waits ++ more) + room)
then_fits steady waits more room h = let same : length waits + (length more + room) ≡ length (waits ++ more) + room = omega (arith, length-append waits more) in subst steady same h

-- a call of the sink behind one of the source
pub stopped_alone : {T : Type 0} (read reads write writes : ℕ) (r : Result T Stop) → read ≤ reads → IsStoppedByWrite write writes r → IsStopped read reads write writes r
stopped_alone {T} read reads write writes r less s = record { read_later = less; write_later = s.later; cause = by r s.cause }
  where
    by : (q : Result T Stop) → IfErr q (IsWriteStop write writes) → IfErr q (IsStop read reads write writes)
    by (Ok u) h = tt
    by (Err stop) h = stop_so read reads write write writes stop (omega arith) h
