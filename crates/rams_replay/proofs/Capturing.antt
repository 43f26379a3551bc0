-- How `pcap` ends.
use Rattle.std.specs.Prelude.{◌⊎◌}
use Rattle.std.proofs.Common.{◌≡◌, ℕ, List, length, Option, None, Some, Result, Ok, Err, IfOk, refl, sym, subst, ap}
use Rattle.line_io.specs.Passes.{Passes}
use Rattle.rams_model.specs.declared.Status.{Status}
use Rattle.rams_model.specs.declared.Status.TheVariants.{Done, NoMemory, Words, ReadFault, WriteFault, BadTrace, WireFault, TooLong, BadCapture, BadSdp}
use Rattle.ram_io.specs.{Rose}
use Rattle.trace_loop.specs.trace_book.trace_serving.{Outcome}
use Rattle.trace_loop.specs.declared.Stop.{Stop}
use Rattle.trace_loop.specs.declared.Stop.TheVariants.{Memory, Read, Write, Wire}
use Rattle.trace_loop.specs.{IfTold, IfBothTold, IsStopped, OnlyMemoryStops}
use Rattle.converters.specs.capture_loop.{HasReadCapture, IsCaptureEnd, IsTrace, capture_text}
use Rattle.rams_replay.proofs.Ending.{IsWhole}
use Rattle.rams_replay.specs.{HasCapture, IsOrLacksMemory, WritesCapture, status_of}

-- no wire stops it
abbrev pub HasNoWire : Result Status Stop → Type 0
HasNoWire r = r ≡ Err Wire → ⊥

-- none of what stops it is the wire
pub no_wire : (read reads write writes : ℕ) (r : Result Status Stop) → IsStopped read reads write writes r → HasNoWire r
no_wire read reads write writes (Ok status) is e = cc
no_wire read reads write writes (Err Memory) is e = cc
no_wire read reads write writes (Err Read) is e = cc
no_wire read reads write writes (Err Write) is e = cc
no_wire read reads write writes (Err Wire) is e = is.cause

-- what the source ended
stopped_by_source : (r : Result Status Stop) → status_of r ≡ ReadFault → IfOk r IsCaptureEnd → r ≡ Err Read
stopped_by_source (Ok status) e ends = absurd (subst IsCaptureEnd e ends)
stopped_by_source (Err Memory) e ends = cc
stopped_by_source (Err Read) e ends = refl
stopped_by_source (Err Write) e ends = cc
stopped_by_source (Err Wire) e ends = cc

-- what came to its end
pub is_done : (r : Result Status Stop) → status_of r ≡ Done → r ≡ Ok Done
is_done (Ok status) e = ap Ok e
is_done (Err Memory) e = cc
is_done (Err Read) e = cc
is_done (Err Write) e = cc
is_done (Err Wire) e = cc

has_capture : (held holds : Option (List ℕ)) (o : Outcome) (r : Result Status Stop) → HasNoWire r → IfOk r IsCaptureEnd → IfOk r (IsWhole held holds o) → HasCapture held holds o (status_of r)
has_capture held holds o (Ok Done) wire ends text = (sym text.0, text.1)
has_capture held holds o (Ok BadTrace) wire ends text = (sym text.0, text.1)
has_capture held holds o (Ok BadCapture) wire ends text = (sym text.0, text.1)
has_capture held holds o (Ok TooLong) wire ends text = (sym text.0, text.1)
has_capture held holds o (Ok NoMemory) wire ends text = absurd ends
has_capture held holds o (Ok Words) wire ends text = absurd ends
has_capture held holds o (Ok ReadFault) wire ends text = absurd ends
has_capture held holds o (Ok WriteFault) wire ends text = absurd ends
has_capture held holds o (Ok WireFault) wire ends text = absurd ends
has_capture held holds o (Ok BadSdp) wire ends text = absurd ends
has_capture held holds o (Err Memory) wire ends text = tt
has_capture held holds o (Err Read) wire ends text = tt
has_capture held holds o (Err Write) wire ends text = tt
has_capture held holds o (Err Wire) wire ends text = absurd (wire refl)

or_lacks_memory : (held holds : Option (List ℕ)) (o : Outcome) (r : Result Status Stop) → IfOk r IsCaptureEnd → IfOk r (IsWhole held holds o) → OnlyMemoryStops r (Unit {0}) → IsOrLacksMemory o.status (status_of r)
or_lacks_memory held holds o (Ok Done) ends text only = text.0
or_lacks_memory held holds o (Ok BadTrace) ends text only = text.0
or_lacks_memory held holds o (Ok BadCapture) ends text only = text.0
or_lacks_memory held holds o (Ok TooLong) ends text only = text.0
or_lacks_memory held holds o (Ok NoMemory) ends text only = absurd ends
or_lacks_memory held holds o (Ok Words) ends text only = absurd ends
or_lacks_memory held holds o (Ok ReadFault) ends text only = absurd ends
or_lacks_memory held holds o (Ok WriteFault) ends text only = absurd ends
or_lacks_memory held holds o (Ok WireFault) ends text only = absurd ends
or_lacks_memory held holds o (Ok BadSdp) ends text only = absurd ends
or_lacks_memory held holds o (Err stop) ends text only = subst (λ (s : Stop). IsOrLacksMemory o.status (status_of (Err s))) (sym only) tt

module _ (port : ℕ) (leaves : Option (List ℕ)) (calm : Type 0) (held holds : Option (List ℕ)) (before now : ℕ) (room : ℕ → Type 0) where
  -- the capture's own text was written
  abbrev IsWritten : Option (List ℕ) → Status → Type 0
  IsWritten left status = IfTold left (λ xs. IsWhole held holds (capture_text port xs) status)

  texts : (left : Option (List ℕ)) (r : Result Status Stop) → HasNoWire r → IfOk r IsCaptureEnd → IfOk r (IsWritten left) → IfTold left (λ xs. HasCapture held holds (capture_text port xs) (status_of r))
  texts None r wire ends text = tt
  texts (Some xs) r wire ends text = has_capture held holds (capture_text port xs) r wire ends text

  wholes : (left : Option (List ℕ)) (r : Result Status Stop) → IfOk r IsCaptureEnd → IfOk r (IsWritten left)
      → IfTold left (λ xs. room (length (capture_text port xs).text) → OnlyMemoryStops r (Unit {0})) → IfTold left (λ xs. room (length (capture_text port xs).text) → IsOrLacksMemory (capture_text port xs).status (status_of r))
  wholes None r ends text only = tt
  wholes (Some xs) r ends text only = λ has. or_lacks_memory held holds (capture_text port xs) r ends text (only has)

  -- what the writing of a capture leaves
  pub writes_capture : (left : Option (List ℕ)) (r : Result Status Stop) → HasNoWire r → IfOk r IsCaptureEnd → IfOk r (IsWritten left) → (r ≡ Ok Done → IfTold left (IsTrace port))
      → IfTold left (λ xs. (rest : List ℕ) × Passes held holds (capture_text port xs).text rest) → (r ≡ Err Read → IfBothTold left leaves (HasReadCapture port held holds) ⊎ Rose before now)
      → (calm → IfTold left (λ xs. room (length (capture_text port xs).text) → OnlyMemoryStops r (Unit {0}))) → WritesCapture port left leaves calm held holds before now room (status_of r)
  writes_capture left r wire ends text trace front read steady = record {
    text = texts left r wire ends text;
    trace = λ e. trace (is_done r e);
    front = front;
    read = λ e. read (stopped_by_source r e ends);
    whole = λ still. wholes left r ends text (steady still);
  }
