-- How a command ends that writes the text of a trace.
use Rattle.std.specs.Prelude.{◌⊎◌}
use Rattle.ram_io.specs.{Rose}
use Rattle.std.proofs.Common.{◌≡◌, ℕ, List, length, Option, None, Some, Result, Ok, Err, IfOk, refl, sym, subst}
use Rattle.std.specs.Io.KnownBytes.{Appends}
use Rattle.line_io.specs.Passes.{Passes}
use Rattle.rams_model.specs.declared.Status.{Status}
use Rattle.rams_model.specs.declared.Status.TheVariants.{Done, NoMemory, Words, ReadFault, WriteFault, BadTrace, WireFault, TooLong, BadCapture, BadSdp}
use Rattle.trace_loop.specs.trace_book.trace_serving.{Serving, Outcome, served_text}
use Rattle.trace_loop.specs.declared.Stop.{Stop}
use Rattle.trace_loop.specs.declared.Stop.TheVariants.{Memory, Read, Write, Wire}
use Rattle.trace_loop.specs.{IfTold, IfBothTold, HasReadText, IsEnd, OnlyMemoryStops}
use Rattle.rams_replay.specs.{HasText, IsOrLacksMemory, Writes, status_of}

-- what the source ended
stopped_by_source : (result : Result Status Stop) → status_of result ≡ ReadFault → IfOk result IsEnd → result ≡ Err Read
stopped_by_source (Ok status) e ends = absurd (subst IsEnd e ends)
stopped_by_source (Err Memory) e ends = cc
stopped_by_source (Err Read) e ends = refl
stopped_by_source (Err Write) e ends = cc
stopped_by_source (Err Wire) e ends = cc

-- the whole text of an outcome, with its status
abbrev pub IsWhole : Option (List ℕ) → Option (List ℕ) → Outcome → Status → Type 0
IsWhole held holds o status = (status ≡ o.status) × Appends held holds o.text

has_text : (held holds : Option (List ℕ)) (o : Outcome) (r : Result Status Stop) → IfOk r (IsWhole held holds o) → HasText held holds o (status_of r)
has_text held holds o (Ok Done) text = (sym text.0, text.1)
has_text held holds o (Ok BadTrace) text = (sym text.0, text.1)
has_text held holds o (Ok TooLong) text = (sym text.0, text.1)
has_text held holds o (Ok NoMemory) text = tt
has_text held holds o (Ok Words) text = tt
has_text held holds o (Ok ReadFault) text = tt
has_text held holds o (Ok WriteFault) text = tt
has_text held holds o (Ok WireFault) text = tt
has_text held holds o (Ok BadCapture) text = tt
has_text held holds o (Ok BadSdp) text = tt
has_text held holds o (Err Memory) text = tt
has_text held holds o (Err Read) text = tt
has_text held holds o (Err Write) text = tt
has_text held holds o (Err Wire) text = tt

or_lacks_memory : (held holds : Option (List ℕ)) (o : Outcome) (r : Result Status Stop) → IfOk r (IsWhole held holds o) → OnlyMemoryStops r (Unit {0}) → IsOrLacksMemory o.status (status_of r)
or_lacks_memory held holds o (Ok Done) text only = text.0
or_lacks_memory held holds o (Ok BadTrace) text only = text.0
or_lacks_memory held holds o (Ok TooLong) text only = text.0
or_lacks_memory held holds o (Ok NoMemory) text only = tt
or_lacks_memory held holds o (Ok Words) text only = text.0
or_lacks_memory held holds o (Ok ReadFault) text only = text.0
or_lacks_memory held holds o (Ok WriteFault) text only = text.0
or_lacks_memory held holds o (Ok WireFault) text only = text.0
or_lacks_memory held holds o (Ok BadCapture) text only = text.0
or_lacks_memory held holds o (Ok BadSdp) text only = text.0
or_lacks_memory held holds o (Err stop) text only = subst (λ (s : Stop). IsOrLacksMemory o.status (status_of (Err s))) (sym only) tt

module _ {State Event : Type 0} (s : Serving State Event) (leaves : Option (List ℕ)) (calm : Type 0) (held holds : Option (List ℕ)) (before now : ℕ) (room : ℕ → Type 0) where
  texts : (left : Option (List ℕ)) (r : Result Status Stop) → IfOk r (λ status. IfTold left (λ xs. IsWhole held holds (served_text s xs) status)) → IfTold left (λ xs. HasText held holds (served_text s xs) (status_of r))
  texts None r text = tt
  texts (Some xs) r text = has_text held holds (served_text s xs) r text

  wholes : (left : Option (List ℕ)) (r : Result Status Stop) → IfOk r (λ status. IfTold left (λ xs. IsWhole held holds (served_text s xs) status))
      → IfTold left (λ xs. room (length (served_text s xs).text) → OnlyMemoryStops r (Unit {0})) → IfTold left (λ xs. room (length (served_text s xs).text) → IsOrLacksMemory (served_text s xs).status (status_of r))
  wholes None r text only = tt
  wholes (Some xs) r text only = λ has. or_lacks_memory held holds (served_text s xs) r text (only has)

  -- what a run over the lines of the trace leaves
  pub writes : (left : Option (List ℕ)) (r : Result Status Stop) → IfOk r IsEnd → IfOk r (λ status. IfTold left (λ xs. IsWhole held holds (served_text s xs) status))
      → IfTold left (λ xs. (rest : List ℕ) × Passes held holds (served_text s xs).text rest) → (r ≡ Err Read → IfBothTold left leaves (HasReadText s held holds) ⊎ Rose before now)
      → (calm → IfTold left (λ xs. room (length (served_text s xs).text) → OnlyMemoryStops r (Unit {0}))) → Writes s left leaves calm held holds before now room (status_of r)
  writes left r ends text front read steady = record {
    text = texts left r text;
    front = front;
    read = λ e. read (stopped_by_source r e ends);
    whole = λ still. wholes left r text (steady still);
  }
