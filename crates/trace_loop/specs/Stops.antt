-- Why a call stops, and what it needs so that it doesn't.
use Rattle.std.specs.Prelude.{◌≡◌, ℕ, ◌≤◌, List, ◌++◌, Option, Result, Ok, Err, MatchResult, IfErr}
use Rattle.line_io.specs.Passes.{Passes}
use Rattle.rams_model.specs.declared.Status.{Status}
use Rattle.ram_io.specs.{Rose}
use Rattle.trace_loop.specs.declared.stop.Stop.{Stop}
use Rattle.trace_loop.specs.declared.stop.Stop.TheVariants.{Memory, Read, Write, Wire}

-- the sink's faults rose where the stop is said to be the sink's
abbrev pub IsWriteStop : ℕ → ℕ → Stop → Type 0
IsWriteStop before now Memory = Unit {0}
IsWriteStop before now Read = ⊥
IsWriteStop before now Write = Rose before now
IsWriteStop before now Wire = ⊥

-- The sink's count of faults didn't fall, and it rose where the sink is said to have stopped the call. Neither the source nor the wire is.
pub record IsStoppedByWrite {T : Type 0} (before now : ℕ) (result : Result T Stop) : Type 0 where
  pub later : before ≤ now
  pub cause : IfErr result (IsWriteStop before now)

-- only want of memory stops the call, and P holds where nothing does
abbrev pub OnlyMemoryStops : {T : Type 0} → Result T Stop → Type 0 → Type 0
OnlyMemoryStops result P = MatchResult result (λ _. P) (λ stop. stop ≡ Memory)

-- the source's faults rose where the stop is said to be the source's
abbrev pub IsReadStop : ℕ → ℕ → Stop → Type 0
IsReadStop before now Memory = Unit {0}
IsReadStop before now Read = Rose before now
IsReadStop before now Write = ⊥
IsReadStop before now Wire = ⊥

-- The source's count of faults didn't fall, and it rose where the source is said to have stopped the call. Neither the sink nor the wire is.
pub record IsStoppedByRead {T : Type 0} (before now : ℕ) (result : Result T Stop) : Type 0 where
  pub later : before ≤ now
  pub cause : IfErr result (IsReadStop before now)

-- either of the two, and no wire
abbrev pub IsStop : ℕ → ℕ → ℕ → ℕ → Stop → Type 0
IsStop read reads write writes Memory = Unit {0}
IsStop read reads write writes Read = Rose read reads
IsStop read reads write writes Write = Rose write writes
IsStop read reads write writes Wire = ⊥

pub record IsStopped {T : Type 0} (read reads write writes : ℕ) (result : Result T Stop) : Type 0 where
  pub read_later : read ≤ reads
  pub write_later : write ≤ writes
  pub cause : IfErr result (IsStop read reads write writes)

-- A front of the text went to the sink. Where the sink didn't stop the call, what waits goes on from there.
abbrev pub StopsIn : Option (List ℕ) → Option (List ℕ) → List ℕ → List ℕ → Stop → Type 0
StopsIn held holds text waits Memory = (more : List ℕ) × Passes held holds text (waits ++ more)
StopsIn held holds text waits Read = (more : List ℕ) × Passes held holds text (waits ++ more)
StopsIn held holds text waits Write = (rest : List ℕ) × Passes held holds text rest
StopsIn held holds text waits Wire = (more : List ℕ) × Passes held holds text (waits ++ more)

-- a run that ended so ends so still, or is stopped by the sink
abbrev pub EndsAs : ℕ → ℕ → Result Status Stop → Result Status Stop → Type 0
EndsAs before now (Ok status) result = MatchResult result (λ s. s ≡ status) (IsWriteStop before now)
EndsAs before now (Err stop) result = result ≡ Err stop
