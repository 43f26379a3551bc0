-- Calls that are made again.
use Rattle.std.proofs.Common.{ℕ, List, Option, None, Some, Result, Ok, Err, subst}
use Rattle.std.specs.Io.KnownBytes.{Keeps, ReadConsumes, WriteAppends}

-- known bytes stay as they were through both
pub keeps_keeps : (was then now : Option (List ℕ)) → Keeps was then → Keeps then now → Keeps was now
keeps_keeps None then now first second = tt
keeps_keeps (Some xs) None now first second = absurd first
keeps_keeps (Some xs) (Some ys) now first second = subst (λ zs. Keeps (Some zs) now) first second

-- a read behind a call that took nothing
pub keeps_reads : {E : Type 0} → (was then now : Option (List ℕ)) (result : Result ℕ E) (buf : List ℕ) → Keeps was then → ReadConsumes then now result buf → ReadConsumes was now result buf
keeps_reads None then now (Ok n) buf first second = (tt, second.1)
keeps_reads None then now (Err e) buf first second = tt
keeps_reads (Some xs) None now result buf first second = absurd first
keeps_reads (Some xs) (Some ys) now result buf first second = subst (λ zs. ReadConsumes (Some zs) now result buf) first second

-- a write behind a call that wrote nothing
pub keeps_writes : {E : Type 0} → (was then now : Option (List ℕ)) (result : Result ℕ E) (piece : List ℕ) → Keeps was then → WriteAppends then now result piece → WriteAppends was now result piece
keeps_writes None then now (Ok n) piece first second = tt
keeps_writes None then now (Err e) piece first second = tt
keeps_writes (Some xs) None now result piece first second = absurd first
keeps_writes (Some xs) (Some ys) now result piece first second = subst (λ zs. WriteAppends (Some zs) now result piece) first second
