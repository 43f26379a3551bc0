-- How a command ends that may write one of several texts.
use Rattle.std.specs.Prelude.{◌⊎◌}
use Rattle.std.proofs.Common.{◌≡◌, ℕ, List, [], Option, None, Some, Result, Ok, Err, IfOk, IfErr, refl, sym, subst, inr}
use Rattle.line_io.proofs.Passing.{Passes-all}
use Rattle.rams_model.specs.declared.Status.{Status}
use Rattle.rams_model.specs.declared.Status.TheVariants.{Done, NoMemory, Words, ReadFault, WriteFault, BadTrace, WireFault, TooLong, BadCapture, BadSdp}
use Rattle.trace_loop.specs.declared.Stop.{Stop}
use Rattle.trace_loop.specs.declared.Stop.TheVariants.{Memory, Read, Write, Wire}
use Rattle.trace_loop.specs.{IfTold, IsEnd, OnlyMemoryStops}
use Rattle.threads_loop.specs.{HasEnded, HasRoomFor, HasStopped, MayWrite}
use Rattle.pool.specs.pool_loop.{HasEnded as PoolHasEnded, HasRoomFor as PoolHasRoomFor, HasStopped as PoolHasStopped, MayWrite as PoolMayWrite}
use Rattle.rams_replay.specs.{IsEndOr, IsOrLacksMemory, WritesOneOf, WritesPool, WritesThreads, pool_end, status_of, threads_end}
use Rattle.rams_replay.proofs.Capturing.{HasNoWire}

is_end_or : (Ended : Status → Type 0) (r : Result Status Stop) → HasNoWire r → IfOk r IsEnd → IfOk r Ended → IsEndOr Ended (status_of r)
is_end_or Ended (Ok Done) wire ends text = text
is_end_or Ended (Ok BadTrace) wire ends text = text
is_end_or Ended (Ok TooLong) wire ends text = text
is_end_or Ended (Ok NoMemory) wire ends text = absurd ends
is_end_or Ended (Ok Words) wire ends text = absurd ends
is_end_or Ended (Ok ReadFault) wire ends text = absurd ends
is_end_or Ended (Ok WriteFault) wire ends text = absurd ends
is_end_or Ended (Ok WireFault) wire ends text = absurd ends
is_end_or Ended (Ok BadCapture) wire ends text = absurd ends
is_end_or Ended (Ok BadSdp) wire ends text = absurd ends
is_end_or Ended (Err Memory) wire ends text = tt
is_end_or Ended (Err Read) wire ends text = tt
is_end_or Ended (Err Write) wire ends text = tt
is_end_or Ended (Err Wire) wire ends text = absurd (wire refl)

or_lacks_memory : (end : Status) (r : Result Status Stop) → IfOk r IsEnd → IfOk r (λ status. status ≡ end) → OnlyMemoryStops r (Unit {0}) → IsOrLacksMemory end (status_of r)
or_lacks_memory end (Ok Done) ends is only = is
or_lacks_memory end (Ok BadTrace) ends is only = is
or_lacks_memory end (Ok TooLong) ends is only = is
or_lacks_memory end (Ok NoMemory) ends is only = absurd ends
or_lacks_memory end (Ok Words) ends is only = absurd ends
or_lacks_memory end (Ok ReadFault) ends is only = absurd ends
or_lacks_memory end (Ok WriteFault) ends is only = absurd ends
or_lacks_memory end (Ok WireFault) ends is only = absurd ends
or_lacks_memory end (Ok BadCapture) ends is only = absurd ends
or_lacks_memory end (Ok BadSdp) ends is only = absurd ends
or_lacks_memory end (Err stop) ends is only = subst (λ (s : Stop). IsOrLacksMemory end (status_of (Err s))) (sym only) tt

module _ (Ended : List ℕ → Option (List ℕ) → Option (List ℕ) → Status → Type 0) (Stopped : List ℕ → Option (List ℕ) → Option (List ℕ) → Type 0) (HasRoom : List ℕ → (ℕ → Type 0) → Type 0) (end : List ℕ → Status)
    (ends_so : (xs : List ℕ) (held holds : Option (List ℕ)) (status : Status) → Ended xs held holds status → status ≡ end xs)
    (is_front : (xs : List ℕ) (held holds : Option (List ℕ)) (status : Status) → Ended xs held holds status → Stopped xs held holds)
    (calm : Type 0) (held holds : Option (List ℕ)) (room : ℕ → Type 0) where
  abbrev HasEndedSo : Option (List ℕ) → Status → Type 0
  HasEndedSo left status = IfTold left (λ xs. Ended xs held holds status)

  abbrev IsFrontSo : Option (List ℕ) → Type 0
  IsFrontSo left = IfTold left (λ xs. (holds ≡ held) ⊎ Stopped xs held holds)

  texts : (left : Option (List ℕ)) (r : Result Status Stop) → HasNoWire r → IfOk r IsEnd → IfOk r (HasEndedSo left) → IfTold left (λ xs. IsEndOr (Ended xs held holds) (status_of r))
  texts None r wire ends text = tt
  texts (Some xs) r wire ends text = is_end_or (Ended xs held holds) r wire ends text

  -- what came to its end got such a text whole, and so a front of it
  fronts : (left : Option (List ℕ)) (r : Result Status Stop) → IfOk r (HasEndedSo left) → IfErr r (λ _. IsFrontSo left) → IsFrontSo left
  fronts None r text front = tt
  fronts (Some xs) (Ok status) text front = inr (is_front xs held holds status text)
  fronts (Some xs) (Err stop) text front = front

  ended_so : (xs : List ℕ) (r : Result Status Stop) → IfOk r (Ended xs held holds) → IfOk r (λ status. status ≡ end xs)
  ended_so xs (Ok status) text = ends_so xs held holds status text
  ended_so xs (Err stop) text = tt

  wholes : (left : Option (List ℕ)) (r : Result Status Stop) → IfOk r IsEnd → IfOk r (HasEndedSo left) → IfTold left (λ xs. HasRoom xs room → OnlyMemoryStops r (Unit {0})) → IfTold left (λ xs. HasRoom xs room → IsOrLacksMemory (end xs) (status_of r))
  wholes None r ends text only = tt
  wholes (Some xs) r ends text only = λ has. or_lacks_memory (end xs) r ends (ended_so xs r text) (only has)

  pub writes_one_of : (left : Option (List ℕ)) (r : Result Status Stop) → HasNoWire r → IfOk r IsEnd → IfOk r (HasEndedSo left) → IfErr r (λ _. IsFrontSo left)
      → (calm → IfTold left (λ xs. HasRoom xs room → OnlyMemoryStops r (Unit {0}))) → WritesOneOf Ended Stopped HasRoom end left calm held holds room (status_of r)
  writes_one_of left r wire ends text front steady = record {
    text = texts left r wire ends text;
    front = fronts left r text front;
    whole = λ still. wholes left r ends text (steady still);
  }

-- ---- `threads`

threads_ends_so : (workers : ℕ) (xs : List ℕ) (held holds : Option (List ℕ)) (status : Status) → HasEnded workers xs held holds status → status ≡ threads_end xs
threads_ends_so workers xs held holds status t = t.0

threads_is_front : (workers : ℕ) (xs : List ℕ) (held holds : Option (List ℕ)) (status : Status) → HasEnded workers xs held holds status → HasStopped workers xs held holds
threads_is_front workers xs held holds status t = (t.1, [], subst (λ (s : Status). MayWrite workers xs s t.1) t.0 t.2, Passes-all held holds t.1 t.3)

module _ (workers : ℕ) (calm : Type 0) (held holds : Option (List ℕ)) (room : ℕ → Type 0) where
  pub writes_threads : (left : Option (List ℕ)) (r : Result Status Stop) → HasNoWire r → IfOk r IsEnd → IfOk r (λ status. IfTold left (λ xs. HasEnded workers xs held holds status))
      → IfErr r (λ _. IfTold left (λ xs. (holds ≡ held) ⊎ HasStopped workers xs held holds))
      → (calm → IfTold left (λ xs. HasRoomFor workers xs room → OnlyMemoryStops r (Unit {0}))) → WritesThreads workers left calm held holds room (status_of r)
  writes_threads = writes_one_of (HasEnded workers) (HasStopped workers) (HasRoomFor workers) threads_end (threads_ends_so workers) (threads_is_front workers) calm held holds room

-- ---- `pool`

pool_ends_so : (rate : ℕ) (xs : List ℕ) (held holds : Option (List ℕ)) (status : Status) → PoolHasEnded rate xs held holds status → status ≡ pool_end xs
pool_ends_so rate xs held holds status t = t.0

pool_is_front : (rate : ℕ) (xs : List ℕ) (held holds : Option (List ℕ)) (status : Status) → PoolHasEnded rate xs held holds status → PoolHasStopped rate xs held holds
pool_is_front rate xs held holds status t = (t.1, [], subst (λ (s : Status). PoolMayWrite rate xs s t.1) t.0 t.2, Passes-all held holds t.1 t.3)

module _ (rate : ℕ) (calm : Type 0) (held holds : Option (List ℕ)) (room : ℕ → Type 0) where
  pub writes_pool : (left : Option (List ℕ)) (r : Result Status Stop) → HasNoWire r → IfOk r IsEnd → IfOk r (λ status. IfTold left (λ xs. PoolHasEnded rate xs held holds status))
      → IfErr r (λ _. IfTold left (λ xs. (holds ≡ held) ⊎ PoolHasStopped rate xs held holds))
      → (calm → IfTold left (λ xs. PoolHasRoomFor rate xs room → OnlyMemoryStops r (Unit {0}))) → WritesPool rate left calm held holds room (status_of r)
  writes_pool = writes_one_of (PoolHasEnded rate) (PoolHasStopped rate) (PoolHasRoomFor rate) pool_end (pool_ends_so rate) (pool_is_front rate) calm held holds room
