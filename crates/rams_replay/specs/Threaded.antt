-- What the status of `threads` and of `pool` says.
use Rattle.std.specs.Prelude.{◌≡◌, ℕ, ◌⊎◌, List, All, Option}
use Rattle.rams_model.specs.declared.Status.{Status}
use Rattle.rams_model.specs.declared.Status.TheVariants.{Done, NoMemory, ReadFault, WriteFault, BadTrace, TooLong}
use Rattle.trace_loop.specs.trace_book.trace_serving.{served_text}
use Rattle.trace_loop.specs.{IfTold}
use Rattle.trace_loop.specs.trace_book.{EndsSo, IsServed, KeepsPromises, KeepsTheLink, served_by}
use Rattle.threads_loop.specs.{HasEnded, HasRoomFor, HasStopped, MayCome, threads}
use Rattle.pool.specs.pool_loop.{HasEnded as PoolHasEnded, HasRoomFor as PoolHasRoomFor, HasStopped as PoolHasStopped, pool}
use Rattle.rams_replay.specs.Statuses.{IsOrLacksMemory}

-- The command came to an end of its own, of which Ended tells; or memory, the source or the sink stopped it. It ends in no other way.
abbrev pub IsEndOr : (Status → Type 0) → Status → Type 0
IsEndOr Ended Done = Ended Done
IsEndOr Ended BadTrace = Ended BadTrace
IsEndOr Ended TooLong = Ended TooLong
IsEndOr Ended NoMemory = Unit {0}
IsEndOr Ended ReadFault = Unit {0}
IsEndOr Ended WriteFault = Unit {0}
IsEndOr Ended _ = ⊥

-- What a command leaves that may write one of several texts of the bytes that its source has, as threads come about: what that source had, whether it was steady, what the sink held and holds, and for how many bytes it was steady. Of the bytes it is said what the sink holds at an end with some status, what where something stopped it, which sinks have room for each of the texts, and with which status these end.
pub record WritesOneOf (Ended : List ℕ → Option (List ℕ) → Option (List ℕ) → Status → Type 0) (Stopped : List ℕ → Option (List ℕ) → Option (List ℕ) → Type 0) (HasRoom : List ℕ → (ℕ → Type 0) → Type 0) (end : List ℕ → Status)
    (left : Option (List ℕ)) (calm : Type 0) (held holds : Option (List ℕ)) (room : ℕ → Type 0) (status : Status) : Type 0 where
  -- where it came to an end of its own, the sink got one of the texts
  pub text : IfTold left (λ xs. IsEndOr (Ended xs held holds) status)
  -- whatever ended it, the sink got nothing, or a front of one of them
  pub front : IfTold left (λ xs. (holds ≡ held) ⊎ Stopped xs held holds)
  -- over a steady source, and a sink that is steady for each of the texts, it comes to its end, unless memory is lacking
  pub whole : calm → IfTold left (λ xs. HasRoom xs room → IsOrLacksMemory (end xs) status)

-- how a trace for threads ends
abbrev pub threads_end : List ℕ → Status
threads_end xs = (served_text threads xs).status

-- what `threads WORKERS` leaves: the text is a trace of an interleaving of the lists and that trace's book, or the line that says why there is none
abbrev pub WritesThreads : ℕ → Option (List ℕ) → Type 0 → Option (List ℕ) → Option (List ℕ) → (ℕ → Type 0) → Status → Type 0
WritesThreads workers = WritesOneOf (HasEnded workers) (HasStopped workers) (HasRoomFor workers) threads_end

-- how a trace for a shared link ends
abbrev pub pool_end : List ℕ → Status
pool_end xs = (served_text pool xs).status

-- what `pool RATE` leaves: the text is the one that `run` writes for the trace, and the ledger of a link that its channels share, or the line that says why there is none
abbrev pub WritesPool : ℕ → Option (List ℕ) → Type 0 → Option (List ℕ) → Option (List ℕ) → (ℕ → Type 0) → Status → Type 0
WritesPool rate = WritesOneOf (PoolHasEnded rate) (PoolHasStopped rate) (PoolHasRoomFor rate) pool_end

-- What is promised of a trace that is served: of what its lines bring, of how it ends, of its channels, and of the link.
pub record IsPromised (trace : List ℕ) : Type 0 where
  pub lines : IsServed trace
  pub ends : EndsSo trace
  pub lawful : All KeepsPromises (served_by trace)
  pub link : KeepsTheLink trace

-- so it is of each trace that may come of the lists of this one
abbrev pub ComesPromised : List ℕ → Type 0
ComesPromised xs = (workers : ℕ) (trace : List ℕ) → MayCome workers xs trace → IsPromised trace
