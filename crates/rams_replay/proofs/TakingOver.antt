-- How a takeover ends, as a status.
use Rattle.std.proofs.Common.{◌≡◌, ℕ, List, Option, Some, Result, Ok, Err, IfOk, IfErr, sym, subst}
use Rattle.rams_model.specs.declared.Status.{Status}
use Rattle.rams_model.specs.declared.Status.TheVariants.{Done, NoMemory, Words, ReadFault, WriteFault, BadTrace, WireFault, TooLong, BadCapture, BadSdp}
use Rattle.ram_io.specs.declared.Incoming.{Incoming}
use Rattle.ram_io.specs.{Outgoing}
use Rattle.trace_loop.specs.declared.Stop.{Stop}
use Rattle.trace_loop.specs.declared.Stop.TheVariants.{Memory, Read, Write, Wire}
use Rattle.serve_loop.specs.{Given, OnlyMemoryStops}
use Rattle.takeover.specs.takeover_loop.{HasEnded, HasStopped, IsTakeoverEnd, taken_text}
use Rattle.rams_replay.specs.declared.{words.Command.Command, words.Command.TheVariants.Takeover}
use Rattle.rams_replay.specs.{HasTakenOver, IsOrLacksMemory, status_of}

module _ (g : Given) (held holds : Option (List ℕ)) (went sent : Option (List Outgoing)) (left : Option (List Incoming)) where
  pub has_taken_over : (r : Result Status Stop) → IfOk r IsTakeoverEnd → IfOk r (HasEnded g held holds went sent left) → IfErr r (λ stop. HasStopped g held holds went sent) → HasTakenOver g held holds went sent left (status_of r)
  has_taken_over (Ok Done) end ended stopped = ended
  has_taken_over (Ok BadTrace) end ended stopped = ended
  has_taken_over (Ok TooLong) end ended stopped = ended
  has_taken_over (Ok NoMemory) end ended stopped = absurd end
  has_taken_over (Ok Words) end ended stopped = absurd end
  has_taken_over (Ok ReadFault) end ended stopped = absurd end
  has_taken_over (Ok WriteFault) end ended stopped = absurd end
  has_taken_over (Ok WireFault) end ended stopped = absurd end
  has_taken_over (Ok BadCapture) end ended stopped = absurd end
  has_taken_over (Ok BadSdp) end ended stopped = absurd end
  has_taken_over (Err Memory) end ended stopped = stopped
  has_taken_over (Err Read) end ended stopped = stopped
  has_taken_over (Err Write) end ended stopped = stopped
  has_taken_over (Err Wire) end ended stopped = stopped

  pub or_lacks_memory : (P : Type 0) (r : Result Status Stop) → IfOk r IsTakeoverEnd → IfOk r (HasEnded g held holds went sent left) → OnlyMemoryStops r P → IsOrLacksMemory (taken_text g).status (status_of r)
  or_lacks_memory P (Ok Done) end ended only = ended.status_is
  or_lacks_memory P (Ok BadTrace) end ended only = ended.status_is
  or_lacks_memory P (Ok TooLong) end ended only = ended.status_is
  or_lacks_memory P (Ok NoMemory) end ended only = absurd end
  or_lacks_memory P (Ok Words) end ended only = absurd end
  or_lacks_memory P (Ok ReadFault) end ended only = absurd end
  or_lacks_memory P (Ok WriteFault) end ended only = absurd end
  or_lacks_memory P (Ok WireFault) end ended only = absurd end
  or_lacks_memory P (Ok BadCapture) end ended only = absurd end
  or_lacks_memory P (Ok BadSdp) end ended only = absurd end
  or_lacks_memory P (Err stop) end ended only = subst (λ (s : Stop). IsOrLacksMemory (taken_text g).status (status_of (Err s))) (sym only) tt

-- one command has one port and one number of turns
pub same_takeover : (o : Option Command) (p t port turns : ℕ) → o ≡ Some (Takeover p t) → o ≡ Some (Takeover port turns) → (p ≡ port) × (t ≡ turns)
same_takeover o p t port turns a b =
    let both : Takeover p t ≡ Takeover port turns = cc in
    (by both, other both)
  where
    by : Takeover p t ≡ Takeover port turns → p ≡ port
    by e = cc

    other : Takeover p t ≡ Takeover port turns → t ≡ turns
    other e = cc
