-- How a server ends, as a status.
use Rattle.std.proofs.Common.{◌≡◌, ℕ, List, Option, Some, Result, Ok, Err, IfOk, IfErr, sym, subst, ◌∙◌}
use Rattle.rams_model.specs.declared.Status.{Status}
use Rattle.rams_model.specs.declared.Status.TheVariants.{Done, NoMemory, Words, ReadFault, WriteFault, BadTrace, WireFault, TooLong, BadCapture, BadSdp}
use Rattle.ram_io.specs.declared.Incoming.{Incoming}
use Rattle.ram_io.specs.{Outgoing}
use Rattle.trace_loop.specs.declared.Stop.{Stop}
use Rattle.trace_loop.specs.declared.Stop.TheVariants.{Memory, Read, Write, Wire}
use Rattle.serve_loop.specs.{Given, HasEnded, HasStopped, IsGiven, IsServeEnd, OnlyMemoryStops, served_text}
use Rattle.rams_replay.specs.declared.{words.Command.Command, words.Command.TheVariants.Serve}
use Rattle.rams_replay.specs.{HasServed, IsOrLacksMemory, status_of}

pub has_served : (g : Given) (held holds : Option (List ℕ)) (went sent : Option (List Outgoing)) (left : Option (List Incoming)) (r : Result Status Stop) → IfOk r IsServeEnd → IfOk r (HasEnded g held holds went sent left)
    → IfErr r (λ stop. HasStopped g held holds went sent) → HasServed g held holds went sent left (status_of r)
has_served g held holds went sent left (Ok Done) end ended stopped = ended
has_served g held holds went sent left (Ok BadTrace) end ended stopped = ended
has_served g held holds went sent left (Ok NoMemory) end ended stopped = absurd end
has_served g held holds went sent left (Ok Words) end ended stopped = absurd end
has_served g held holds went sent left (Ok ReadFault) end ended stopped = absurd end
has_served g held holds went sent left (Ok WriteFault) end ended stopped = absurd end
has_served g held holds went sent left (Ok WireFault) end ended stopped = absurd end
has_served g held holds went sent left (Ok TooLong) end ended stopped = absurd end
has_served g held holds went sent left (Ok BadCapture) end ended stopped = absurd end
has_served g held holds went sent left (Ok BadSdp) end ended stopped = absurd end
has_served g held holds went sent left (Err Memory) end ended stopped = stopped
has_served g held holds went sent left (Err Read) end ended stopped = stopped
has_served g held holds went sent left (Err Write) end ended stopped = stopped
has_served g held holds went sent left (Err Wire) end ended stopped = stopped

pub or_lacks_memory : (g : Given) (held holds : Option (List ℕ)) (went sent : Option (List Outgoing)) (left : Option (List Incoming)) (P : Type 0) (r : Result Status Stop) → IfOk r IsServeEnd → IfOk r (HasEnded g held holds went sent left)
    → OnlyMemoryStops r P → IsOrLacksMemory (served_text g).status (status_of r)
or_lacks_memory g held holds went sent left P (Ok Done) end ended only = ended.status_is
or_lacks_memory g held holds went sent left P (Ok BadTrace) end ended only = ended.status_is
or_lacks_memory g held holds went sent left P (Ok NoMemory) end ended only = absurd end
or_lacks_memory g held holds went sent left P (Ok Words) end ended only = absurd end
or_lacks_memory g held holds went sent left P (Ok ReadFault) end ended only = absurd end
or_lacks_memory g held holds went sent left P (Ok WriteFault) end ended only = absurd end
or_lacks_memory g held holds went sent left P (Ok WireFault) end ended only = absurd end
or_lacks_memory g held holds went sent left P (Ok TooLong) end ended only = absurd end
or_lacks_memory g held holds went sent left P (Ok BadCapture) end ended only = absurd end
or_lacks_memory g held holds went sent left P (Ok BadSdp) end ended only = absurd end
or_lacks_memory g held holds went sent left P (Err stop) end ended only = subst (λ (s : Stop). IsOrLacksMemory (served_text g).status (status_of (Err s))) (sym only) tt

-- one command has one port and one number of turns
pub same_serve : (o : Option Command) (p t port turns : ℕ) → o ≡ Some (Serve p t) → o ≡ Some (Serve port turns) → (p ≡ port) × (t ≡ turns)
same_serve o p t port turns a b =
    let both : Serve p t ≡ Serve port turns = cc in
    (by both, other both)
  where
    by : Serve p t ≡ Serve port turns → p ≡ port
    by e = cc

    other : Serve p t ≡ Serve port turns → t ≡ turns
    other e = cc

pub given_so : (g : Given) (p t port turns : ℕ) (source moments : Option (List ℕ)) (arrivals : Option (List Incoming)) → (p ≡ port) × (t ≡ turns) → IsGiven g port turns source arrivals moments → IsGiven g p t source arrivals moments
given_so g p t port turns source moments arrivals same is =
    record { live_is = is.live_is ∙ sym same.0; turns_are = is.turns_are ∙ sym same.1; source_is = is.source_is; arrivals_are = is.arrivals_are; moments_are = is.moments_are; can_arrive = is.can_arrive }
