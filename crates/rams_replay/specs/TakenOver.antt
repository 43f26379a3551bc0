-- What the status of `takeover` says.
use Rattle.std.specs.Prelude.{ℕ, List, Option}
use Rattle.rams_model.specs.declared.Status.{Status}
use Rattle.rams_model.specs.declared.Status.TheVariants.{Done, NoMemory, ReadFault, WriteFault, BadTrace, WireFault, TooLong}
use Rattle.ram_io.specs.declared.Incoming.{Incoming}
use Rattle.ram_io.specs.{Outgoing}
use Rattle.serve_loop.specs.{Given}
use Rattle.takeover.specs.takeover_loop.{HasEnded, HasStopped}

-- Where the status is Done, BadTrace or TooLong the takeover came to its end, and what is written and sent is all of it; where something stopped it, fronts of it. It ends in no other way.
abbrev pub HasTakenOver : Given → Option (List ℕ) → Option (List ℕ) → Option (List Outgoing) → Option (List Outgoing) → Option (List Incoming) → Status → Type 0
HasTakenOver g held holds went sent left Done = HasEnded g held holds went sent left Done
HasTakenOver g held holds went sent left BadTrace = HasEnded g held holds went sent left BadTrace
HasTakenOver g held holds went sent left TooLong = HasEnded g held holds went sent left TooLong
HasTakenOver g held holds went sent left NoMemory = HasStopped g held holds went sent
HasTakenOver g held holds went sent left ReadFault = HasStopped g held holds went sent
HasTakenOver g held holds went sent left WriteFault = HasStopped g held holds went sent
HasTakenOver g held holds went sent left WireFault = HasStopped g held holds went sent
HasTakenOver g held holds went sent left _ = ⊥
