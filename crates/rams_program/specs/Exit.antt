-- The exit status of the program.
use Rattle.std.specs.Prelude.{ℕ}
use Rattle.rams_model.specs.declared.Status.{Status}
use Rattle.rams_model.specs.declared.Status.TheVariants.{Done, NoMemory, Words, ReadFault, WriteFault, BadTrace, WireFault, TooLong, BadCapture, BadSdp}

-- the number of a status
abbrev pub exit_number : Status → ℕ
exit_number Done = 0
exit_number NoMemory = 1
exit_number Words = 2
exit_number ReadFault = 3
exit_number WriteFault = 4
exit_number BadTrace = 5
exit_number WireFault = 6
exit_number TooLong = 7
exit_number BadCapture = 9
exit_number BadSdp = 10
