-- The definitions compute the lines.
use Rattle.std.proofs.Common.{refl}
use Rattle.std.specs.Fmt.{digits}
use Rattle.hex.specs.Hex.{encode_with}
use Rattle.rams_model.specs.Texts.{note_line, send_line}
use Rattle.meet_loop.specs.world_text.{world_line}
use Rattle.meet_loop.specs.world_text.Worked.{ReceptionLines, DatagramLines, RefusalLines}
use Rattle.meet_loop.proofs.world_text.rows.lines_of_notes.Goals as goal

computed : ReceptionLines × DatagramLines × RefusalLines
unfolding digits encode_with note_line send_line world_line
computed = ((refl, refl), refl, refl)

pub returns-clause-receptions : goal.returns-clause-receptions
returns-clause-receptions c = computed.0

pub returns-clause-datagrams : goal.returns-clause-datagrams
returns-clause-datagrams c = computed.1

pub returns-clause-refusals : goal.returns-clause-refusals
returns-clause-refusals c = computed.2
