use Rattle.wire_packets.proofs.rtx_payload.Originals.{restored}
use Rattle.wire_packets.proofs.rtx_payload.restoring.restoring_gives_the_original.Goals as goal

pub returns : goal.returns
returns c p rtx seq is small fits = restored p rtx seq is small fits
