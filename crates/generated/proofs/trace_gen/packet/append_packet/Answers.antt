-- A header, and a slice of zeros.
use Rattle.std.proofs.Common.{ℕ}
use Rattle.std.proofs.lemmas.List.{take-replicate}
use Rattle.generated.proofs.trace_gen.Texts.{put_together}
use Rattle.generated.proofs.trace_gen.packet.append_packet.Goals as goal

pub returns : goal.returns
returns c = put_together _ _ _ _ _ c.args.i c.args.size (c.header_of.ensures c.args.size) c.in_ok-extend_from_slice.ensures.items c.in_ok-extend_from_slice-2.ensures.items (take-replicate {X = ℕ} c.args.size 1399 0 c.requires.short)
