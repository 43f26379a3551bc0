use Rattle.std.proofs.Common.{arith}
use Rattle.generated.proofs.trace_gen.Texts.{one_more}
use Rattle.generated.proofs.trace_gen.packet.packets_from.Goals as goal

pub loop-j-preserved : goal.loop-j-preserved
loop-j-preserved c = λ seed is.
    let l = c.loop-j in
    let old = l.invariant seed is in
    one_more seed c.args.block l.j _ _ l.state c.stepped-state.result (omega (arith, c.from-in-loop-j.ensures, c.from-in-loop-j-2.ensures)) old.0 c.stepped-state.ensures c.size_of.ensures.value l.text.items c.append_packet.new.page.items _ (omega arith) c.in_ok-append_packet.ensures old.1
