use Rattle.std.proofs.Common.{sym, subst}
use Rattle.std.specs.Prelude.{All}
use Rattle.trace_loop.specs.trace_book.{IsOfBytes}
use Rattle.trace_loop.proofs.trace_book.Bytes.{trace_bytes}
use Rattle.trace_loop.proofs.trace_book.Lawful.{channels_lawful}
use Rattle.trace_loop.proofs.trace_book.laws.traces_are_served_lawfully.Goals as goal

pub returns : goal.returns
returns c trace k d less =
    let got = (c.traces_are_served_by_their_lines.ensures trace).got k d less in
    let lawful = channels_lawful trace (c.traces_are_served_so.ensures trace) k d less in
    c.channels_keep_their_promises.ensures _ lawful (subst (All IsOfBytes) (sym got) (trace_bytes trace _))
