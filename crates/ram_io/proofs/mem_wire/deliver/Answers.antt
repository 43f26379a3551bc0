use Rattle.std.proofs.Common.{length, refl}
use Rattle.ram_io.proofs.Copied.{take-copied}
use Rattle.ram_io.proofs.mem_wire.deliver.Goals as goal

pub returns-in-Datagram-clause-seen : goal.returns-in-Datagram-clause-seen
returns-in-Datagram-clause-seen c =
    let front = take-copied c.bytes.result.now c.copy_front-len.new.to _ 2000 c.copy_front-len.result (length c.args.buf.now) c.copy_front-len.ensures.count c.requires.room c.copy_front-len.ensures.copied in
    rw (front, c.bytes.ensures, c.in-Datagram.is) refl
