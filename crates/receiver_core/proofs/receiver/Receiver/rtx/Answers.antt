-- What was got, and the bounds of its numbers.
use Rattle.std.proofs.Common.{◌≡◌, subst}
use Rattle.rams_model.specs.Receiver.{after_media, brought_again}
use Rattle.receiver_core.specs.{Seen, with_got}
use Rattle.receiver_core.proofs.Calls.{after_unfit}
use Rattle.receiver_core.proofs.receiver.Receiver.rtx.Goals as goal

pub returns-in-Err-clause-after : goal.returns-in-Err-clause-after
returns-in-Err-clause-after c =
    let i = c.self.inside in
    let s : Seen = record { tuned = i.tuned; got = record { named = i.named; ended = i.ended; play = i.play } } in
    subst (λ (t : Seen). t ≡ with_got (after_media (brought_again t.tuned c.args.bytes.now) t.got) t) c.self.view_is
    (after_unfit s (brought_again s.tuned c.args.bytes.now) c.in-Err.came c.in-Err.ensures)
