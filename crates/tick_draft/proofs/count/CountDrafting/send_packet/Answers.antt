use Rattle.std.proofs.Common.{◌≡◌, ℕ, ◌+◌, ap, sym, ◌∙◌, subst, arith}
use Rattle.rams_model.specs.Formats.{wire_size}
use Rattle.tick_draft.specs.{sending_of, Counted, IsCountOf}
use Rattle.tick_draft.proofs.Tallied.{counts_sent}
use Rattle.tick_draft.proofs.count.CountDrafting.send_packet.Goals as goal

pub returns : goal.returns
returns c = λ d is.
    let here = c.self.inside in
    let size : wire_size c.args.held.now.packet ≡ c.len.result + c.from.result = omega (arith, c.len.ensures.value, c.from.ensures) in
    let old : Counted = record { steps = here.steps; left = here.left } in
    let new : Counted = record { steps = c.send.new.self; left = c.saturating_sub-self-inside.result } in
    counts_sent old new d c.args.note c.args.client c.args.seq c.args.held.now c.sending_of.result (subst (λ (x : Counted). IsCountOf x d) (sym c.self.view_is) is) (ap (λ (bytes : ℕ). sending_of bytes c.args.note) size ∙ c.sending_of.ensures) c.in_ok-send.ensures.sent (omega (arith, c.saturating_sub-self-inside.ensures, c.from-2.ensures))
