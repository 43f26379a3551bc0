use Rattle.std.proofs.Common.{◌≡◌, ◌≢◌, [], sym, ap, subst, ◌∙◌}
use Rattle.rams_model.specs.Formats.{Packet, stripped}
use Rattle.wire_packets.proofs.rtp_record.Stripping.{none_at, bare_at, some_at}
use Rattle.wire_packets.proofs.rtp_record.rtp.Rtp.bare.Goals as goal

pub returns-then-self-clause-bytes : goal.returns-then-self-clause-bytes
returns-then-self-clause-bytes c =
    let inside = c.self.inside in
    sym (bare_at inside.bytes.now inside.extension_at inside.payload_at inside.padding_at c.self.invariant c.if-self.true)
    ∙ ap (λ (p : Packet). stripped p) c.self.view_is

pub returns-then-self-clause-bare : goal.returns-then-self-clause-bare
returns-then-self-clause-bare c =
    let inside = c.self.inside in
    subst (λ (p : Packet). p.padding ≡ []) c.self.view_is (none_at inside.bytes.now inside.extension_at inside.payload_at inside.padding_at c.self.invariant c.if-self.true)

pub returns-else-self-clause-padded : goal.returns-else-self-clause-padded
returns-else-self-clause-padded c =
    let inside = c.self.inside in
    subst (λ (p : Packet). p.padding ≢ []) c.self.view_is (some_at inside.bytes.now inside.extension_at inside.payload_at inside.padding_at c.self.invariant c.if-self.false)
