use Rattle.std.proofs.Common.{◌≡◌, ℕ, ◌+◌, ◌-◌, ◌≤◌, List, ◌++◌, length, take, sym, ap, subst, ◌∙◌, arith, take-add}
use Rattle.std.specs.Io.KnownBytes.{Appends}
use Rattle.std.proofs.KnownBytes.{Appends-trans}
use Rattle.line_io.proofs.gather.put_all.Goals as goal

pub pieces-preserved : goal.pieces-preserved
pieces-preserved g c =
    let text = c.args.text.now in
    let at = c.pieces.at in
    let n = c.in_ok-at.field-0 in
    let rest = c.split_at.result.1.now in
    let before = g.K.Sink.held c.args.sink.now in
    let after = g.K.Sink.held c.put.new.self in
    let put = c.in_ok-at.ensures in
    let sent = Appends-trans before (g.K.Sink.held c.pieces.sink) after (take at text) (take n rest) c.pieces.invariant.sent put.bytes in
    record {
      within = omega (arith, put.bound, c.split_at.ensures.back_len);
      sent = subst (Appends before after) (ap (λ (t : List ℕ). take at text ++ take n t) c.split_at.ensures.back ∙ sym (take-add at n text)) sent;
      later = omega (arith, c.pieces.invariant.later, put.cause.later);
      steady = λ room steady.
          let fits : length rest ≤ length text - at + room = omega (arith, c.split_at.ensures.back_len) in
          let left : length text - at + room - n ≡ length text - (at + n) + room = omega (arith, put.bound, c.split_at.ensures.back_len) in
          subst (g.K.Sink.is_steady c.put.new.self) left (put.steady (length text - at + room) fits (c.pieces.invariant.steady room steady));
    }
