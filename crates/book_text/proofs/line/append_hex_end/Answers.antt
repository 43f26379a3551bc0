-- The room that is made is what the digits and the line feed take.
use Rattle.std.proofs.Common.{length, length-append, [], ◌∷◌, ap, arith}
use Rattle.rams_model.proofs.ListFacts.{on_failure}
use Rattle.hex.specs.Hex.{encode_lower}
use Rattle.rams_model.specs.Texts.{hex_word}
use Rattle.book_text.proofs.Digits.{digits_fit, two_digits}
use Rattle.book_text.proofs.line.append_hex_end.Goals as goal

pub returns-in_err-try_reserve-clause-full : goal.returns-in_err-try_reserve-clause-full
returns-in_err-try_reserve-clause-full c =
    let bytes = c.args.bytes.now in
    let line = length-append (hex_word bytes) (10 ∷ []) in
    on_failure c.from_residual-in_err-try_reserve.result _ (omega (arith, digits_fit bytes, line, c.in_err-try_reserve.ensures.full))

pub returns-in_err-push-clause-err : goal.returns-in_err-push-clause-err
returns-in_err-push-clause-err c =
    let bytes = c.args.bytes.now in
    let made = c.in_ok-append_encoded.ensures in
    let long = length-append c.try_reserve.new.self.items (encode_lower bytes) in
    absurd (omega (arith, two_digits bytes, ap length made.ok, long, c.in_ok-try_reserve.ensures.ok, c.in_err-push.ensures.full, made.room))
