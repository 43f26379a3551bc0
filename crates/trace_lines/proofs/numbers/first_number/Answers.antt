use Rattle.std.proofs.Common.{◌+◌, ◌-◌, arith, length, drop, get_or}
use Rattle.std.proofs.lemmas.List.{take_all, length-drop}
use Rattle.trace_lines.proofs.FirstNumber.{number_alone, number_first, not_led}
use Rattle.trace_lines.proofs.numbers.first_number.Goals as goal

pub returns-then-count-bytes-2 : goal.returns-then-count-bytes-2
returns-then-count-bytes-2 c =
    let read = c.leading_digits-value in
    number_alone c.args.bytes.now read.result.1 read.result.0 c.if-count-bytes-2.true (omega arith) read.ensures.few read.ensures.digits read.ensures.value
    (not_led read.result.1 (get_or c.args.bytes.now 0 0) c.if-count-bytes.false)

pub returns : goal.returns
returns c =
    let read = c.leading_digits-value in
    let bytes = c.args.bytes.now in
    let rest = drop (read.result.1 + 1) bytes in
    let all = take_all (length bytes - (read.result.1 + 1)) rest (omega (arith, length-drop (read.result.1 + 1) bytes)) in
    rw all (number_first bytes read.result.1 read.result.0 (omega (arith, read.ensures.within)) c.if-bytes-count-ne32.false (omega arith) read.ensures.few read.ensures.digits read.ensures.value
    (not_led read.result.1 (get_or bytes 0 0) c.if-count-bytes.false))
