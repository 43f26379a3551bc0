-- A packet without its padding is no longer.
use Rattle.std.proofs.Common.{◌≡◌, ℕ, ◌≤◌, List, [], ◌++◌, length, refl, ap, arith}
use Rattle.std.proofs.lemmas.List.{length-append}
use Rattle.rams_model.specs.Formats.{Packet, header, spelling, stripped}

header_length : (p : Packet) → length (header (record p { padding = [] })) ≡ length (header p)
unfolding header
header_length p = refl

pub stripped_fits : (p : Packet) (bytes : List ℕ) → spelling p ≡ bytes → length (stripped p) ≤ length bytes
unfolding spelling
stripped_fits p bytes is =
    let front = header p ++ p.csrc ++ p.extension ++ p.payload in
    let long = length-append front p.padding in
    let short = length-append (header (record p { padding = [] }) ++ p.csrc ++ p.extension ++ p.payload) [] in
    let same : length (header (record p { padding = [] }) ++ p.csrc ++ p.extension ++ p.payload) ≡ length front = simp (length-append {A = ℕ}) (omega (arith, header_length p)) in
    omega (arith, ap length is, long, short, same)
