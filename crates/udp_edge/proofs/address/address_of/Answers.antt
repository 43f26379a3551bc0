use Rattle.std.proofs.Common.{◌≡◌, ◌/◌, ◌^◌, ◌<◌, ap, ◌∙◌, arith}
use Rattle.std.proofs.lemmas.Nat.{from_be_bytes-to_be_bytes_4}
use Rattle.std.specs.Int.{w32, from_be_bytes}
use Rattle.std.specs.Net.Addr.{ipv4_bits, IsIpv4OfBits}
use Rattle.udp_edge.proofs.address.address_of.Goals as goal

pub returns-clause-value : goal.returns-clause-value
unfolding ipv4_bits IsIpv4OfBits
returns-clause-value c =
    let quotient : c.in-Ok.ip ≡ c.args.number / 65536 = c.in-Ok.ensures.1 in
    let fits : c.in-Ok.ip < 2 ^ 32 = omega (arith, c.in-Ok.ensures.0, quotient) in
    let bits : ipv4_bits c.from_bits.result ≡ c.in-Ok.ip =
    ap (from_be_bytes w32) c.from_bits.ensures ∙ from_be_bytes-to_be_bytes_4 c.in-Ok.ip fits in
    rw (c.new.ensures.ip, c.new.ensures.port, bits, quotient) (omega arith)
