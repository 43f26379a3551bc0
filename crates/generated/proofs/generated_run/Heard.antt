-- What a channel hears of a generated packet.
use Rattle.std.proofs.Common.{◌≡◌, ℕ, ◌≤◌, Bool, false, nat_lt, if◌then◌else◌, [], length, replicate, refl, sym, ap, subst, ◌∙◌, inl, arith, length-append}
use Rattle.std.proofs.lemmas.Bool.Decides.{nat_tests}
use Rattle.std.proofs.lemmas.List.{length-replicate}
use Rattle.rams_model.specs.declared.LiveNote.TheVariants.{TooBig}
use Rattle.rams_model.specs.Formats.{spelling, packet_at, IsPacket}
use Rattle.rams_model.specs.Packets.{Arrival}
use Rattle.rams_model.specs.Service.{arrival, heard_packet, heard_live, live, dropped}
use Rattle.rams_model.proofs.RtpPackets.{read_so}
use Rattle.channel_cache.specs.{IsBare}
use Rattle.generated.specs.declared.trace_gen.page.Packet.{Packet}
use Rattle.generated.specs.trace_gen.{config, numbered, IsRead}
use Rattle.generated.proofs.trace_gen.Texts.{packet_length}

is_packet : (i n : ℕ) → IsPacket (numbered i n)
is_packet i n = record { payload_type = omega arith; sequence = omega arith; timestamp = omega arith; ssrc = omega arith; csrc = (0, omega arith, refl); extension = inl refl; padding = inl refl }

fits : (i n : ℕ) → n ≤ 1399 → length (spelling (numbered i n)) ≤ 1470
fits i n few =
    let zeros = length-replicate {A = ℕ} n 0 in
    let behind = length-append {A = ℕ} (replicate n 0) [] in
    omega (arith, few, zeros, behind, packet_length i n)

bare : (i n : ℕ) → n ≤ 1399 → IsBare (spelling (numbered i n))
bare i n few = record { packet = numbered i n; read = read_so (numbered i n) (is_packet i n); unpadded = refl; short = fits i n few }

heard : (i n : ℕ) → n ≤ 1399 → heard_live config.channel (spelling (numbered i n)) ≡ live (arrival config.channel (numbered i n))
heard i n few =
    let bytes = spelling (numbered i n) in
    let within = fits i n few in
    let small : nat_lt 1470 (length bytes) ≡ false = grind (arith, nat_tests) in
    ap (λ (b : Bool). if b then dropped TooBig else heard_packet config.channel (packet_at bytes)) small
    ∙ ap (heard_packet config.channel) (read_so (numbered i n) (is_packet i n))

-- what it brings
abbrev pub brought : Packet → Arrival
brought p = record { sequence = p.sequence; timestamp = p.timestamp; access = p.marker; packet = p.bytes }

pub heard_so : (p : Packet) → IsRead p → heard_live config.channel p.bytes ≡ live (brought p)
heard_so p r =
    let a = r.sequence in
    let b = r.timestamp in
    let d = r.marker in
    let e = r.bytes in
    let same : brought p ≡ arrival config.channel (numbered r.i r.size) = cc in
    ap (heard_live config.channel) r.bytes ∙ heard r.i r.size r.short ∙ ap live (sym same)

pub bare_so : (p : Packet) → IsRead p → IsBare p.bytes
bare_so p r = subst IsBare (sym r.bytes) (bare r.i r.size r.short)
