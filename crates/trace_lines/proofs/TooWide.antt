-- A number of a channel that doesn't fit its type is out of its range.
use Rattle.std.proofs.Common.{◌≡◌, ◌<◌, false, arith}
use Rattle.std.proofs.lemmas.Bool.Decides.{nat_tests}
use Rattle.rams_model.specs.declared.Channel.{Channel}
use Rattle.rams_model.specs.Service.{channel_in_range}

pub wide_id : (c : Channel) → 65535 < c.id → channel_in_range c ≡ false
wide_id c h = grind (arith, nat_tests)

pub wide_pt : (c : Channel) → 255 < c.pt → channel_in_range c ≡ false
wide_pt c h = grind (arith, nat_tests)

pub wide_rtx : (c : Channel) → 255 < c.rtx → channel_in_range c ≡ false
wide_rtx c h = grind (arith, nat_tests)

pub wide_seq0 : (c : Channel) → 65535 < c.seq0 → channel_in_range c ≡ false
wide_seq0 c h = grind (arith, nat_tests)

pub wide_ring : (c : Channel) → 4294967295 < c.ring → channel_in_range c ≡ false
wide_ring c h = grind (arith, nat_tests)

pub wide_window : (c : Channel) → 4294967295 < c.window → channel_in_range c ≡ false
wide_window c h = grind (arith, nat_tests)

pub wide_limit : (c : Channel) → 4294967295 < c.limit → channel_in_range c ≡ false
wide_limit c h = grind (arith, nat_tests)

pub wide_idle : (c : Channel) → 4294967295 < c.idle → channel_in_range c ≡ false
wide_idle c h = grind (arith, nat_tests)

pub wide_clients : (c : Channel) → 4294967295 < c.clients → channel_in_range c ≡ false
wide_clients c h = grind (arith, nat_tests)
