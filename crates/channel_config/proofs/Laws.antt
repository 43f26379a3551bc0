-- Lawful settings and their tests.
use Rattle.std.proofs.Common.{◌≡◌, ◌≢◌, ◌+◌, ◌≤◌, true, ◌&&◌, Ok, arith}
use Rattle.std.proofs.lemmas.Bool.Decides.{nat_tests}
use Rattle.rams_model.specs.Service.{Settings, checked, channel_in_range, tick_in_range}
use Rattle.channel_config.specs.{IsLawful}

-- settings are lawful where the tests of their ranges and of their rules hold
pub lawful_from_tests : (s : Settings) → (tick_in_range s.tick && channel_in_range s.channel) ≡ true → s.channel.pt ≢ s.channel.rtx → s.channel.declared + 1500 ≤ s.channel.burst → s.channel.reserve + s.channel.burst + s.channel.depth ≤ s.channel.share → IsLawful s
lawful_from_tests s ranges differ burst share = record {
  tick_least = grind (arith, nat_tests);
  tick_most = grind (arith, nat_tests);
  id_least = grind (arith, nat_tests);
  id_most = grind (arith, nat_tests);
  pt_most = grind (arith, nat_tests);
  rtx_most = grind (arith, nat_tests);
  seq0_most = grind (arith, nat_tests);
  ring_least = grind (arith, nat_tests);
  ring_most = grind (arith, nat_tests);
  window_most = grind (arith, nat_tests);
  share_least = grind (arith, nat_tests);
  share_most = grind (arith, nat_tests);
  reserve_least = grind (arith, nat_tests);
  reserve_most = grind (arith, nat_tests);
  burst_least = grind (arith, nat_tests);
  burst_most = grind (arith, nat_tests);
  declared_most = grind (arith, nat_tests);
  minwire_least = grind (arith, nat_tests);
  minwire_most = grind (arith, nat_tests);
  limit_least = grind (arith, nat_tests);
  limit_most = grind (arith, nat_tests);
  idle_least = grind (arith, nat_tests);
  idle_most = grind (arith, nat_tests);
  clients_least = grind (arith, nat_tests);
  clients_most = grind (arith, nat_tests);
  depth_most = grind (arith, nat_tests);
  swell_most = grind (arith, nat_tests);
  types_differ = differ;
  burst_holds = burst;
  share_holds = share;
}

-- settings that pass are lawful
pub IsLawful-from_checked : (s : Settings) → checked s ≡ Ok s → IsLawful s
unfolding checked
IsLawful-from_checked s h =
    lawful_from_tests s (grind (arith, nat_tests)) (grind (arith, nat_tests)) (grind (arith, nat_tests)) (grind (arith, nat_tests))

-- lawful settings pass
pub checked-from_IsLawful : (s : Settings) → IsLawful s → checked s ≡ Ok s
unfolding checked
checked-from_IsLawful s h = grind (arith, nat_tests)
