pub mod JoinTime
pub mod QuietTicks
pub mod Example
unfoldable pub use Rattle.reckoning.specs.burst_plan.JoinTime.{gain, JoinTimesAreLeast, JoinTimesAreKept}
pub use Rattle.reckoning.specs.burst_plan.JoinTime.{IsLeastTicks}
unfoldable pub use Rattle.reckoning.specs.burst_plan.QuietTicks.{sent, unsent, unspent, after, AreAtMost, AreQuiet, pair, pairs_after, QuietTicksComeNearer, QuietBurstsKeepTheirJoinTime, AreWithin, QuietBurstsFallBackNoFurther}
pub use Rattle.reckoning.specs.burst_plan.QuietTicks.{Burst, Tick, IsQuiet, IsLawful}
unfoldable pub use Rattle.reckoning.specs.burst_plan.Example.{packet, five_packets, tick, three_ticks}
pub use Rattle.reckoning.specs.burst_plan.Example.{CatchesUpInThreeTicks}
