pub mod Idle
pub mod Order
pub mod Sends
unfoldable pub use Rattle.service_laws.specs.tick_laws.Idle.{serves, shows_life, IsIdleThrough, NobodyIsForgottenSooner, IsIdleAllThrough, NobodyIsForgottenLater}
pub use Rattle.service_laws.specs.tick_laws.Idle.{WasIdle}
unfoldable pub use Rattle.service_laws.specs.tick_laws.Order.{clients_served, Fall, BurstsAreServedByRisingClient, repairs_done, AreSomeOf, RepairsAreServedAsAsked}
pub use Rattle.service_laws.specs.tick_laws.Sends.{HadItsTurn}
unfoldable pub use Rattle.service_laws.specs.tick_laws.Sends.{MayKeep, EachWaitingRepairDidNotFit, RepairsGoneAreNotHeld, IsAtItsEnd, EachRunWentOn}
