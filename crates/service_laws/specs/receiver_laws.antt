pub mod Fair
pub mod Presenting
pub mod Worked
unfoldable pub use Rattle.service_laws.specs.receiver_laws.Fair.{IsOf, IsNear, IsWithin, IsFair, AreFair}
unfoldable pub use Rattle.service_laws.specs.receiver_laws.Presenting.{Presents, WhatIsPresentedIsAPrefix, IsMedia, WhatIsDeliveredIsPresented, presented_often, PresentingEnds}
pub use Rattle.service_laws.specs.receiver_laws.Presenting.{PresentsAPrefix, WasDelivered}
unfoldable pub use Rattle.service_laws.specs.receiver_laws.Worked.{AHandoverIsFair}
