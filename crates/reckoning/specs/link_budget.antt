pub mod Amounts
unfoldable pub use Rattle.reckoning.specs.link_budget.Amounts.{amounts, HasRoom}
pub use Rattle.reckoning.specs.link_budget.Amounts.{AreWithinShare}
