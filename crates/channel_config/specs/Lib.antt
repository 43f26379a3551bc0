pub mod Lawful
unfoldable pub use Rattle.channel_config.specs.Lawful.{PassIfLawful}
pub use Rattle.channel_config.specs.Lawful.{IsLawful}
