pub mod Claims
pub mod Sharing
pub mod Steps
pub mod Parties
unfoldable pub use Rattle.pool.specs.link_pool.Claims.{claim, is_of, claims_of, bytes_of, claimed, Adjoin, has_byte, is_paid, PaidWithin}
unfoldable pub use Rattle.pool.specs.link_pool.Parties.{fresh_ticker, fresh_takers, granted_more, claims_given, NotAmong}
pub use Rattle.pool.specs.link_pool.Claims.{Fill}
pub use Rattle.pool.specs.link_pool.Parties.{Divided, Granter, Claimer}
