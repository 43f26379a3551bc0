pub mod LowBits
pub mod Numbers
pub use Rattle.reckoning.specs.ext_seq.LowBits.{IsResolved, IsLeastFrom}
unfoldable pub use Rattle.reckoning.specs.ext_seq.Numbers.{new_numbering, noted, moved, IsWithin, IsNumberWithin}
pub use Rattle.reckoning.specs.ext_seq.Numbers.{Seen, StandsFor}
