pub mod Exit
unfoldable pub use Rattle.rams_program.specs.Exit.{exit_number}
