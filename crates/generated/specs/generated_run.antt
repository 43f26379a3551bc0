pub mod Running
unfoldable pub use Rattle.generated.specs.generated_run.Running.{IsBrief}
pub use Rattle.generated.specs.generated_run.Running.{IsRunning}
