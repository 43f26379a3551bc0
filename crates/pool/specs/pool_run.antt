pub mod Sizes
pub mod Lanes
unfoldable pub use Rattle.pool.specs.pool_run.Sizes.{sizes_of, AreSmall}
unfoldable pub use Rattle.pool.specs.pool_run.Lanes.{job, pairs, ran_of, ArePulled, HaveRun, AreBooks, ClaimsAreSizes, NoOthersClaim}
pub use Rattle.pool.specs.pool_run.Lanes.{IsFresh, IsBookOf, CanRun, HasRun}
