-- The end of what is held never falls.
use Rattle.std.proofs.Common.{◌≤◌, [], ◌∷◌, ◌++◌, arith, le_refl}
use Rattle.rams_model.specs.Service.{Settings, live, Item, began, told, noted, History, arrivals, hold}
use Rattle.rams_model.specs.Packets.{hi}
use Rattle.service_laws.proofs.book_laws.HeldPackets.{hi_grows}

pub hi_rises : (s : Settings) (i : Item) (history : History) → hi (hold s history) ≤ hi (hold s (i ∷ history))
unfolding arrivals
hi_rises s (began (live a)) history = hi_grows s a history
hi_rises s (began heard) history = le_refl (hi (hold s history))
hi_rises s (told client message) history = le_refl (hi (hold s history))
hi_rises s (noted n p) history = le_refl (hi (hold s history))

pub hi_never_falls : (s : Settings) (later history : History) → hi (hold s history) ≤ hi (hold s (later ++ history))
hi_never_falls s [] history = le_refl (hi (hold s history))
hi_never_falls s (i ∷ later) history = omega (arith, hi_never_falls s later history, hi_rises s i (later ++ history))
