-- A quiet burst, and the lists of numbers that catch up: why a burst keeps the join time that its client was told.
use Rattle.std.specs.Prelude.{◌≡◌, ℕ, ◌+◌, ◌*◌, ◌<◌, ◌≤◌, ◌⊎◌, ◌==◌, if◌then◌else◌, List, [], ◌∷◌, drop}
use Rattle.std.specs.List.{AllByRecursion}
use Rattle.rams_model.specs.declared.held.Held.{Held}
use Rattle.rams_model.specs.declared.note.Note.TheVariants.{Accept, Update, End}
use Rattle.rams_model.specs.Service.{Settings, opened, is_among, tick, began, noted, History, stream}
use Rattle.rams_model.specs.Packets.{wires, from_number, Follows}
use Rattle.rams_model.specs.Packets.Source as sources

-- the source list
abbrev pub source : Settings → History → List Held
source s history = sources.source s.channel.window (stream s history)

-- A pair is the bytes that a burst has before it and the bytes that it keeps. From one pair to the next it comes nearer by the gain, what it keeps more or less counted in; or nothing is left.
abbrev pub ComesNearer : ℕ → ℕ × ℕ → ℕ × ℕ → Type 0
ComesNearer gain p q = (q.0 ≡ 0) ⊎ ((q.0 ≤ p.0) × (q.1 < q.0) × (q.0 + gain + p.1 ≤ p.0 + q.1))

-- each pair and the one after it
abbrev pub CatchesUp : ℕ → List (ℕ × ℕ) → Type 0
CatchesUp gain [] = Unit {0}
CatchesUp gain (p ∷ []) = Unit {0}
CatchesUp gain (p ∷ q ∷ ps) = ComesNearer gain p q × CatchesUp gain (q ∷ ps)

-- nothing is left in any of the pairs
abbrev pub NothingIsLeft : List (ℕ × ℕ) → Type 0
NothingIsLeft [] = Unit {0}
NothingIsLeft (p ∷ ps) = (p.0 ≡ 0) × NothingIsLeft ps

-- The law of catching up: after as many steps as gain what stood before the first pair, nothing is left, and stays so.
abbrev pub CatchingUpEnds : Type 0
CatchingUpEnds = (gain steps : ℕ) (p : ℕ × ℕ) (ps : List (ℕ × ℕ)) → CatchesUp gain (p ∷ ps) → p.0 ≤ steps * gain → NothingIsLeft (drop steps (p ∷ ps))

-- the history before the client's last End
unfoldable pub until_end : ℕ → History → History
until_end k [] = []
until_end k (noted (End client cause) packet ∷ history) = if client == k then history else until_end k history
until_end k (_ ∷ history) = until_end k history

-- The history as the client's last Accept was noted, and as each tick since began, the newest first.
unfoldable pub moments : ℕ → History → List History
moments k [] = []
moments k (noted (Accept client first rate join) packet ∷ history) = if client == k then history ∷ [] else moments k history
moments k (began tick ∷ history) = history ∷ moments k history
moments k (_ ∷ history) = moments k history

-- from each of these moments to the next, the newest first, packets of at most what is declared join the source
abbrev pub JoinsSlowly : Settings → List History → Type 0
JoinsSlowly s [] = Unit {0}
JoinsSlowly s (later ∷ []) = Unit {0}
JoinsSlowly s (later ∷ before ∷ moments) = (wires (source s later) ≤ wires (source s before) + s.channel.declared) × JoinsSlowly s (before ∷ moments)

-- the packets have at least this wire size
abbrev pub AreAtLeast : ℕ → List Held → Type 0
AreAtLeast size held = AllByRecursion (λ h. size ≤ h.wire) held

-- From a burst's first packet on nothing is missing in the source, no packet is smaller than declared, and no tick brings more than declared.
pub record IsQuiet (s : Settings) (k first : ℕ) (history : History) : Type 0 where
  pub follows : Follows first (from_number first (source s history))
  pub sizes : AreAtLeast s.channel.minwire (from_number first (source s history))
  pub joins : JoinsSlowly s (moments k history)

-- the history for as long as the client's newest burst is open
abbrev pub while_open : ℕ → History → History
while_open k history = if is_among k (opened history) then history else until_end k history

-- A client's newest burst, with this first number, is quiet: from its Accept until its End, or until now.
abbrev pub IsQuietBurst : Settings → ℕ → ℕ → History → Type 0
IsQuietBurst s k first history = IsQuiet s k first (while_open k history)

-- The join time that the client was told last, in ticks: that of its latest Accept or Update.
unfoldable pub told_join : ℕ → History → ℕ
told_join k [] = 0
told_join k (noted (Accept client first rate join) packet ∷ history) = if client == k then join else told_join k history
told_join k (noted (Update client rate join) packet ∷ history) = if client == k then join else told_join k history
told_join k (_ ∷ history) = told_join k history
