-- A live packet in the history of a channel.
use Rattle.std.specs.Prelude.{◌≡◌, ℕ, List, ◌∷◌, Some, None}
use Rattle.rams_model.specs.declared.{Event.TheVariants.Live, LiveNote.LiveNote, Note.TheVariants.Live as LiveNoted}
use Rattle.rams_model.specs.Service.{Settings, heard_live, History, began, noted, arrivals, after}
use Rattle.channel_cache.specs.Arrivals.{live_note_of, arrivals_after}

-- What a lawful book notes of a live packet is this note alone, and the live packets are then those before it, with it.
pub record IsNotedSo (s : Settings) (bytes : List ℕ) (history : History) (note : LiveNote) : Type 0 where
  pub entered : after s (Live bytes) history ≡ noted (LiveNoted note) None ∷ began (heard_live s.channel bytes) ∷ history
  pub arrived : arrivals (after s (Live bytes) history) ≡ arrivals_after s bytes (arrivals history)

abbrev pub NotesAreOfTheBook : Type 0
NotesAreOfTheBook = (s : Settings) (bytes : List ℕ) (history : History) (note : LiveNote)
    → live_note_of s (arrivals history) bytes ≡ Some note → IsNotedSo s bytes history note
