-- What may be written of a trace that is read to its end before anything is written.
use Rattle.std.specs.Prelude.{◌≡◌, ℕ, List, length, Option}
use Rattle.std.specs.Io.KnownBytes.{Appends}
use Rattle.line_io.specs.Passes.{Passes}
use Rattle.rams_model.specs.declared.Status.{Status}
use Rattle.trace_loop.specs.declared.whole_trace.ReadTrace.{ReadTrace}
use Rattle.trace_loop.specs.declared.whole_trace.ReadTrace.TheVariants as read
use Rattle.trace_loop.specs.trace_book.trace_serving.{Serving, served_text, refused, too_long}

module _ {State Event : Type 0} (s : Serving State Event) where
  -- What was read of a trace: all of it, or up to the line that ends it otherwise.
  abbrev pub HasReadSo : {Dealt : Type 0} → (List ℕ → Dealt → Type 0) → List ℕ → ReadTrace Dealt → Type 0
  HasReadSo IsReadOf xs (read.Lawful d) = IsReadOf xs d
  HasReadSo IsReadOf xs (read.Unlawful number fault) = served_text s xs ≡ refused number fault
  HasReadSo IsReadOf xs read.TooLong = served_text s xs ≡ too_long

  -- which texts may be written where a trace ends so
  module _ (MayWrite : List ℕ → Status → List ℕ → Type 0) where
    -- it ended as the trace xs does, and the sink got such a text
    abbrev pub HasEndedSo : List ℕ → Option (List ℕ) → Option (List ℕ) → Status → Type 0
    HasEndedSo xs held holds status = (status ≡ (served_text s xs).status) × (text : List ℕ) × MayWrite xs status text × Appends held holds text

    -- it was stopped, and the sink got a front of such a text
    abbrev pub HasStoppedSo : List ℕ → Option (List ℕ) → Option (List ℕ) → Type 0
    HasStoppedSo xs held holds = (text : List ℕ) × (rest : List ℕ) × MayWrite xs (served_text s xs).status text × Passes held holds text rest

    -- a sink that is steady for so many bytes has room for each text that may be written
    abbrev pub HasRoomSo : List ℕ → (ℕ → Type 0) → Type 0
    HasRoomSo xs room = (text : List ℕ) → MayWrite xs (served_text s xs).status text → room (length text)
