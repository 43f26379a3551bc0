-- What a live packet adds to those that came before it, and its note.
use Rattle.std.specs.Prelude.{ℕ, List, ◌∷◌, Option, Some, None}
use Rattle.rams_model.specs.declared.LiveNote.{LiveNote}
use Rattle.rams_model.specs.Service.{Settings, Heard, live, dropped, feedback, unframed, tick, heard_live}
use Rattle.rams_model.specs.Packets.{Arrival, stream_of, live_note}
use Rattle.channel_cache.specs.declared.incoming.Incoming.{Incoming}

-- a packet as it came
abbrev pub arrival_of : Incoming → Arrival
arrival_of i = record { sequence = i.sequence; timestamp = i.timestamp; access = i.access; packet = i.packet }

-- the note of what is heard after these live packets, where that is one
abbrev pub note_heard : ℕ → List Arrival → Heard → Option LiveNote
note_heard window arrivals (live a) = Some (live_note window (stream_of window arrivals) a.sequence)
note_heard window arrivals (dropped note) = Some note
note_heard window arrivals (feedback client messages) = None
note_heard window arrivals (unframed client fault) = None
note_heard window arrivals tick = None

-- the live packets with what is heard
abbrev pub arrivals_heard : List Arrival → Heard → List Arrival
arrivals_heard arrivals (live a) = a ∷ arrivals
arrivals_heard arrivals _ = arrivals

-- The note of the bytes of a live packet that comes after these, which passed the tests, the newest first.
abbrev pub live_note_of : Settings → List Arrival → List ℕ → Option LiveNote
live_note_of s arrivals bytes = note_heard s.channel.window arrivals (heard_live s.channel bytes)

-- Those that passed the tests, with it: a packet that fails one adds nothing.
abbrev pub arrivals_after : Settings → List ℕ → List Arrival → List Arrival
arrivals_after s bytes arrivals = arrivals_heard arrivals (heard_live s.channel bytes)
