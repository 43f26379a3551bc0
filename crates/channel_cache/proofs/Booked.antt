-- A live packet in a channel's book.
use Rattle.std.proofs.Common.{◌≡◌, ◌∷◌, Some, None, refl, ap, ◌∙◌}
use Rattle.rams_model.specs.declared.{LiveNote.LiveNote, Note.TheVariants.Live as LiveNoted}
use Rattle.rams_model.specs.Service.{Settings, Heard, live, dropped, feedback, unframed, tick, heard_live, heard_of, History, began, noted, arrivals, after_hearing}
use Rattle.rams_model.specs.Packets.{stream_of, live_note}
use Rattle.channel_cache.specs.{note_heard, arrivals_heard, NotesAreOfTheBook}

entered : (s : Settings) (h : Heard) (history : History) (note : LiveNote) → note_heard s.channel.window (arrivals history) h ≡ Some note → after_hearing s h history ≡ noted (LiveNoted note) None ∷ began h ∷ history
unfolding after_hearing
entered s (live a) history note is =
    let same : live_note s.channel.window (stream_of s.channel.window (arrivals history)) a.sequence ≡ note = cc in
    ap (λ n. noted (LiveNoted n) None ∷ began (live a) ∷ history) same
entered s (dropped other) history note is = let same : other ≡ note = cc in ap (λ n. noted (LiveNoted n) None ∷ began (dropped other) ∷ history) same
entered s (feedback client messages) history note is = absurd cc
entered s (unframed client fault) history note is = absurd cc
entered s tick history note is = absurd cc

arrived : (h : Heard) (history : History) (note : LiveNote) → arrivals (noted (LiveNoted note) None ∷ began h ∷ history) ≡ arrivals_heard (arrivals history) h
unfolding arrivals
arrived (live a) history note = refl
arrived (dropped other) history note = refl
arrived (feedback client messages) history note = refl
arrived (unframed client fault) history note = refl
arrived tick history note = refl

pub noted_so : NotesAreOfTheBook
unfolding heard_of
noted_so s bytes history note is =
    let entry = entered s (heard_live s.channel bytes) history note is in
    record { entered = entry; arrived = ap arrivals entry ∙ arrived (heard_live s.channel bytes) history note }
