-- Each RAMS-T and each BYE is answered by the notes that its cause gives.
use Rattle.std.proofs.Common.{◌≡◌, ℕ, true, false, cond, not, ◌&&◌, List, [], ◌∷◌, ◌++◌, Option, Some, None, refl, sym, eqb}
use Rattle.std.specs.Prelude.{IsSomeAnd, Result, Ok, Err}
use Rattle.std.proofs.lemmas.Bool.{cond_both, both_ways, and_parts, and_from, not-true, not-false, eqb-true, eqb-false, true≢false}
use Rattle.rams_model.specs.declared.{Event.Event, TlvFault.TlvFault, Stop.Stop, Note.Note}
use Rattle.rams_model.specs.declared.Cause.TheVariants as cause
use Rattle.rams_model.specs.declared.Note.TheVariants as note
use Rattle.rams_model.specs.Service.{Settings, stop_of, bye, stops, told, noted, History, known, is_among, ssrc, Burst, next, open_burst, has_open, stop_set, on_stop, stop_burst, after_stop, is_bye_of, after_bye, history_of}
use Rattle.rams_model.specs.Formats.{Framed, bye_names}
use Rattle.service_laws.specs.book_laws.{AreNotes, items_of, AnsweredBy, AnswersStop, unread, idle, kept, set, passed, Leaves, AnswersBye, other, left, ended}
use Rattle.service_laws.specs.book_laws.Stops.{IsStopFor}
use Rattle.service_laws.proofs.book_laws.Answering.{are_whole}
use Rattle.service_laws.proofs.book_laws.RequestAnswers.{answered_by}
use Rattle.service_laws.proofs.book_laws.Stopping.{stop_for}

-- some notes of which this is true give the history that follows
record Gives (Answers : List Note → Type 0) (history after : History) : Type 0 where
  notes : List Note
  items : AreNotes (items_of notes)
  are : items_of notes ++ history ≡ after
  answers : Answers notes

set_gives : (s : Settings) (k : ℕ) (history : History) (stop : Stop) (b : Burst) (n : ℕ) → open_burst s k history ≡ Some b → b.stop ≡ None
    → IsStopFor b.first (next b) stop.first_multicast n → Gives (AnswersStop s k history (Ok stop)) history (stop_set k (next b) n history)
set_gives s k history stop b n e unset is =
    cond_both (eqb n (next b)) (noted (note.End k cause.Stopped) None ∷ noted (note.StopAt k n) None ∷ history) (noted (note.StopAt k n) None ∷ history)
    (Gives (AnswersStop s k history (Ok stop)) history)
    (λ t. record { notes = note.StopAt k n ∷ note.End k cause.Stopped ∷ []; items = tt; are = refl; answers = passed stop b n e unset is (eqb-true n (next b) t) })
    (λ f. record { notes = note.StopAt k n ∷ []; items = tt; are = refl; answers = set stop b n e unset is (eqb-false n (next b) f) })

on_gives : (s : Settings) (k : ℕ) (history : History) (stop : Stop) (b : Burst) (o : Option ℕ) → open_burst s k history ≡ Some b → b.stop ≡ o
    → Gives (AnswersStop s k history (Ok stop)) history (on_stop k b stop.first_multicast o history)
on_gives s k history stop b (Some n) e is = record { notes = note.StopKept k n ∷ []; items = tt; are = refl; answers = kept stop b n e is }
on_gives s k history stop b None e is =
    set_gives s k history stop b (stop_of b.first (next b) stop.first_multicast) e is (stop_for b.first (next b) stop.first_multicast)

burst_gives : (s : Settings) (k : ℕ) (history : History) (stop : Stop) (o : Option Burst) → open_burst s k history ≡ o
    → Gives (AnswersStop s k history (Ok stop)) history (stop_burst k stop.first_multicast o history)
burst_gives s k history stop None e = record { notes = note.StopIdle k ∷ []; items = tt; are = refl; answers = idle stop e }
burst_gives s k history stop (Some b) e = on_gives s k history stop b b.stop e refl

stop_gives : (s : Settings) (k : ℕ) (history : History) (stop : Result Stop TlvFault) → Gives (AnswersStop s k history stop) history (after_stop s k stop history)
stop_gives s k history (Err fault) = record { notes = note.Refuse k 404 ∷ []; items = tt; are = refl; answers = unread fault }
stop_gives s k history (Ok stop) = burst_gives s k history stop (open_burst s k history) refl

-- the BYE of a known client
names_source : (p : Framed) (o : Option ℕ) → is_bye_of p o ≡ true → IsSomeAnd o (λ source. bye_names p source ≡ true)
names_source p None e = absurd (true≢false (sym e))
names_source p (Some source) e = e

source_named : (p : Framed) (o : Option ℕ) → IsSomeAnd o (λ source. bye_names p source ≡ true) → is_bye_of p o ≡ true
source_named p None n = absurd n
source_named p (Some source) n = n

leaves : (k : ℕ) (history : History) (p : Framed) → (is_among k (known history) && is_bye_of p (ssrc k history)) ≡ true → Leaves k history p
leaves k history p t =
    let tests = and_parts (is_among k (known history)) (is_bye_of p (ssrc k history)) t in
    record { is_known = tests.0; names = names_source p (ssrc k history) tests.1 }

stays : (k : ℕ) (history : History) (p : Framed) → (is_among k (known history) && is_bye_of p (ssrc k history)) ≡ false → ¬ Leaves k history p
stays k history p f l =
    both_ways (is_among k (known history) && is_bye_of p (ssrc k history)) f
    (and_from (is_among k (known history)) (is_bye_of p (ssrc k history)) l.is_known (source_named p (ssrc k history) l.names))

bye_gives : (s : Settings) (k : ℕ) (history : History) (p : Framed) → Gives (AnswersBye s k history p) history (after_bye s k p history)
bye_gives s k history p =
    let gone = noted (note.Bye k) None ∷ history in
    let closed = noted (note.End k cause.Bye) None ∷ gone in
    let named = is_among k (known history) && is_bye_of p (ssrc k history) in
    cond_both (not named) (noted (note.ByeIdle k) None ∷ history) (cond (has_open s k history) closed gone) (Gives (AnswersBye s k history p) history)
    (λ t. record { notes = note.ByeIdle k ∷ []; items = tt; are = refl; answers = other (stays k history p (not-true named t)) })
    (λ f. cond_both (has_open s k history) closed gone (Gives (AnswersBye s k history p) history)
    (λ t. record { notes = note.Bye k ∷ note.End k cause.Bye ∷ []; items = tt; are = refl; answers = ended (leaves k history p (not-false named f)) t })
    (λ g. record { notes = note.Bye k ∷ []; items = tt; are = refl; answers = left (leaves k history p (not-false named f)) g }))

pub stop_answered : (s : Settings) (events : List Event) (k : ℕ) (stop : Result Stop TlvFault) (later before : History) → history_of s events ≡ later ++ told k (stops stop) ∷ before
    → (notes : List Note) × AnsweredBy later notes × AnswersStop s k (told k (stops stop) ∷ before) stop notes
stop_answered s events k stop later before e =
    let g = stop_gives s k (told k (stops stop) ∷ before) stop in
    (g.notes, answered_by s k (stops stop) before later g.notes (are_whole s events k (stops stop) later before e) g.items g.are, g.answers)

pub bye_answered : (s : Settings) (events : List Event) (k : ℕ) (p : Framed) (later before : History) → history_of s events ≡ later ++ told k (bye p) ∷ before
    → (notes : List Note) × AnsweredBy later notes × AnswersBye s k (told k (bye p) ∷ before) p notes
bye_answered s events k p later before e =
    let g = bye_gives s k (told k (bye p) ∷ before) p in
    (g.notes, answered_by s k (bye p) before later g.notes (are_whole s events k (bye p) later before e) g.items g.are, g.answers)
