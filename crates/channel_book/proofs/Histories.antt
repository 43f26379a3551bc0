-- Histories with one entry more, and beginnings of histories.
use Rattle.std.proofs.Common.{◌≡◌, ◌+◌, List, [], ◌∷◌, ◌++◌, length, refl, arith}
use Rattle.rams_model.specs.declared.Event.{Event}
use Rattle.rams_model.specs.Service.{Settings, answer}
use Rattle.channel_book.specs.declared.entry.Entry.{Entry}
use Rattle.channel_book.specs.{LegalFrom, events_behind}

pub events_snoc : (before : List Event) (entries : List Entry) (e : Entry) → events_behind before (entries ++ e ∷ []) ≡ e.event ∷ events_behind before entries
events_snoc before [] e = refl
events_snoc before (x ∷ later) e = events_snoc (x.event ∷ before) later e

-- an event an entry
pub as_many_behind : (before : List Event) (entries : List Entry) → length (events_behind before entries) ≡ length before + length entries
as_many_behind before [] = omega arith
as_many_behind before (x ∷ later) = omega (arith, as_many_behind (x.event ∷ before) later)

pub legal_snoc : (s : Settings) (before : List Event) (entries : List Entry) (e : Entry) → LegalFrom s before entries
    → e.answer ≡ answer s (events_behind before entries) e.event → LegalFrom s before (entries ++ e ∷ [])
legal_snoc s before [] e l is = (is, tt)
legal_snoc s before (x ∷ later) e l is = (l.0, legal_snoc s (x.event ∷ before) later e l.1 is)

-- a beginning of a legal history is legal
pub legal_front : (s : Settings) (before : List Event) (front later : List Entry) → LegalFrom s before (front ++ later) → LegalFrom s before front
legal_front s before [] later l = tt
legal_front s before (x ∷ front) later l = (l.0, legal_front s (x.event ∷ before) front later l.1)

-- the last answer of a legal history is lawful
pub legal_last : (s : Settings) (before : List Event) (entries : List Entry) (e : Entry) → LegalFrom s before (entries ++ e ∷ [])
    → e.answer ≡ answer s (events_behind before entries) e.event
legal_last s before [] e l = l.0
legal_last s before (x ∷ later) e l = legal_last s (x.event ∷ before) later e l.1
